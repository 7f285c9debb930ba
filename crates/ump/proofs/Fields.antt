-- Parts of a word and fields by index: when a call on a field refuses, and what is read after a field was set.
-- Assumes nothing.
use mathlib.Core.Path.{◌≡◌, refl, sym, ap, ◌∙◌}
use mathlib.Core.Bool.{Bool, true, false}
use mathlib.Core.Logic.{inl, inr}
use Prim.Native.Nat.{ℕ, suc, ◌+◌, ◌-◌, ◌*◌, ◌/◌, ◌%◌, ◌^◌, ◌≤◌, ◌<◌}
use native.Mathlib.Nat.{mod-lt, mul-le-mul_right, suc-mul}
use native.Mathlib.Decide.{dec_lt}
use native.Mathlib.Omega.{arith}
use lib.Dec.{leb}
use lib.Pow.{pow_pos, high, low, shr-shr, field, mod-mod-pow}
use borrow.Author.Tests.{leb-false, le-leb, lt-leb}
use Rattle.refusal.specs.Answer.{gives, refused, ◌▷◌, guard}
use Rattle.refusal.proofs.Laws.{never_refused}
use Rattle.ump.specs.Word.{Field, bit_field, septet_field, shift, part, with_part, get_field, set_field, Disjoint}

-- ---- parts of a word

pub part_lt : (x low width : ℕ) → part x low width < 2 ^ width
part_lt x low width = mod-lt (x / 2 ^ low) (pow_pos width)

module _ (x begin width value : ℕ) (fits : value < 2 ^ width) where
  -- what stands from the set part's lowest bit on, below that, and past the part
  from : with_part x begin width value / 2 ^ begin ≡ x / 2 ^ (begin + width) * 2 ^ width + value
  from = high (x / 2 ^ (begin + width) * 2 ^ width + value) begin (mod-lt x (pow_pos begin))

  below : with_part x begin width value % 2 ^ begin ≡ x % 2 ^ begin
  below = low (x / 2 ^ (begin + width) * 2 ^ width + value) begin (mod-lt x (pow_pos begin))

  past : with_part x begin width value / 2 ^ (begin + width) ≡ x / 2 ^ (begin + width)
  past =
      sym (shr-shr (with_part x begin width value) begin width)
      ∙ ap (λ (n : ℕ). n / 2 ^ width) from
      ∙ high (x / 2 ^ (begin + width)) width fits

  pub part-set : part (with_part x begin width value) begin width ≡ value
  part-set = ap (λ (n : ℕ). n % 2 ^ width) from ∙ low (x / 2 ^ (begin + width)) width fits

  -- a part that ends where the set one begins, or before
  pub part_below : (at size : ℕ) → at + size ≤ begin → part (with_part x begin width value) at size ≡ part x at size
  part_below at size le = cut (with_part x begin width value) ∙ ap (λ (n : ℕ). n % 2 ^ (size + at) / 2 ^ at) below ∙ sym (cut x)
    where
      cut : (y : ℕ) → part y at size ≡ y % 2 ^ begin % 2 ^ (size + at) / 2 ^ at
      cut y =
          let e : begin ≡ (begin - (size + at)) + (size + at) = omega arith in
          sym (field y size at)
          ∙ ap (λ (n : ℕ). n / 2 ^ at)
          (sym (mod-mod-pow y (begin - (size + at)) (size + at)) ∙ ap (λ (n : ℕ). y % 2 ^ n % 2 ^ (size + at)) (sym e))

  -- a part that begins where the set one ends, or later
  pub part_past : (at size : ℕ) → begin + width ≤ at → part (with_part x begin width value) at size ≡ part x at size
  part_past at size le =
      cut (with_part x begin width value) ∙ ap (λ (n : ℕ). n / 2 ^ (at - (begin + width)) % 2 ^ size) past ∙ sym (cut x)
    where
      cut : (y : ℕ) → part y at size ≡ y / 2 ^ (begin + width) / 2 ^ (at - (begin + width)) % 2 ^ size
      cut y =
          let e : at ≡ (begin + width) + (at - (begin + width)) = omega arith in
          ap (λ (n : ℕ). n % 2 ^ size) (ap (λ (n : ℕ). y / 2 ^ n) e ∙ sym (shr-shr y (begin + width) (at - (begin + width))))

-- ---- the cases of the calls on a field

-- the index and the value are small enough, and y is x with field i set to the value
pub record Written (kind : Field) (x i value y : ℕ) : Type 0 where
  pub there : i < kind.count
  pub fits : value < 2 ^ kind.width
  pub word : y ≡ with_part x (shift kind i) kind.width value

module _ (kind : Field) (x i : ℕ) where
  pub get_given : i < kind.count → get_field kind x i ≡ gives (part x (shift kind i) kind.width)
  unfolding get_field
  get_given below = simp (lt-leb _ _ below)

  pub get_refused : kind.count ≤ i → get_field kind x i ≡ refused 16 0
  unfolding get_field
  get_refused past = simp (le-leb _ _ past)

  module _ (value : ℕ) where
    pub set_given : i < kind.count → value < 2 ^ kind.width
        → set_field kind x i value ≡ gives (with_part x (shift kind i) kind.width value)
    unfolding set_field
    set_given below fits = simp (lt-leb _ _ below, lt-leb _ _ fits)

    pub set_past : kind.count ≤ i → set_field kind x i value ≡ refused 16 0
    unfolding set_field
    set_past past = simp (le-leb _ _ past)

    pub set_big : i < kind.count → 2 ^ kind.width ≤ value → set_field kind x i value ≡ refused 16 0
    unfolding set_field
    set_big below big = simp (lt-leb _ _ below, le-leb _ _ big)

    -- what an answered set tells
    pub set_tells : {y : ℕ} → set_field kind x i value ≡ gives y → Written kind x i value y
    unfolding set_field
    set_tells {y} answered = go _ _ refl refl answered
      where
        go : (past big : Bool) → leb kind.count i ≡ past → leb (2 ^ kind.width) value ≡ big
            → (guard past 16 0 ▷ guard big 16 0 ▷ gives (with_part x (shift kind i) kind.width value)) ≡ gives y
            → Written kind x i value y
        go true big p b e = never_refused e
        go false true p b e = never_refused e
        go false false p b e = record { there = leb-false _ _ p; fits = leb-false _ _ b; word = cc }

-- ---- what is read after a field was set

-- of two fields of a kind, the later ends where the earlier begins, or before
shift_below : (kind : Field) → kind.width ≤ kind.step → (i j : ℕ) → i < j → j < kind.count
    → shift kind j + kind.width ≤ shift kind i
shift_below kind narrow i j later below =
    let n = kind.count - 1 - j in
    let le : suc n ≤ kind.count - 1 - i = omega arith in
    omega (arith, suc-mul n kind.step, mul-le-mul_right kind.step le)

module _ (kind : Field) (x i value y : ℕ) (answered : set_field kind x i value ≡ gives y) where
  told : Written kind x i value y
  told = set_tells kind x i value answered

  -- that field reads as the value
  pub reads_set : get_field kind y i ≡ gives value
  reads_set =
      get_given kind y i told.there ∙ ap gives (rw told.word (part-set x (shift kind i) kind.width value told.fits))

  -- a field of any kind that shares no bit with it reads as it did, and an index past its kind is refused as it was
  pub reads_apart : (other : Field) (j : ℕ) → (j < other.count → Disjoint kind i other j) → get_field other y j ≡ get_field other x j
  reads_apart other j apart = go (dec_lt j other.count)
    where
      same : Disjoint kind i other j → part y (shift other j) other.width ≡ part x (shift other j) other.width
      same (inl below) = rw told.word (part_below x (shift kind i) kind.width value told.fits _ _ below)
      same (inr past) = rw told.word (part_past x (shift kind i) kind.width value told.fits _ _ past)

      go : Dec (j < other.count) → get_field other y j ≡ get_field other x j
      go (yes below) = get_given other y j below ∙ ap gives (same (apart below)) ∙ sym (get_given other x j below)
      go (no past) = get_refused other y j (omega arith) ∙ sym (get_refused other x j (omega arith))

  -- any other field of its kind reads as it did
  pub reads_other : kind.width ≤ kind.step → (j : ℕ) → (i ≡ j → ⊥) → get_field kind y j ≡ get_field kind x j
  reads_other narrow j differs = reads_apart kind j (λ below. go below (dec_lt i j))
    where
      go : j < kind.count → Dec (i < j) → Disjoint kind i kind j
      go below (yes later) = inl (shift_below kind narrow i j later below)
      go below (no f) = inr (shift_below kind narrow j i (omega arith) told.there)

-- setting a septet keeps its octet's top bit
pub septet_keeps_top : (x i value y : ℕ) → set_field septet_field x i value ≡ gives y
    → get_field bit_field y (8 * i) ≡ get_field bit_field x (8 * i)
septet_keeps_top x i value y answered =
    reads_apart septet_field x i value y answered bit_field (8 * i)
    (λ (below : 8 * i < 32). inr (omega arith))
