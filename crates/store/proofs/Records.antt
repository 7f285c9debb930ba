-- The record at a place of the store, and those behind it. Assumes nothing.
use mathlib.Core.Path.{◌≡◌, refl, sym, ap, ◌∙◌}
use mathlib.Core.Bool.{Bool, true, false, ◌&&◌, ◌||◌}
use mathlib.Core.List.{List, [], ◌∷◌}
use Prim.Native.Nat.{ℕ, zero, suc, ◌+◌, ◌-◌, ◌≤◌, ◌<◌, min}
use native.Mathlib.Omega.{arith}
use lib.Dec.{eqb, leb}
use lib.ListN.{length, get_or, take, drop, length-drop, drop_of_length-le}
use lib.Seq.{take_all, drop-cons, drop-drop, get_or-take, get_or-drop}
use borrow.Author.Tests.{eq-eqb, ne_eqb, le-leb, lt-leb, leb-true, leb-false}
use Rattle.ump.specs.Word.{pair_at}
use Rattle.store.specs.Store.{is_whole, is_delta, is_edit, is_data, body_size, Record, records_after, records_of}
use Rattle.store.specs.Places.{record_at, next_at}

-- no test both holds and fails
pub not_both : {A : Type 0} {b : Bool} → b ≡ true → b ≡ false → A
not_both p q = let z : ◌≡◌ {A = Bool} true false = sym p ∙ q in let y : ◌≡◌ {A = ℕ} 0 1 = cc in absurd (omega arith)

pub and-true : (b c : Bool) → (b && c) ≡ true → (b ≡ true) × (c ≡ true)
and-true true c h = (refl, h)
and-true false c h = not_both h refl

-- ---- kinds

pub data_low : (k : ℕ) → k < 129 → false ≡ is_data k
unfolding is_data
data_low k h = rw (lt-leb 129 k h)

pub data_high : (k : ℕ) → 129 ≤ k → leb k 141 ≡ is_data k
unfolding is_data
data_high k h = rw (le-leb 129 k h)

pub data_range : (k : ℕ) → is_data k ≡ true → (129 ≤ k) × (k ≤ 141)
unfolding is_data
data_range k e = let r = and-true (leb 129 k) (leb k 141) e in (leb-true 129 k r.0, leb-true k 141 r.1)

pub body_data : (k : ℕ) → is_data k ≡ true → body_size k ≡ k - 128
unfolding body_size
body_data k e = rw e

pub body_other : (k : ℕ) → is_data k ≡ false → body_size k ≡ 4
unfolding body_size
body_other k e = rw e

-- data is no other kind
pub data_other : (k : ℕ) → is_data k ≡ true → (is_whole k ≡ false) × ((is_delta k ≡ false) × (is_edit k ≡ false))
data_other k e =
    let r = data_range k e in
    let no : (n : ℕ) → n < 129 → eqb k n ≡ false = λ n h. ne_eqb k n (λ q. omega arith) in
    rw (no 1 (omega arith), no 17 (omega arith), no 2 (omega arith), no 18 (omega arith)) (refl, (refl, no 3 (omega arith)))

-- one kind, or another
pub kind_first : {k n : ℕ} (b : Bool) → k ≡ n → true ≡ (eqb k n || b)
kind_first {k} {n} b e = rw (eq-eqb k n e)

pub kind_second : {k n : ℕ} (b : Bool) → (k ≡ n → ⊥) → b ≡ (eqb k n || b)
kind_second {k} {n} b e = rw (ne_eqb k n e)

-- ---- places

pub records_skip : (k : ℕ) (bytes : List ℕ) → records_after k bytes ≡ records_of (drop k bytes)
unfolding records_after
records_skip zero bytes = refl
records_skip (suc k) [] = refl
records_skip (suc k) (b ∷ bytes) = records_skip k bytes

pub records_end : (store : List ℕ) (at : ℕ) → length store ≤ at → records_of (drop at store) ≡ []
unfolding records_after
records_end store at h = rw (drop_of_length-le store h)

pub records_step : (store : List ℕ) (at : ℕ) → at < length store
    → records_of (drop at store) ≡ record_at store at ∷ records_of (drop (next_at store at) store)
unfolding records_after
records_step store at h =
    let size = body_size (get_or store at 0) in
    let q : suc at + size ≡ at + 1 + size = omega arith in
    ap (λ (l : List ℕ). records_after 0 l) (drop-cons store at 0 h)
    ∙ ap (λ (l : List Record). record_at store at ∷ l)
    (records_skip size (drop (suc at) store)
    ∙ ap (λ (l : List ℕ). records_of l) (drop-drop size (suc at) store ∙ ap (λ (x : ℕ). drop x store) q))

-- a byte of a body of four
pub body_byte : (store : List ℕ) (at i : ℕ) → is_data (get_or store at 0) ≡ false → i < 4
    → get_or (record_at store at).body i 0 ≡ get_or store (at + 1 + i) 0
body_byte store at i e h =
    let s : body_size (get_or store at 0) ≡ 4 = body_other _ e in
    let q : suc at + i ≡ at + 1 + i = omega arith in
    ap (λ (n : ℕ). get_or (take n (drop (suc at) store)) i 0) s
    ∙ get_or-take 4 (drop (suc at) store) i 0 h
    ∙ get_or-drop (suc at) store i 0
    ∙ ap (λ (n : ℕ). get_or store n 0) q

pub body_pair : (store : List ℕ) (at i : ℕ) → is_data (get_or store at 0) ≡ false → i < 3
    → pair_at (record_at store at).body i ≡ pair_at store (at + 1 + i)
body_pair store at i e h =
    let a = body_byte store at i e (omega arith) in
    let b = body_byte store at (i + 1) e (omega arith) in
    let q : at + 1 + (i + 1) ≡ at + 1 + i + 1 = omega arith in
    let c = ap (λ (n : ℕ). get_or store n 0) q in
    omega (arith, a, b, c)

-- how much of its body a record has
pub body_short : (store : List ℕ) (at r : ℕ) → length store - (at + 1) ≤ r → r ≤ body_size (get_or store at 0)
    → take r (drop (at + 1) store) ≡ (record_at store at).body
body_short store at r h k =
    let q : at + 1 ≡ suc at = omega arith in
    let l : length (drop (suc at) store) ≤ r = rw length-drop (omega arith) in
    ap (λ (n : ℕ). take r (drop n store)) q
    ∙ take_all r (drop (suc at) store) l
    ∙ sym (take_all (body_size (get_or store at 0)) (drop (suc at) store) (omega arith))

pub body_whole : (store : List ℕ) (at : ℕ) {r : ℕ} → r ≡ body_size (get_or store at 0)
    → take r (drop (at + 1) store) ≡ (record_at store at).body
body_whole store at {r} h =
    let q : at + 1 ≡ suc at = omega arith in
    ap (λ (n : ℕ). take r (drop n store)) q ∙ ap (λ (n : ℕ). take n (drop (suc at) store)) h

pub body_min : (store : List ℕ) (at : ℕ) {r size : ℕ} → size ≡ body_size (get_or store at 0) → r ≡ min size (length store - at - 1)
    → take r (drop (at + 1) store) ≡ (record_at store at).body
body_min store at {r} {size} q h = go (leb size (length store - at - 1)) refl
  where
    go : (b : Bool) → leb size (length store - at - 1) ≡ b → take r (drop (at + 1) store) ≡ (record_at store at).body
    go true e = let l = leb-true size (length store - at - 1) e in body_whole store at (omega (arith, q, h, l))
    go false e =
        let l = leb-false size (length store - at - 1) e in
        body_short store at r (omega (arith, h, l)) (omega (arith, q, h, l))
