-- Restoring depends on the dumps held alone, where the walk comes by: not on their order. Assumes nothing.
use Rattle.std.specs.Prelude.{Option, None, Some}
use mathlib.Core.Path.{◌≡◌, refl, sym, ap, ◌∙◌}
use mathlib.Core.Bool.{Bool, true, false, cond, ◌||◌}
use mathlib.Core.List.{List, [], ◌∷◌}
use Prim.Native.Nat.{ℕ, zero, suc}
use lib.Dec.{eqb}
use lib.ListN.{length}
use borrow.Author.Tests.{eqb-true, eq-eqb}
use Rattle.ump.specs.Edits.{elem}
use Rattle.store.specs.Store.{Dump, whole, delta, dump_number, numbers_of, twice, held}
use Rattle.store.proofs.Records.{not_both}
use Rattle.chain.specs.Walk.{base_of, from_base}
use Rattle.chain.specs.Restore.{rebuilt, restored_by, restored, unlimited, payload_size, sizes, described}
use Rattle.chain.specs.Chained.{Shuffled, nothing, keep, swap, also}
use Rattle.chain.proofs.Outside.{or_false}

-- ---- dumps that agree on the numbers that a walk comes to

module _ (ds es : List Dump) (On : ℕ → Type 0) (agree : (m : ℕ) → On m → held ds m ≡ held es m)
    (closed : (m b : ℕ) → On m → base_of (held ds m) ≡ Some b → On b) where
  pub restored_agree : (too_long : ℕ → Bool) (left n : ℕ) → On n → restored too_long ds left n ≡ restored too_long es left n
  unfolding restored
  restored_agree too_long zero n on = refl
  restored_agree too_long (suc left) n on = rw (← (agree n on)) (go (λ b h. restored_agree too_long left b h) (held ds n) refl)
    where
      go : ((b : ℕ) → On b → restored too_long ds left b ≡ restored too_long es left b) → (o : Option Dump) → held ds n ≡ o
          → restored_by too_long (λ b. restored too_long ds left b) o ≡ restored_by too_long (λ b. restored too_long es left b) o
      go more None q = refl
      go more (Some (whole number group id bytes)) q = refl
      go more (Some (delta number base patches)) q = ap (rebuilt too_long patches) (more base (closed n base on (ap base_of q)))

  pub sizes_agree : (left n : ℕ) → On n → sizes ds left n ≡ sizes es left n
  unfolding sizes
  sizes_agree zero n on = refl
  sizes_agree (suc left) n on =
      rw (← (agree n on), restored_agree unlimited (suc left) n on) (go (λ b h. sizes_agree left b h) (base_of (held ds n)) refl)
    where
      size : ℕ
      size = payload_size (restored unlimited es (suc left) n)

      go : ((b : ℕ) → On b → sizes ds left b ≡ sizes es left b) → (o : Option ℕ) → base_of (held ds n) ≡ o
          → (size ∷ from_base [] (λ b. sizes ds left b) o) ≡ size ∷ from_base [] (λ b. sizes es left b) o
      go more None q = refl
      go more (Some b) q = ap (λ (l : List ℕ). size ∷ l) (more b (closed n b on q))

  pub described_agree : (left n : ℕ) → On n → described ds left n ≡ described es left n
  unfolding described
  described_agree left n on = rw (← (agree n on), restored_agree unlimited left n on, sizes_agree left n on)

-- ---- dumps that agree everywhere

module _ (ds es : List Dump) (same : (m : ℕ) → held ds m ≡ held es m) where
  pub restored-held : (too_long : ℕ → Bool) (left n : ℕ) → restored too_long ds left n ≡ restored too_long es left n
  restored-held too_long left n = restored_agree ds es (λ m. Unit {0}) (λ m u. same m) (λ m b u q. tt) too_long left n tt

  pub described_held : (left n : ℕ) → described ds left n ≡ described es left n
  described_held left n = described_agree ds es (λ m. Unit {0}) (λ m u. same m) (λ m b u q. tt) left n tt

-- ---- the same dumps in another order

pub shuffled_length : {A : Type 0} {xs ys : List A} → Shuffled xs ys → length xs ≡ length ys
shuffled_length nothing = refl
shuffled_length (keep s) = ap suc (shuffled_length s)
shuffled_length swap = refl
shuffled_length (also s t) = shuffled_length s ∙ shuffled_length t

or_swap : (a b c : Bool) → (a || (b || c)) ≡ (b || (a || c))
or_swap true true c = refl
or_swap true false c = refl
or_swap false b c = refl

pub eqb_sym : (m n : ℕ) → eqb m n ≡ eqb n m
eqb_sym m n = go (eqb m n) (eqb n m) refl refl
  where
    go : (b c : Bool) → eqb m n ≡ b → eqb n m ≡ c → b ≡ c
    go true true p q = refl
    go true false p q = not_both (eq-eqb n m (sym (eqb-true m n p))) q
    go false true p q = not_both (eq-eqb m n (sym (eqb-true n m q))) p
    go false false p q = refl

shuffled_elem : (n : ℕ) {ds es : List Dump} → Shuffled ds es → elem n (numbers_of ds) ≡ elem n (numbers_of es)
shuffled_elem n nothing = refl
shuffled_elem n (keep {x = d} s) = ap (λ (b : Bool). eqb n (dump_number d) || b) (shuffled_elem n s)
shuffled_elem n (swap {x = c} {y = d} {xs = ds}) = or_swap (eqb n (dump_number c)) (eqb n (dump_number d)) (elem n (numbers_of ds))
shuffled_elem n (also s t) = shuffled_elem n s ∙ shuffled_elem n t

or_four : (e a b c : Bool) → ((e || a) || (b || c)) ≡ ((e || b) || (a || c))
or_four true a b c = refl
or_four false a b c = or_swap a b c

pub shuffled_twice : {ds es : List Dump} → Shuffled ds es → twice (numbers_of ds) ≡ twice (numbers_of es)
unfolding twice
shuffled_twice nothing = refl
shuffled_twice (keep {x = d} s) = rw (shuffled_elem (dump_number d) s, shuffled_twice s)
shuffled_twice (swap {x = c} {y = d} {xs = ds}) =
    rw (eqb_sym (dump_number d) (dump_number c))
    (or_four (eqb (dump_number c) (dump_number d)) (elem (dump_number c) (numbers_of ds)) (elem (dump_number d) (numbers_of ds)) (twice (numbers_of ds)))
shuffled_twice (also s t) = shuffled_twice s ∙ shuffled_twice t

-- where no number is used again, each is held as before
pub shuffled_held : {ds es : List Dump} → Shuffled ds es → twice (numbers_of ds) ≡ false → (n : ℕ) → held ds n ≡ held es n
unfolding held twice
shuffled_held nothing h n = refl
shuffled_held (keep {x = d} {xs = ds} s) h n =
    rw (shuffled_held s (or_false (elem (dump_number d) (numbers_of ds)) (twice (numbers_of ds)) h).1 n)
shuffled_held (swap {x = c} {y = d} {xs = ds}) h n = go (eqb n (dump_number c)) (eqb n (dump_number d)) refl refl
  where
    other : eqb (dump_number c) (dump_number d) ≡ false
    other =
        let a =
        or_false (eqb (dump_number c) (dump_number d) || elem (dump_number c) (numbers_of ds))
        (elem (dump_number d) (numbers_of ds) || twice (numbers_of ds)) h
        in
        (or_false (eqb (dump_number c) (dump_number d)) (elem (dump_number c) (numbers_of ds)) a.0).0

    go : (a b : Bool) → eqb n (dump_number c) ≡ a → eqb n (dump_number d) ≡ b
        → cond a (Some c) (cond b (Some d) (held ds n)) ≡ cond b (Some d) (cond a (Some c) (held ds n))
    go true true p q = not_both (eq-eqb (dump_number c) (dump_number d) (sym (eqb-true n (dump_number c) p) ∙ eqb-true n (dump_number d) q)) other
    go true false p q = refl
    go false true p q = refl
    go false false p q = refl
shuffled_held (also s t) h n = shuffled_held s h n ∙ shuffled_held t (sym (shuffled_twice s) ∙ h) n
