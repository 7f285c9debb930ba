-- More places than numbers: two places have the same. Assumes nothing.
use mathlib.Core.Path.{◌≡◌, refl, sym, ap, ◌∙◌}
use mathlib.Core.Bool.{Bool, true, false, cond, ◌||◌}
use mathlib.Core.List.{List, [], ◌∷◌}
use Prim.Native.Nat.{ℕ, zero, suc, ◌<◌}
use native.Mathlib.Omega.{arith}
use lib.Dec.{eqb}
use lib.ListN.{length}
use borrow.Author.Tests.{eqb-true, eqb-false}
use Rattle.ump.specs.Edits.{elem}
use Rattle.store.proofs.Records.{not_both}

-- ---- a list without one of its numbers

abbrev remove : ℕ → List ℕ → List ℕ
remove x [] = []
remove x (y ∷ ys) = cond (eqb x y) ys (y ∷ remove x ys)

length_remove : (x : ℕ) (ys : List ℕ) → elem x ys ≡ true → suc (length (remove x ys)) ≡ length ys
length_remove x [] e = not_both e refl
length_remove x (y ∷ ys) e = go (λ h. length_remove x ys h) (eqb x y) e
  where
    go : (elem x ys ≡ true → suc (length (remove x ys)) ≡ length ys)
        → (b : Bool) → (b || elem x ys) ≡ true → suc (length (cond b ys (y ∷ remove x ys))) ≡ suc (length ys)
    go less true h = refl
    go less false h = ap suc (less h)

elem_remove : (x y : ℕ) (ys : List ℕ) → (x ≡ y → ⊥) → elem y ys ≡ true → elem y (remove x ys) ≡ true
elem_remove x y [] d e = e
elem_remove x y (z ∷ ys) d e = go (λ h. elem_remove x y ys d h) (eqb x z) (eqb y z) refl refl e
  where
    go : (elem y ys ≡ true → elem y (remove x ys) ≡ true) → (b c : Bool) → eqb x z ≡ b → eqb y z ≡ c → (c || elem y ys) ≡ true
        → elem y (cond b ys (z ∷ remove x ys)) ≡ true
    go more true true q r h = absurd (d (eqb-true x z q ∙ sym (eqb-true y z r)))
    go more true false q r h = h
    go more false true q r h = rw r
    go more false false q r h = rw r (more h)

-- ---- places

pub record Twin (s : ℕ → ℕ) (n : ℕ) : Type 0 where
  pub earlier : ℕ
  pub later : ℕ
  pub before : earlier < later
  pub inside : later < n
  pub same : s earlier ≡ s later

-- a place below n that has this number, or none has
data Search (s : ℕ → ℕ) (x n : ℕ) : Type 0 where
  at : (i : ℕ) → i < n → s i ≡ x → Search s x n
  nowhere : ((i : ℕ) → i < n → s i ≡ x → ⊥) → Search s x n

search_for : (s : ℕ → ℕ) (x n : ℕ) → Search s x n
search_for s x zero = nowhere (λ i h e. omega arith)
search_for s x (suc n) = go (eqb (s n) x) refl (search_for s x n)
  where
    go : (b : Bool) → eqb (s n) x ≡ b → Search s x n → Search s x (suc n)
    go true q r = at n (omega arith) (eqb-true (s n) x q)
    go false q (at i h e) = at i (omega arith) e
    go false q (nowhere f) = nowhere (λ i h e. last i (eqb i n) refl h e)
      where
        last : (i : ℕ) (b : Bool) → eqb i n ≡ b → i < suc n → s i ≡ x → ⊥
        last i true r h e = eqb-false (s n) x q (ap s (sym (eqb-true i n r)) ∙ e)
        last i false r h e = let d = eqb-false i n r in f i (omega (arith, d)) e

pub pigeons : (m : ℕ) (ys : List ℕ) (s : ℕ → ℕ) → length ys ≡ m → ((i : ℕ) → i < suc m → elem (s i) ys ≡ true) → Twin s (suc m)
pigeons zero [] s l h = not_both (h 0 (omega arith)) refl
pigeons zero (y ∷ ys) s l h = absurd (omega arith)
pigeons (suc m) ys s l h = go (λ zs l' h'. pigeons m zs s l' h') (search_for s (s (suc m)) (suc m))
  where
    go : ((zs : List ℕ) → length zs ≡ m → ((i : ℕ) → i < suc m → elem (s i) zs ≡ true) → Twin s (suc m))
        → Search s (s (suc m)) (suc m) → Twin s (suc (suc m))
    go fewer (at i k e) = record { earlier = i; later = suc m; before = k; inside = omega arith; same = e }
    go fewer (nowhere f) =
        let x = s (suc m) in
        let here : elem x ys ≡ true = h (suc m) (omega arith) in
        let less : length (remove x ys) ≡ m = omega (arith, length_remove x ys here) in
        let t = fewer (remove x ys) less (λ i k. elem_remove x (s i) ys (λ e. f i k (sym e)) (h i (omega arith))) in
        record { earlier = t.earlier; later = t.later; before = t.before; inside = omega (arith, t.inside); same = t.same }
