-- Bytes without their real-time bytes. Assumes nothing.
use mathlib.Core.Path.{◌≡◌, refl}
use mathlib.Core.Bool.{Bool, true, false, not, ◌&&◌, true≢false}
use mathlib.Core.List.{List, [], ◌∷◌, ◌++◌}
use Prim.Native.Nat.{ℕ, suc, ◌≤◌, ◌<◌}
use native.Mathlib.Omega.{arith}
use lib.Dec.{ltb}
use lib.ListN.{length, get_or}
use borrow.Author.Tests.{ltb-false, le-ltb}
use Rattle.ump.specs.Word.{Below}
use Rattle.ump.specs.Stream.{real_time, bad_byte, without_real_time}

-- a byte in front is passed over, or stays in front
pub data Front (x : ℕ) (xs : List ℕ) : Type 0 where
  skipped : real_time x ≡ true → without_real_time (x ∷ xs) ≡ without_real_time xs → Front x xs
  kept : real_time x ≡ false → without_real_time (x ∷ xs) ≡ x ∷ without_real_time xs → Front x xs

pub front : (x : ℕ) (xs : List ℕ) → Front x xs
front x xs = go (real_time x) refl
  where
    go : (b : Bool) → real_time x ≡ b → Front x xs
    go true e = skipped e (rw e)
    go false e = kept e (rw e)

pub without-append : (xs ys : List ℕ) → without_real_time (xs ++ ys) ≡ without_real_time xs ++ without_real_time ys
without-append [] ys = refl
without-append (x ∷ xs) ys = go (front x xs) (without-append xs ys)
  where
    go : Front x xs → without_real_time (xs ++ ys) ≡ without_real_time xs ++ without_real_time ys → without_real_time (x ∷ (xs ++ ys)) ≡ without_real_time (x ∷ xs) ++ without_real_time ys
    go (skipped e f) h = rw (e, h)
    go (kept e f) h = rw (e, h)

pub length_without : (xs : List ℕ) → length (without_real_time xs) ≤ length xs
length_without [] = omega arith
length_without (x ∷ xs) = go (front x xs) (length_without xs)
  where
    go : Front x xs → length (without_real_time xs) ≤ length xs → length (without_real_time (x ∷ xs)) ≤ suc (length xs)
    go (skipped e f) h = rw f (omega arith)
    go (kept e f) h = rw f (omega arith)

pub below_without : (m : ℕ) (xs : List ℕ) → Below m xs → Below m (without_real_time xs)
below_without m [] h = tt
below_without m (x ∷ xs) h = go (front x xs) (below_without m xs h.1)
  where
    go : Front x xs → Below m (without_real_time xs) → Below m (without_real_time (x ∷ xs))
    go (skipped e f) k = rw f k
    go (kept e f) k = rw f (h.0, k)

-- no real-time byte, nothing to pass over
pub without-none : (xs : List ℕ) → Below 0xF8 xs → without_real_time xs ≡ xs
without-none [] h = refl
without-none (x ∷ xs) h = rw (le-ltb 0xF7 x (omega (arith, h.0)), without-none xs h.1)

-- if no byte is 80 to F7, what is left is below 80
pub data_below : (xs : List ℕ) → ((i : ℕ) → i < length xs → bad_byte (get_or xs i 0) ≡ false) → Below 128 (without_real_time xs)
data_below [] h = tt
data_below (x ∷ xs) h = go (front x xs) (ltb 0x7F x) refl (h 0 (omega arith)) (data_below xs (λ i k. h (suc i) (omega arith)))
  where
    go : Front x xs → (a : Bool) → ltb 0x7F x ≡ a → (a && not (real_time x)) ≡ false → Below 128 (without_real_time xs) → Below 128 (without_real_time (x ∷ xs))
    go (skipped e f) a y k m = rw f m
    go (kept e f) true y k m = absurd (true≢false (rw e at k))
    go (kept e f) false y k m = rw f (omega (arith, ltb-false 0x7F x y), m)
