-- Laws of zeros in a list, and of a message put over old words. Assumes nothing.
use mathlib.Core.Path.{◌≡◌, refl, sym, ap, ◌∙◌}
use mathlib.Core.List.{List, ◌++◌, append_assoc}
use Prim.Native.Nat.{ℕ, zero, suc, ◌+◌, ◌-◌, ◌≤◌, max}
use native.Mathlib.Nat.{suc-sub-suc, sub-zero, zero-sub}
use native.Mathlib.Omega.{arith}
use lib.ListN.{length, drop, replicate, replicate-append-replicate}
use lib.Seq.{take_at, drop-append-add, drop-drop}
use Rattle.ump.specs.Splice.{stored}
use Rattle.splice.specs.Zeros.{zeroed}

-- ---- a message put over old words, and zeros up to the old end

drop_past : (m w : List ℕ) (k : ℕ) → length m ≤ k → drop k (m ++ drop (length m) w) ≡ drop k w
drop_past m w k h =
    let s : length m + (k - length m) ≡ k = omega arith in
    ap (λ (x : ℕ). drop x (m ++ drop (length m) w)) (sym s)
    ∙ drop-append-add m (drop (length m) w) (k - length m)
    ∙ drop-drop (k - length m) (length m) w
    ∙ ap (λ (x : ℕ). drop x w) s

pub zeroed_is_stored : (m w : List ℕ) (len end : ℕ) → length m ≡ end → zeroed (m ++ drop end w) end len ≡ stored w len m
unfolding stored
zeroed_is_stored m w len end e =
    rw (← e, take_at m (drop (length m) w) (length m) refl, drop_past m w (max len (length m)) (omega arith))

drop_zeros : (k n : ℕ) (l : List ℕ) → drop k (replicate n 0 ++ l) ≡ replicate (n - k) 0 ++ drop (k - n) l
drop_zeros zero n l = rw (sub-zero, zero-sub)
drop_zeros (suc k) zero l = rw (sub-zero, zero-sub)
drop_zeros (suc k) (suc n) l = rw (suc-sub-suc n k, suc-sub-suc k n) (drop_zeros k n l)

-- zeros up to the first end and on to the second, and what stands past both
zeros_reach : (a b len : ℕ) → a ≤ len → (a - b) + ((len - a) - (b - a)) ≡ len - b
zeros_reach a b len h = omega arith

rest_begins : (a b len : ℕ) → a ≤ len → len + ((b - a) - (len - a)) ≡ max len b
rest_begins a b len h = omega arith

-- what is stored over a shorter message is stored over the one before it
pub stored_again : (w m m' : List ℕ) (len : ℕ) → length m ≤ len → stored (stored w len m) (length m) m' ≡ stored w len m'
unfolding stored
stored_again w m m' len h =
    let a = length m in
    let b = length m' in
    let x = replicate (len - a) 0 ++ drop (max len a) w in
    let top : max a b ≡ a + (b - a) = omega arith in
    let old : max len a ≡ len = omega arith in
    ap (λ (k : ℕ). m' ++ (replicate (a - b) 0 ++ drop k (m ++ x))) top
    ∙ ap (λ (l : List ℕ). m' ++ (replicate (a - b) 0 ++ l))
    (drop-append-add m x (b - a)
    ∙ drop_zeros (b - a) (len - a) (drop (max len a) w)
    ∙ ap (λ (l : List ℕ). replicate ((len - a) - (b - a)) 0 ++ l) (ap (λ (k : ℕ). drop ((b - a) - (len - a)) (drop k w)) old ∙ drop-drop ((b - a) - (len - a)) len w ∙ ap (λ (k : ℕ). drop k w) (rest_begins a b len h)))
    ∙ ap (λ (l : List ℕ). m' ++ l)
    (sym (append_assoc (replicate (a - b) 0) (replicate ((len - a) - (b - a)) 0) (drop (max len b) w))
    ∙ ap (λ (l : List ℕ). l ++ drop (max len b) w) (replicate-append-replicate (a - b) ((len - a) - (b - a)) 0 ∙ ap (λ (k : ℕ). replicate k 0) (zeros_reach a b len h)))
