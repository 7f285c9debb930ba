-- A front of a list, and the parts of the list that stand in it. Assumes nothing.
use mathlib.Core.Path.{◌≡◌, sym, ap, ◌∙◌}
use mathlib.Core.List.{List, [], ◌∷◌}
use Prim.Native.Nat.{ℕ, zero, suc, ◌+◌, ◌-◌, ◌≤◌}
use native.Mathlib.Nat.{sub-zero, zero-sub, suc-sub-suc}
use native.Mathlib.Omega.{arith}
use lib.ListN.{take, drop}
use lib.Seq.{take-nil, take-take}

pub drop-take : {A : Type 0} (n m : ℕ) (l : List A) → drop n (take m l) ≡ take (m - n) (drop n l)
drop-take zero m l = rw (sub-zero m)
drop-take (suc n) zero l = rw (zero-sub (suc n))
drop-take (suc n) (suc m) [] = sym (take-nil (suc m - suc n))
drop-take (suc n) (suc m) (x ∷ l) = rw (suc-sub-suc m n) (drop-take n m l)

-- a part that ends inside the front
pub part_of_front : {A : Type 0} (start size front : ℕ) (l : List A) → start + size ≤ front → take size (drop start (take front l)) ≡ take size (drop start l)
part_of_front start size front l h = ap (take size) (drop-take start front l) ∙ take-take size (front - start) (drop start l) (omega arith)
