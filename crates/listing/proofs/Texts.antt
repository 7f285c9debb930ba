-- Pieces written one after the other. Assumes nothing.
use mathlib.Core.Path.{◌≡◌}
use mathlib.Core.List.{List, ◌++◌}
use Prim.Native.Nat.{ℕ, ◌+◌, ◌<◌}
use native.Mathlib.Nat.{zero-add}
use native.Mathlib.Numerals.{add-one}
use native.Mathlib.Omega.{arith}
use lib.ListN.{length, get_or, take, drop, set}
use lib.Seq.{paste-suc}

-- one number more at the front
pub front_more : (new old : List ℕ) (i : ℕ) → i < length new → i < length old
    → set (take i new ++ drop i old) i (get_or new i 0) ≡ take (i + 1) new ++ drop (i + 1) old
front_more new old i h k = rw add-one (simp zero-add at (paste-suc old 0 new i 0 (omega arith) h))
