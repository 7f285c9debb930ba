-- What the edits passed put in and take out. Assumes nothing.
use mathlib.Core.Path.{ap}
use mathlib.Core.List.{List}
use Prim.Native.Nat.{ℕ, ◌+◌, ◌/◌, ◌≤◌, ◌<◌}
use native.Mathlib.Omega.{arith}
use lib.ListN.{length}
use Rattle.ump.specs.Limits.{most_bytes}
use Rattle.ump.specs.Edits.{edit_in, edits_of, lengths, per_edit}
use Rattle.merge.specs.Pass.{width}
use Rattle.splice.specs.Merging.{Within, widths}
use Rattle.merge.proofs.Turning.{rest, rest_step}

-- it and what the others do is small together, and if the others stay within the room, all do
pub record Passed (numbers : List ℕ) (room added removed i : ℕ) : Type 0 where
  pub put : added + lengths (rest numbers i) ≤ most_bytes
  pub out : removed + widths (rest numbers i) ≤ most_bytes
  pub within : Within room added removed (rest numbers i) → Within room 0 0 (edits_of numbers)

pub record Passes (numbers : List ℕ) (room added removed i : ℕ) : Type 0 where
  pub put : added + (edit_in numbers i).length ≤ most_bytes
  pub out : removed + width (edit_in numbers i) ≤ most_bytes
  pub next : added + (edit_in numbers i).length ≤ removed + width (edit_in numbers i) + room
      → Passed numbers room (added + (edit_in numbers i).length) (removed + width (edit_in numbers i)) (i + 1)

pub passes : {numbers : List ℕ} {room added removed i : ℕ} → Passed numbers room added removed i → i < length numbers / per_edit
    → Passes numbers room added removed i
unfolding Within widths
passes {numbers} {i = i} p h =
    let e = rest_step numbers i h in
    let put = ap lengths e in
    let out = ap widths e in
    record {
      put = omega (arith, p.put);
      out = omega (arith, p.out);
      next = λ fits. record { put = omega (arith, p.put); out = omega (arith, p.out); within = λ w. p.within (rw e (fits, w)) };
    }
