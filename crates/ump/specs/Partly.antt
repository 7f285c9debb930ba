-- Edits of one payload of which some are done: the payload as it is then, and the range of each of the others, in plain numbers.
-- Assumes nothing.
use Rattle.std.specs.Prelude.{cond, List, ◌++◌, ℕ, ◌+◌, ◌-◌, length, drop}
use Rattle.std.proofs.Math.Seq.{slice}
use Rattle.ump.specs.Packet.{joined}
use Rattle.ump.specs.Edits.{Edit, Range, Patch, patch_at, end_before, elem, total}

-- ---- the payload

-- before patch i, as it was
abbrev pub gap : List ℕ → List Patch → ℕ → List ℕ
gap payload patches i = slice (end_before patches i) (patch_at patches i).from payload

-- in the range of patch i: its bytes if it is done, else as it was
abbrev pub current : List ℕ → List Patch → List ℕ → ℕ → List ℕ
current payload patches done i =
    cond (elem i done) (patch_at patches i).bytes (slice (patch_at patches i).from (patch_at patches i).to payload)

unfoldable pub piece : List ℕ → List Patch → List ℕ → ℕ → List ℕ
piece payload patches done i = gap payload patches i ++ current payload patches done i

unfoldable pub mixed : List ℕ → List Patch → List ℕ → List ℕ
mixed payload patches done = joined (piece payload patches done) (length patches) ++ drop (end_before patches (length patches)) payload

-- ---- the ranges: each is the old one plus the growth of those before it that are done

-- bytes put in, and bytes taken out, by those of the patches 0 .. i - 1 that are done
abbrev pub added : List Patch → List ℕ → ℕ → ℕ
added patches done i = total (λ j. cond (elem j done) (length (patch_at patches j).bytes) 0) i

abbrev pub removed : List Patch → List ℕ → ℕ → ℕ
removed patches done i = total (λ j. cond (elem j done) ((patch_at patches j).to - (patch_at patches j).from) 0) i

-- a place at patch i or in its range
abbrev pub moved : List Patch → List ℕ → ℕ → ℕ → ℕ
moved patches done i place = place + added patches done i - removed patches done i

abbrev pub range_now : List Patch → List ℕ → ℕ → Range
range_now patches done i =
    record { from = moved patches done i (patch_at patches i).from; to = moved patches done i (patch_at patches i).to }

abbrev pub edit_now : List Patch → List ℕ → ℕ → Edit
edit_now patches done i =
    record {
      from = (range_now patches done i).from;
      to = (range_now patches done i).to;
      length = length (patch_at patches i).bytes;
    }
