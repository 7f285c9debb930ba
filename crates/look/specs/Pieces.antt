-- What a run of an edited dump is: its bytes, and that it is the longest.
-- Assumes nothing.
use Rattle.std.specs.Prelude.{◌≡◌, List, [], ℕ, ◌+◌, ◌-◌, ◌*◌, ◌<◌}
use Rattle.std.proofs.Math.Seq.{slice}
use Rattle.ump.specs.Edits.{Patch, patch_at}
use Rattle.ump.specs.Runs.{Run, of_dump, of_edit, past}

abbrev pub run_length : Run → ℕ
run_length (of_dump k start end) = end - start
run_length (of_edit k start end) = end - start
run_length past = 0

-- its bytes
abbrev pub run_bytes : List ℕ → List Patch → Run → List ℕ
run_bytes dump patches (of_dump k start end) = slice start end dump
run_bytes dump patches (of_edit k start end) = slice start end (patch_at patches k).bytes
run_bytes dump patches past = []

-- the same run without its first j bytes
abbrev pub along : ℕ → Run → Run
along j (of_dump k start end) = of_dump k (start + j) end
along j (of_edit k start end) = of_edit k (start + j) end
along j past = past

-- of m edits, the pieces of the result in its order: dump, edit 0, dump, edit 1, .., dump, and what is past it
abbrev pub piece_of : ℕ → Run → ℕ
piece_of m (of_dump k start end) = 2 * k
piece_of m (of_edit k start end) = 2 * k + 1
piece_of m past = 2 * m + 1

-- of m edits, the run that `at` gives at byte i is the longest: its bytes are all of one piece, and the byte behind it is of a later one
pub record Longest (m : ℕ) (at : ℕ → Run) (i : ℕ) : Type 0 where
  pub same : (j : ℕ) → j < run_length (at i) → at (i + j) ≡ along j (at i)
  pub ends : 0 < run_length (at i) → piece_of m (at i) < piece_of m (at (i + run_length (at i)))
