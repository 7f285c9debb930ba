-- Looking at an edited dump (02, T-08): the run from a position on of one edit, and one byte of a list of edits.
-- Assumes nothing.
use Rattle.std.specs.Prelude.{◌||◌, List, [], ◌∷◌, ℕ, ◌+◌, ltb, length}
use Rattle.refusal.specs.Answer.{Answer, gives, refused, ◌▷◌, guard}
use Rattle.ump.specs.Packet.{Shape}
use Rattle.ump.specs.Check.{check, payload_of}
use Rattle.ump.specs.Setters.{nth_byte}
use Rattle.ump.specs.Edits.{Edit, Patch, bad_edit, replaced, edits_of, patches_of}
use Rattle.ump.specs.Runs.{Run, of_dump, of_edit, past, run_at}
use Rattle.edit.specs.Listed.{list_check}
use Rattle.look.specs.Pieces.{run_bytes}

-- ---- one edit

-- a run; Range past the result
abbrev pub some_run : Run → Answer Run
some_run (of_dump k start end) = gives (of_dump k start end)
some_run (of_edit k start end) = gives (of_edit k start end)
some_run past = refused 13 0

-- of one edit of a dump of n bytes: Range for the edit, Range for the position, else the run that starts there
unfoldable pub find : ℕ → Edit → ℕ → Answer Run
find n edit i = guard (bad_edit edit || ltb n edit.to) 13 0 ▷ some_run (run_at n (edit ∷ []) i)

abbrev pub edit_by : ℕ → ℕ → List ℕ → Edit
edit_by from to replacement = record { from = from; to = to; length = length replacement }

abbrev pub patch_by : ℕ → ℕ → List ℕ → Patch
patch_by from to replacement = record { from = from; to = to; bytes = replacement }

-- the bytes of an answered run; a refusal shows none
abbrev pub shown : List ℕ → List Patch → Answer Run → List ℕ
shown dump patches (gives run) = run_bytes dump patches run
shown dump patches (refused number place) = []

-- the bytes of that run
abbrev pub look : List ℕ → ℕ → ℕ → List ℕ → ℕ → List ℕ
look dump from to replacement i =
    shown dump (patch_by from to replacement ∷ []) (find (length dump) (edit_by from to replacement) i)

-- where they stand in memory, a block and an offset in it: in the dump itself, or in the replacement itself
abbrev pub stands_at : ℕ × ℕ → ℕ × ℕ → Answer Run → ℕ × ℕ
stands_at dump replacement (gives (of_dump k start end)) = (dump.0, start + dump.1)
stands_at dump replacement (gives (of_edit k start end)) = (replacement.0, start + replacement.1)
stands_at dump replacement (gives past) = dump
stands_at dump replacement (refused number place) = dump

-- the part lent: where it stands, and its bytes
unfoldable pub part_lent : ℕ × ℕ → ℕ × ℕ → List ℕ → ℕ → ℕ → List ℕ → ℕ → (ℕ × ℕ) × List ℕ
part_lent dump_at replacement_at dump from to replacement i =
    (stands_at dump_at replacement_at (find (length dump) (edit_by from to replacement) i), look dump from to replacement i)

-- ---- a list of edits

-- Range for the edits or the bytes, Overlap, Range for the position, else the byte of the result
unfoldable pub byte_of : List ℕ → List ℕ → List ℕ → ℕ → Answer ℕ
byte_of dump numbers bytes i =
    list_check (length dump) (length bytes) numbers ▷ nth_byte (replaced dump (patches_of (edits_of numbers) bytes)) i

-- of a message in packets: 1 to 12, then the same of its payload
unfoldable pub byte_of_message : Shape → List ℕ → ℕ → List ℕ → List ℕ → ℕ → Answer ℕ
byte_of_message shape words len numbers bytes i = check shape words len ▷ byte_of (payload_of shape words len) numbers bytes i
