-- Where a byte of the result stands, if all edits of a list are done at once.
-- Assumes nothing.
use Rattle.std.specs.Prelude.{◌≡◌, List, ℕ, ◌+◌, take, Option, None, Some}
use Rattle.refusal.specs.Answer.{Answer, gives, refused, ◌▷◌}
use Rattle.ump.specs.Edits.{Edit, edits_of, lengths}
use Rattle.ump.specs.Runs.{Run, of_dump, of_edit, past, run_at}
use Rattle.ump.specs.Origin.{carried, dump_byte, edit_byte, filler, beginning}
use Rattle.edit.specs.Listed.{list_check}
use Rattle.edit.specs.declared.placing.Standing.{Standing}
use Rattle.edit.specs.declared.placing.Standing.TheVariants as standing

pub data Place : Type 0 where
  in_dump : ℕ → Place  -- this byte of the dump
  in_bytes : ℕ → Place  -- this byte of all replacement bytes, end to end

-- where a run begins: the bytes of an edit stand behind those of the edits before it; Range past the result
abbrev pub place_of : List Edit → Run → Answer Place
place_of edits (of_dump k start end) = gives (in_dump start)
place_of edits (of_edit k start end) = gives (in_bytes (lengths (take k edits) + start))
place_of edits past = refused 13 0

-- of a dump of n bytes and so many replacement bytes: Range, Overlap, then Range for the position
unfoldable pub placed : ℕ → ℕ → List ℕ → ℕ → Answer Place
placed n bytes numbers i = list_check n bytes numbers ▷ place_of (edits_of numbers) (run_at n (edits_of numbers) i)

-- ---- what the walk finds. For the code's own promises; no public promise needs it

abbrev pub BeginsAt : ℕ → List Edit → ℕ → Option Standing → Type 0
BeginsAt n edits i (Some (standing.Dump at)) = beginning (run_at n edits i) ≡ carried (dump_byte at)
BeginsAt n edits i (Some (standing.Edit place at)) =
    (beginning (run_at n edits i) ≡ carried (edit_byte place.edit place.byte)) × (at ≡ lengths (take place.edit edits) + place.byte)
BeginsAt n edits i None = beginning (run_at n edits i) ≡ filler
