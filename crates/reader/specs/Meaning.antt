-- What the code's cursors and answers mean, in the definitions of the payload reader. Assumes nothing.
use Rattle.std.specs.Prelude.{ℕ, Result, Ok, Err, Option, Some, None}
use Rattle.refusal.specs.declared.Fault.{Fault}
use Rattle.refusal.specs.Answer.{Answer, gives}
use Rattle.refusal.specs.Meaning.{fault_of}
use Rattle.ump.specs.Reader as paper
use Rattle.reader.specs.declared.Cursor.{Cursor}
use Rattle.reader.specs.declared.Read.{Read}

abbrev pub cursor_meaning : Cursor → paper.Cursor
cursor_meaning cursor = record { packet = cursor.packet; byte = cursor.byte; remaining = cursor.remaining }

abbrev pub step_meaning : (Option ℕ) → paper.Step
step_meaning (Some value) = paper.byte value
step_meaning None = paper.ended

abbrev pub read_meaning : Read → paper.Read
read_meaning read = record { step = step_meaning read.step; cursor = cursor_meaning read.cursor }

abbrev pub open_meaning : (Result Cursor Fault) → Answer paper.Cursor
open_meaning (Ok cursor) = gives (cursor_meaning cursor)
open_meaning (Err fault) = fault_of fault
