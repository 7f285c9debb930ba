-- What the answers of this crate mean: document 01's number and place, or the values.
-- Assumes nothing.
use Rattle.refusal.specs.declared.Fault.{Fault}
use Rattle.std.specs.Prelude.{Result, Ok, Err, [], ◌∷◌}
use Rattle.refusal.specs.Answer.{Answer, gives}
use Rattle.refusal.specs.Meaning.{fault_of}
use Rattle.message.specs.declared.sysex8.Summary as sysex8
use Rattle.message.specs.declared.sysex7.Summary as sysex7
use Rattle.ump.specs.Check.{Summary, summary}

-- SysEx8: the stream id is a list of one
abbrev pub check_meaning8 : Result sysex8.Summary Fault → Answer Summary
check_meaning8 (Ok m) = gives (summary m.group (m.id ∷ []) m.size m.words)
check_meaning8 (Err fault) = fault_of fault

-- SysEx7: no stream id
abbrev pub check_meaning7 : Result sysex7.Summary Fault → Answer Summary
check_meaning7 (Ok m) = gives (summary m.group [] m.size m.words)
check_meaning7 (Err fault) = fault_of fault
