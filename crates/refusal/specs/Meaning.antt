-- What the answers that several calls share mean: document 01's number and place, or the values.
-- Assumes nothing.
use Rattle.std.specs.Prelude.{Result, Ok, Err}
use Rattle.refusal.specs.Answer.{Answer, gives, refused}
use Rattle.refusal.specs.Number.{number_of}
use Rattle.refusal.specs.declared.Fault.{Fault}
use Rattle.refusal.specs.declared.Refusal.{Refusal}

abbrev pub fault_of : {A : Type 0} → Fault → Answer A
fault_of fault = refused (number_of fault.refusal) fault.place

-- a refusal at place 0
abbrev pub at_start : Refusal → Fault
at_start refusal = record { refusal = refusal; place = 0 }

-- what a call says: its values, or the number and place of its fault
abbrev pub answer_of : {A : Type 0} → Result A Fault → Answer A
answer_of (Ok value) = gives value
answer_of (Err fault) = fault_of fault
