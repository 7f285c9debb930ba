-- What the answers of this crate mean: document 01's number and place, or the values.
-- Assumes nothing.

use Rattle.refusal.specs.declared.Fault.{Fault}
use Rattle.refusal.specs.declared.Refusal.{Refusal}
use Rattle.std.specs.Prelude.{Result, Ok, Err, Bool, true, false, [], ◌∷◌, ℕ}
use Rattle.refusal.specs.Answer.{Answer, map_answer}
use Rattle.refusal.specs.Meaning.{at_start, fault_of, answer_of}
use Rattle.ump.specs.Single as ump
use Rattle.packet.specs.declared.Earlier.{Earlier}
use Rattle.packet.specs.declared.Earlier.TheVariants as earlier
use Rattle.packet.specs.declared.Kind.{Kind}
use Rattle.packet.specs.declared.Kind.TheVariants as kind
use Rattle.packet.specs.declared.sysex8.Packet as packet8
use Rattle.packet.specs.declared.sysex7.Packet as packet7

-- is the earlier data valid
abbrev pub valid_of : Earlier → Bool
valid_of earlier.Valid = true
valid_of earlier.Invalid = false

abbrev pub kind_meaning : Kind → ump.Kind
kind_meaning kind.Complete = ump.complete
kind_meaning kind.Start = ump.start
kind_meaning kind.Continue = ump.continue
kind_meaning kind.End = ump.end
kind_meaning (kind.UnexpectedEnd e) = ump.unexpected_end (valid_of e)

-- SysEx8: the stream id is a list of one
abbrev pub packet_meaning8 : Result packet8.Packet Fault → Answer ump.Packet
packet_meaning8 answer = map_answer (λ p. ump.single_packet (kind_meaning p.kind) p.group (p.id ∷ []) p.size) (answer_of answer)

-- SysEx7: no stream id
abbrev pub packet_meaning7 : Result packet7.Packet Fault → Answer ump.Packet
packet_meaning7 answer = map_answer (λ p. ump.single_packet (kind_meaning p.kind) p.group [] p.size) (answer_of answer)

-- a kind with a payload size
abbrev pub decision_of : Kind × ℕ → ump.Kind × ℕ
decision_of (kind, size) = (kind_meaning kind, size)

-- what a step says, its value read by f; a refusal stands at place 0
abbrev pub said : {A B : Type 0} → (A → B) → Result A Refusal → Answer B
said f (Ok value) = map_answer f (answer_of (Ok value))
said f (Err refusal) = fault_of (at_start refusal)
