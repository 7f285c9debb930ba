-- What the answer of this crate means: document 01's number and place, or the values.
-- Assumes nothing.
use Rattle.refusal.specs.declared.Fault.{Fault}
use Rattle.std.specs.Prelude.{Result, Ok, Err}
use Rattle.refusal.specs.Answer.{Answer, gives}
use Rattle.refusal.specs.Meaning.{fault_of}
use Rattle.ports.specs.Streams.{Reply, kept, dropped, handed_out}
use Rattle.ports.specs.declared.Received.{Received}
use Rattle.ports.specs.declared.Received.TheVariants as received

abbrev pub reply_meaning : Received → Reply
reply_meaning received.Kept = kept
reply_meaning received.Dropped = dropped
reply_meaning (received.HandedOut words) = handed_out words

abbrev pub received_meaning : Result Received Fault → Answer Reply
received_meaning (Ok reply) = gives (reply_meaning reply)
received_meaning (Err fault) = fault_of fault
