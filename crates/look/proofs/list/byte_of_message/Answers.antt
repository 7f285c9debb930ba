-- `look::list::byte_of_message`: the check, then a byte of a message that passed. Assumes nothing.
use Rattle.std.proofs.Common.{sym}
use Rattle.std.proofs.lemmas.Result.{err_from_is_err_and}
use Rattle.ump.specs.Packet.{sysex8}
use Rattle.message.proofs.Checked.{taken, not_taken}
use Rattle.look.proofs.Bytes.{message_refused}
use Rattle.look.proofs.list.byte_of_message.Goals as goal

pub byte_of_checked-requires : goal.byte_of_checked-requires
byte_of_checked-requires c = let m = taken sysex8 _ _ (sym c.in_ok-message.ensures) in record { passes = m.passes; sized = m.sized }

pub returns-in_err-message : goal.returns-in_err-message
returns-in_err-message c =
    let p = err_from_is_err_and c.from_residual.result c.from_residual.ensures.1 in
    rw (p.1, p.2) (message_refused _ _ _ _ _ (not_taken sysex8 _ _ (sym c.in_err-message.ensures)))
