-- `splice::sysex8::splice`: the check, then the splice of a message that passed. Assumes nothing.
use Rattle.std.proofs.Common.{sym}
use Rattle.std.proofs.lemmas.Result.{err_from_is_err_and}
use Rattle.ump.specs.Packet.{sysex8}
use Rattle.message.proofs.Checked.{taken, not_taken}
use Rattle.splice.proofs.Calls.{splice_refused}
use Rattle.splice.proofs.sysex8.splice.Goals as goal

pub splice_passed-requires : goal.splice_passed-requires
splice_passed-requires c = let m = taken sysex8 _ _ (sym c.in_ok-message.ensures) in record { passes = m.passes; sized = m.sized }

pub returns-in_err-message : goal.returns-in_err-message
returns-in_err-message c =
    let p = err_from_is_err_and c.from_residual.result c.from_residual.ensures.1 in
    rw (p.1, p.2) (splice_refused _ _ (not_taken sysex8 _ _ (sym c.in_err-message.ensures)) _ _ _)
