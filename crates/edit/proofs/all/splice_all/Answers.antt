-- `edit::all::splice_all`: the check, then all edits of a message that passed. Assumes nothing.
use Rattle.std.proofs.Common.{sym}
use Rattle.std.proofs.lemmas.Result.{err_from_is_err_and}
use Rattle.ump.specs.Packet.{sysex8}
use Rattle.message.proofs.Checked.{taken, not_taken}
use Rattle.edit.proofs.AtOnceCases.{all_refused}
use Rattle.edit.proofs.all.splice_all.Goals as goal

pub splice_checked-requires : goal.splice_checked-requires
splice_checked-requires c = let m = taken sysex8 _ _ (sym c.in_ok-message.ensures) in record { passes = m.passes; sized = m.sized }

pub returns-in_err-message : goal.returns-in_err-message
returns-in_err-message c =
    let p = err_from_is_err_and c.from_residual.result c.from_residual.ensures.1 in
    rw (p.1, p.2) (all_refused _ _ _ _ (not_taken sysex8 _ _ (sym c.in_err-message.ensures)))
