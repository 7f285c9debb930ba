-- `splice::sysex8::repack`: the check, and the core. Assumes nothing.
use Rattle.std.proofs.Common.{sym}
use Rattle.std.proofs.lemmas.Result.{err_from_is_err_and}
use Rattle.ump.specs.Packet.{sysex8}
use Rattle.message.proofs.Checked.{taken, not_taken}
use Rattle.splice.proofs.Calls.{repack_done, repack_refused}
use Rattle.splice.proofs.sysex8.repack.Goals as goal

pub repack-requires : goal.repack-requires
repack-requires c = let m = taken sysex8 _ _ (sym c.in_ok-message.ensures) in record { passes = m.passes; sized = m.sized }

pub returns-in_err-message : goal.returns-in_err-message
returns-in_err-message c =
    let p = err_from_is_err_and c.from_residual.result c.from_residual.ensures.1 in
    rw (p.1, p.2) (repack_refused _ _ (not_taken sysex8 _ _ (sym c.in_err-message.ensures)))

pub returns : goal.returns
returns c =
    let m = taken sysex8 _ _ (sym c.in_ok-message.ensures) in
    repack_done (record { passes = m.passes; sized = m.sized }) c.repack.ensures.0 c.repack.ensures.1
