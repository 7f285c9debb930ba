-- `reader::open`: the check, then the cursor at the start. Assumes nothing.
use Rattle.std.proofs.Common.{sym}
use Rattle.std.proofs.lemmas.Result.{err_from_is_err_and}
use Rattle.ump.specs.Packet.{sysex8}
use Rattle.ump.specs.Reader.{reader}
use Rattle.message.proofs.Checked.{taken, not_taken}
use Rattle.reader.proofs.open.Goals as goal

pub returns-in_err-message : goal.returns-in_err-message
unfolding reader
returns-in_err-message c =
    let p = err_from_is_err_and c.from_residual.result c.from_residual.ensures.1 in
    rw (p.1, p.2) (rw (not_taken sysex8 _ _ (sym c.in_err-message.ensures)))

pub returns : goal.returns
unfolding reader
returns c =
    let m = taken sysex8 _ _ (sym c.in_ok-message.ensures) in
    rw (m.passes, m.sized)
