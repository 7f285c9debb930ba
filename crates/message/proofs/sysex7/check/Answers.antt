-- `message::sysex7::check`: the size found, with the fields of the first word. Assumes nothing.
use Rattle.std.proofs.lemmas.Result.{err_from_is_err_and}
use Rattle.ump.specs.Packet.{sysex7}
use Rattle.message.proofs.Checked.{found_taken, found_refused, taken_begins, checked_fault, checked_size}
use Rattle.message.proofs.sysex7.check.Goals as goal

pub returns-in_err-size : goal.returns-in_err-size
returns-in_err-size c =
    let p = err_from_is_err_and c.from_residual.result c.from_residual.ensures.1 in
    rw (p.1, p.2) (checked_fault sysex7 _ _ (found_refused sysex7 _ _ c.in_err-size.ensures))

pub bounds-words-0 : goal.bounds-words-0
bounds-words-0 c = taken_begins sysex7 _ _ (found_taken sysex7 _ _ c.in_ok-size.ensures)

pub returns : goal.returns
returns c = rw c.group_of.ensures (checked_size sysex7 _ _ (found_taken sysex7 _ _ c.in_ok-size.ensures))
