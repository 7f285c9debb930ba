-- `message::sysex8::byte`: the check, then Range, then the byte. Assumes nothing.
use Rattle.std.proofs.Common.{ap}
use Rattle.std.proofs.lemmas.Result.{err_from_is_err_and}
use borrow.Author.Tests.{le-leb, lt-leb}
use Rattle.refusal.specs.Answer.{gives}
use Rattle.ump.specs.Packet.{sysex8}
use Rattle.ump.specs.Setters.{get_byte}
use Rattle.message.proofs.Checked.{found_taken, found_refused}
use Rattle.message.proofs.sysex8.byte.Goals as goal

pub returns-in_err-size : goal.returns-in_err-size
unfolding get_byte
returns-in_err-size c =
    let p = err_from_is_err_and c.from_residual.result c.from_residual.ensures.1 in
    rw (p.1, p.2) (rw (found_refused sysex8 _ _ c.in_err-size.ensures))

pub returns-then-size-index : goal.returns-then-size-index
unfolding get_byte
returns-then-size-index c =
    let m = found_taken sysex8 _ _ c.in_ok-size.ensures in
    rw c.into.ensures (rw (m.passes, ← m.sized, le-leb _ _ c.if-size-index.true))

pub byte_of-requires : goal.byte_of-requires
byte_of-requires c =
    let m = found_taken sysex8 _ _ c.in_ok-size.ensures in
    (record { passes = m.passes; sized = m.sized }, c.if-size-index.false)

pub returns : goal.returns
unfolding get_byte
returns c =
    let m = found_taken sysex8 _ _ c.in_ok-size.ensures in
    rw (m.passes, ← m.sized, lt-leb _ _ c.if-size-index.false) (ap gives c.byte_of.ensures)
