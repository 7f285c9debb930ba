-- `message::sysex8::set_byte`: the check, then Range, then one store where the byte stands. Assumes nothing.
use Rattle.std.proofs.Common.{ap}
use Rattle.std.proofs.lemmas.Result.{err_from_is_err_and}
use borrow.Author.Tests.{le-leb, lt-leb}
use Rattle.refusal.specs.Answer.{pass}
use Rattle.ump.specs.Packet.{sysex8}
use Rattle.ump.specs.Setters.{set_byte}
use Rattle.message.proofs.Checked.{found_taken, found_refused}
use Rattle.message.proofs.Places.{sized, standing}
use Rattle.message.proofs.sysex8.set_byte.Goals as goal

pub returns-in_err-size : goal.returns-in_err-size
unfolding set_byte
returns-in_err-size c =
    let p = err_from_is_err_and c.from_residual.result c.from_residual.ensures.1 in
    rw (p.1, p.2) (rw (found_refused sysex8 _ _ c.in_err-size.ensures))

pub returns-then-size-index : goal.returns-then-size-index
unfolding set_byte
returns-then-size-index c =
    let m = found_taken sysex8 _ _ c.in_ok-size.ensures in
    rw c.into.ensures (rw (m.passes, ← m.sized, le-leb _ _ c.if-size-index.true))

pub place_of-place-requires : goal.place_of-place-requires
place_of-place-requires c = (sized (found_taken sysex8 _ _ c.in_ok-size.ensures), c.if-size-index.false)

pub store_byte-requires : goal.store_byte-requires
store_byte-requires c =
    let s = standing (found_taken sysex8 _ _ c.in_ok-size.ensures) c.if-size-index.false c.place_of-place.ensures in
    (s.there, s.few, s.inner)

pub returns : goal.returns
unfolding set_byte
returns c =
    let m = found_taken sysex8 _ _ c.in_ok-size.ensures in
    let s = standing m c.if-size-index.false c.place_of-place.ensures in
    rw (m.passes, ← m.sized, lt-leb _ _ c.if-size-index.false, ← s.packet_is, ← s.byte_is) (ap (λ x. (pass, x)) c.store_byte.ensures)
