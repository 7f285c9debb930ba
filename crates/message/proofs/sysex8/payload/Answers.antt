-- `message::sysex8::payload`: the check, then Room, then packet after packet. Assumes nothing.
use Rattle.std.proofs.Common.{ap, ◌∙◌}
use Rattle.std.proofs.lemmas.Result.{err_from_is_err_and}
use borrow.Author.Tests.{lt-ltb, le-ltb}
use Rattle.refusal.specs.Answer.{gives}
use Rattle.ump.specs.Packet.{sysex8}
use Rattle.ump.specs.Setters.{copy_payload}
use Rattle.message.proofs.Checked.{found_taken, found_refused, taken_inside}
use Rattle.message.proofs.sysex8.payload.Goals as goal

pub returns-in_err-size : goal.returns-in_err-size
unfolding copy_payload
returns-in_err-size c =
    let p = err_from_is_err_and c.from_residual.result c.from_residual.ensures.1 in
    rw (p.1, p.2) (rw (found_refused sysex8 _ _ c.in_err-size.ensures))

pub returns-then-bytes-size : goal.returns-then-bytes-size
unfolding copy_payload
returns-then-bytes-size c =
    let m = found_taken sysex8 _ _ c.in_ok-size.ensures in
    rw c.into.ensures (rw (m.passes, ← m.sized, lt-ltb _ _ c.if-bytes-size.true))

pub copy_packets-requires : goal.copy_packets-requires
copy_packets-requires c =
    let m = found_taken sysex8 _ _ c.in_ok-size.ensures in
    record { inside = taken_inside sysex8 _ _ m.valid; room = rw (← m.sized) c.if-bytes-size.false }

pub returns : goal.returns
unfolding copy_payload
returns c =
    let m = found_taken sysex8 _ _ c.in_ok-size.ensures in
    rw (m.passes, ← m.sized, le-ltb _ _ c.if-bytes-size.false) (ap (λ x. (gives c.in_ok-size.size, x)) (c.copy_packets.ensures ∙ rw m.sized))
