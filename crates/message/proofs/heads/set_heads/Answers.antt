-- `message::heads::set_heads`: the first word of a packet is as it was until it is changed. Assumes nothing.
use Rattle.std.proofs.Common.{◌≡◌, refl, ◌*◌, arith, add-one, get_or}
use Rattle.ump.specs.Packet.{sysex8}
use Rattle.ump.specs.Setters.{on_heads}
use Rattle.ump.proofs.HeadersChanged.{heads_elsewhere}
use Rattle.message.proofs.heads.set_heads.Goals as goal

pub loop-packet-init : goal.loop-packet-init
unfolding on_heads
loop-packet-init g c head h = refl

pub loop-packet-preserved : goal.loop-packet-preserved
unfolding on_heads
loop-packet-preserved g c head h =
    let l = c.loop-packet in
    let before = l.invariant head h in
    let kept : get_or (on_heads sysex8 head c.args.words.now l.packet) (4 * l.packet) 0 ≡ get_or c.args.words.now (4 * l.packet) 0 =
    heads_elsewhere sysex8 head c.args.words.now l.packet (4 * l.packet) (λ p k e. omega arith) in
    rw (add-one, h _ _ c.change.ensures, before, kept)
