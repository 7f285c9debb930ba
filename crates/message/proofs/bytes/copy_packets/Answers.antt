-- `message::bytes::copy_packets`: packet after packet. Assumes nothing.
use Rattle.std.proofs.Common.{◌≡◌, sym, ◌∙◌, ◌+◌, ◌≤◌, add-one, arith, rules, length}
use Rattle.ump.specs.Packet.{sysex8, size_at, payload_at}
use Rattle.ump.proofs.Bytes.{length-payload_at}
use Rattle.message.proofs.Laws.{Here, here}
use Rattle.message.proofs.Copying.{payload-part, copy_more, copy_size, copy_none}
use Rattle.message.proofs.bytes.copy_packets.Goals.{In-loop-packet}
use Rattle.message.proofs.bytes.copy_packets.Goals as goal

at-packet : (c : In-loop-packet) → Here 4 c.loop-packet.packet c.args.words.now
at-packet c = here c.loop-packet.packet c.requires.inside c.loop-packet-test.true

-- the bytes of the packet
piece : (c : In-loop-packet) → length (payload_at sysex8 c.args.words.now c.loop-packet.packet) ≡ size_at sysex8 c.args.words.now c.loop-packet.packet
piece c = length-payload_at sysex8 _ _ (at-packet c).there

-- the bytes that are left hold it
room : (c : In-loop-packet) → c.loop-packet.at + size_at sysex8 c.args.words.now c.loop-packet.packet ≤ length c.loop-packet.bytes
room c =
    let l = c.loop-packet in
    omega (arith, payload-part sysex8 c.args.words.now c.args.packets l.packet c.loop-packet-test.true, piece c, l.invariant.0, l.invariant.1, c.requires.room)

pub loop-packet-init : goal.loop-packet-init
loop-packet-init c = rw (copy_none sysex8 c.args.words.now) (search rules)

pub copy_packet-at-requires : goal.copy_packet-at-requires
copy_packet-at-requires c =
    let a = (goal.at.copy_packet-at-requires c).In-loop-packet in
    record { there = (at-packet a).there; few = omega (arith, (at-packet a).few); room = room a }

pub loop-packet-preserved : goal.loop-packet-preserved
loop-packet-preserved c =
    let l = c.loop-packet in
    let w = c.args.words.now in
    let s = sym (piece (goal.at.loop-packet-preserved c).In-loop-packet) in
    let e = copy_more sysex8 w _ l.bytes _ l.packet l.at (size_at sysex8 w l.packet) l.invariant.0 l.invariant.2 s c.copy_packet-at.ensures.1 in (
      c.copy_packet-at.ensures.0 ∙ rw (l.invariant.0, s, add-one) (sym (copy_size sysex8 w l.packet)),
      omega (arith, l.invariant.1),
      rw (add-one, c.copy_packet-at.ensures.0) e,
    )

pub returns : goal.returns
returns c =
    let l = c.loop-packet in
    let e : l.packet ≡ c.args.packets = omega (arith, c.loop-packet-test.false) in
    rw (← e, ← l.invariant.0) l.invariant.2
