-- `stream::write_packets`: packet after packet, and the last. Assumes nothing.
use Rattle.std.proofs.Common.{◌≡◌, ℕ, ◌+◌, ◌-◌, ◌*◌, ◌≤◌, List, length, min, ap, ◌∙◌, arith}
use Rattle.ump.specs.Packet.{sysex7}
use Rattle.ump.specs.Packing.{packets_for}
use Rattle.ump.specs.Stream.{without_real_time}
use Rattle.ump.proofs.Sizes.{packets_are, packets_pos, status_small}
use Rattle.stream.specs.Steps.{onward, Sized}
use Rattle.stream.proofs.Writing.{Wrote, led_first, led_more, wrote_none, wrote_six, wrote_last, wrote_more, wrote_all}
use Rattle.stream.proofs.write_packets.Goals as goal

module _ {inner : List ℕ} {size packets : ℕ} (s : Sized inner size packets) where
  some : packets ≡ packets_for sysex7 (length (without_real_time inner))
  some = s.in_packets ∙ ap (packets_for sysex7) s.data_size

  one_more : packets - 1 + 1 ≡ packets
  one_more = omega (arith, s.in_packets, packets_pos sysex7 size)

  fewer : 6 * (packets - 1) ≤ size
  fewer = omega (arith, one_more, s.in_packets, packets_are sysex7 size)

  rest : {group : ℕ} {old words ahead : List ℕ} → Wrote group (without_real_time inner) old words ahead (packets - 1)
      → size - 6 * (packets - 1) ≡ min 6 (length ahead)
  rest w = wrote_last some w s.data_size one_more

pub overflow_sub-last : goal.overflow_sub-last
overflow_sub-last c = omega (arith, c.requires.1.in_packets, packets_pos sysex7 c.args.size)

pub loop-packet-init : goal.loop-packet-init
loop-packet-init c = (c.head_word-head.ensures.1, wrote_none, rw c.head_word-head.ensures.0 (led_first c.args.group c.args.packets))

pub take_six-six-requires : goal.take_six-six-requires
take_six-six-requires c = wrote_six (some c.requires.1) c.loop-packet.invariant.1 (omega arith)

pub overflow_add-head : goal.overflow_add-head
overflow_add-head c = omega (arith, c.loop-packet.invariant.0, c.take_six-six.ensures.small)

pub loop-packet-preserved : goal.loop-packet-preserved
loop-packet-preserved c =
    let i = c.loop-packet.invariant in
    let six = wrote_six (some c.requires.1) i.1 (omega arith) in (
      c.head_word-head-in-loop-packet.ensures.1,
      rw c.put.ensures (wrote_more (some c.requires.1) i.1 (omega arith) c.requires.2 six (i.2 (omega arith)) c.take_six-six.ensures),
      rw c.head_word-head-in-loop-packet.ensures.0 (led_more c.args.group c.args.packets c.loop-packet.packet),
    )

-- at the end, the packets before the last are written
written : {group packet last : ℕ} {bs old words ahead : List ℕ} → Wrote group bs old words ahead packet → packet ≤ last → last ≤ packet
    → Wrote group bs old words ahead last
written {group} {packet} {last} w h l = let e : packet ≡ last = omega arith in rw e at w

pub overflow_mul-count : goal.overflow_mul-count
overflow_mul-count c = omega (arith, fewer c.requires.1)

pub overflow_sub-count : goal.overflow_sub-count
overflow_sub-count c = fewer c.requires.1

pub take_six-six-requires-2 : goal.take_six-six-requires-2
take_six-six-requires-2 c = rest c.requires.1 (written c.loop-packet.invariant.1 c.loop-packet.auto.packet-end c.loop-packet-test.false)

pub head_word-head-requires-2 : goal.head_word-head-requires-2
head_word-head-requires-2 c = (
  c.requires.0,
  omega (arith, c.status_for.ensures, status_small c.args.packets (c.args.packets - 1)),
  omega (arith, rest c.requires.1 (written c.loop-packet.invariant.1 c.loop-packet.auto.packet-end c.loop-packet-test.false)),
)

pub put-requires-2 : goal.put-requires-2
put-requires-2 c = omega (arith, c.loop-packet.auto.words, one_more c.requires.1, c.requires.2)

pub returns : goal.returns
returns c =
    let s = c.requires.1 in
    let b = written c.loop-packet.invariant.1 c.loop-packet.auto.packet-end c.loop-packet-test.false in
    let w : Wrote c.args.group (without_real_time c.args.inner.now) c.args.words.now c.put-2.new.words (onward c.args.inner.now c.take_six-six-2.result.next) (c.args.packets - 1 + 1) =
    rw c.put-2.ensures
    (wrote_more (some s) b (omega (arith, one_more s)) c.requires.2 (rest s b)
    (rw c.status_for.ensures at c.head_word-head-2.ensures.0) c.take_six-six-2.ensures) in
    wrote_all (some s) w (one_more s)
