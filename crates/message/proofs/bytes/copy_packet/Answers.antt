-- `message::bytes::copy_packet`: a full packet at once, else byte after byte of its payload. Assumes nothing.
use Rattle.std.proofs.Common.{◌≡◌, sym, ap, ◌∙◌, ℕ, ◌+◌, ◌<◌, add-one, arith, get_or}
use lib.Seq.{paste-suc}
use Rattle.ump.specs.Packet.{sysex8, size_of, size_at, count_at, payload_at}
use Rattle.ump.proofs.Sizes.{size_of_count, size_small}
use Rattle.ump.proofs.Bytes.{length-payload_at, get_d_payload_at}
use Rattle.message.proofs.bytes.copy_packet.Goals.{Then-count-eq14, In-loop-byte}
use Rattle.message.proofs.bytes.copy_packet.Goals as goal

full : (c : Then-count-eq14) → size_at sysex8 c.args.words.now c.args.packet ≡ 13
full c = ap (size_of sysex8) (sym c.count_of-count.ensures ∙ c.if-count-eq14.true) ∙ size_of_count sysex8 14 (omega arith)

-- a byte in the loop is one of the packet
of-packet : (c : In-loop-byte) → c.loop-byte.byte < size_at sysex8 c.args.words.now c.args.packet
of-packet c = rw (c.payload_size-size.ensures ∙ ap (size_of sysex8) c.count_of-count.ensures) at c.loop-byte-test.true

pub copy_full-requires : goal.copy_full-requires
copy_full-requires c = (c.requires, full (goal.at.copy_full-requires c).Then-count-eq14)

pub returns-then-count-eq14 : goal.returns-then-count-eq14
returns-then-count-eq14 c = (ap (λ (k : ℕ). c.args.at + k) (sym (full (goal.at.returns-then-count-eq14 c).Then-count-eq14)), c.copy_full.ensures)

pub byte_at-requires : goal.byte_at-requires
byte_at-requires c =
    (c.requires.there, c.requires.few, omega (arith, of-packet (goal.at.byte_at-requires c).In-loop-byte, size_small sysex8 (count_at sysex8 c.args.words.now c.args.packet)))

pub loop-byte-preserved : goal.loop-byte-preserved
loop-byte-preserved c =
    let w = c.args.words.now in
    let k = of-packet (goal.at.loop-byte-preserved c).In-loop-byte in
    let b : c.byte_at.result ≡ get_or (payload_at sysex8 w c.args.packet) c.loop-byte.byte 0 = c.byte_at.ensures ∙ sym (get_d_payload_at sysex8 w c.args.packet c.requires.there c.loop-byte.byte k) in
    rw (b, c.loop-byte.invariant, add-one)
    (paste-suc c.args.bytes.now c.args.at (payload_at sysex8 w c.args.packet) c.loop-byte.byte 0
    (omega (arith, k, c.requires.room))
    (rw (length-payload_at sysex8 w c.args.packet c.requires.there) k))
