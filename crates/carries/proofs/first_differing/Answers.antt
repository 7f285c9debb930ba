-- `carries::first_differing`: a packet differs exactly if one of its bytes is another; the bytes before it are those counted. Assumes nothing.
use Rattle.std.proofs.Common.{◌≡◌, sym, ap, ◌∙◌, ℕ, ◌-◌, ◌*◌, ◌≤◌, add-one, arith, length}
use Rattle.ump.specs.Packet.{sysex8, count_at, size_at}
use Rattle.ump.proofs.First.{passed_zero, passed_one, passed_end, passed_here}
use Rattle.ump.proofs.Sizes.{size_of_count}
use Rattle.ump.proofs.Message.{length-payload}
use Rattle.ump.proofs.Payload.{payload_more}
use Rattle.message.proofs.Laws.{Here, here}
use Rattle.message.proofs.Copying.{copy_none}
use Rattle.carries.specs.Carries.{other_bytes}
use Rattle.carries.proofs.Carrying.{other_is, found_here, found_none}
use Rattle.carries.proofs.first_differing.Goals.{In-loop-packet, After-count_of}
use Rattle.carries.proofs.first_differing.Goals as goal

at-packet : (c : In-loop-packet) → Here 4 c.loop-packet.packet c.args.words.now
at-packet c = here c.loop-packet.packet c.requires.inside c.loop-packet-test.true

few : (c : In-loop-packet) → c.loop-packet.at ≤ 13 * c.loop-packet.packet
few c = rw c.loop-packet.invariant.1 (length-payload sysex8 c.args.words.now c.loop-packet.packet)

-- the size that the code reads
size_is : (c : After-count_of) → c.count_of.result - 1 ≡ size_at sysex8 c.args.words.now c.loop-packet.packet
size_is c =
    ap (λ (n : ℕ). n - 1) c.count_of.ensures
    ∙ sym (size_of_count sysex8 (count_at sysex8 c.args.words.now c.loop-packet.packet) (c.requires.counted c.loop-packet.packet c.loop-packet-test.true).1)

pub loop-packet-init : goal.loop-packet-init
loop-packet-init c = (passed_zero, sym (ap length (copy_none sysex8 c.args.words.now)))

pub differs-requires : goal.differs-requires
differs-requires c =
    let a = (goal.at.differs-requires c).In-loop-packet in
    record { there = (at-packet a).there; few = omega (arith, (at-packet a).few); size_is = size_is c; not_far = omega (arith, few a, (at-packet a).few) }

pub returns-then-differs : goal.returns-then-differs
returns-then-differs c =
    let e = c.differs.ensures ∙ other_is sysex8 c.args.words.now c.args.payload.now c.loop-packet.packet c.loop-packet.at c.loop-packet.invariant.1 in
    found_here (other_bytes sysex8 c.args.words.now c.args.payload.now) c.args.packets c.loop-packet-test.true (passed_here c.loop-packet.invariant.0 c.loop-packet-test.true (sym e ∙ c.if-differs.true))

pub overflow_add-at : goal.overflow_add-at
overflow_add-at c =
    let a = (goal.at.overflow_add-at c).In-loop-packet in
    omega (arith, few a, (at-packet a).few, (c.requires.counted c.loop-packet.packet c.loop-packet-test.true).1, c.count_of.ensures)

pub loop-packet-preserved : goal.loop-packet-preserved
loop-packet-preserved c =
    let a = goal.at.loop-packet-preserved c in
    let w = c.args.words.now in
    let p = c.loop-packet.packet in
    let e = c.differs.ensures ∙ other_is sysex8 w c.args.payload.now p c.loop-packet.at c.loop-packet.invariant.1 in (
      passed_one c.loop-packet.invariant.0 c.loop-packet-test.true (sym e ∙ c.if-differs.false),
      rw (add-one p) (omega (arith, c.loop-packet.invariant.1, payload_more sysex8 w p (at-packet a.In-loop-packet).there, size_is a.After-count_of)),
    )

pub returns : goal.returns
returns c =
    let e : c.loop-packet.packet ≡ c.args.packets = omega (arith, c.loop-packet.invariant.0.within, c.loop-packet-test.false) in
    found_none (other_bytes sysex8 c.args.words.now c.args.payload.now) c.args.packets (sym e ∙ passed_end c.loop-packet.invariant.0 c.loop-packet-test.false)
