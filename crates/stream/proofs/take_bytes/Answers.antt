-- `stream::take_bytes`: one byte after the other. Assumes nothing.
use Rattle.std.proofs.Common.{◌≡◌, ◌+◌, ◌*◌, ◌^◌, ◌<◌, length, get_or, arith}
use Rattle.stream.proofs.Laws.{taking_none, taking_within, took_small, taking_data, taking_clock}
use Rattle.stream.proofs.take_bytes.Goals as goal
use Rattle.stream.proofs.take_bytes.Goals.{then-byte-lt248, else-byte-lt248}

pub loop-taken-init : goal.loop-taken-init
loop-taken-init c = taking_none

pub bounds-inner-next : goal.bounds-inner-next
bounds-inner-next c = taking_within c.loop-taken.invariant c.loop-taken-test.true c.requires.1

small : (c : goal.Then-byte-lt248) → c.loop-taken.octets * 256 + get_or c.args.inner.now c.loop-taken.next 0 < 2 ^ 48
small c =
    let within = taking_within c.loop-taken.invariant c.loop-taken-test.true c.requires.1 in
    let t = taking_data c.loop-taken.invariant c.loop-taken-test.true within c.if-byte-lt248.true in
    took_small t.so_far (omega (arith, t.within, c.requires.0))

pub overflow_mul-octets : goal.overflow_mul-octets
overflow_mul-octets c = omega (arith, small c)

pub overflow_add-octets : goal.overflow_add-octets
overflow_add-octets c = omega (arith, small c)

within : (c : goal.Joined-byte-lt248) → c.loop-taken.next < length c.args.inner.now
within c = taking_within c.loop-taken.invariant c.loop-taken-test.true c.requires.1

pub overflow_add-next : goal.overflow_add-next
overflow_add-next c = omega (arith, within c)

pub loop-taken-smaller : goal.loop-taken-smaller
loop-taken-smaller c = omega (arith, within c)

pub loop-taken-preserved : goal.loop-taken-preserved
loop-taken-preserved c =
    elim c.if-byte-lt248.branch [
      | then-byte-lt248 w ↦ rw (w.octets-is, w.taken-is) (taking_data c.loop-taken.invariant c.loop-taken-test.true (within c) w.if-byte-lt248.true)
      | else-byte-lt248 w ↦ rw (w.octets-is, w.taken-is) (taking_clock c.loop-taken.invariant c.loop-taken-test.true (within c) w.if-byte-lt248.false)
    ]

pub returns : goal.returns
returns c =
    let t = c.loop-taken.invariant in
    let e : c.loop-taken.taken ≡ c.args.count = omega (arith, t.within, c.loop-taken-test.false) in
    rw e at t.so_far
