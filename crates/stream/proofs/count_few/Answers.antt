-- `stream::count_few`: one byte after the other. Assumes nothing.
use Rattle.std.proofs.Common.{arith}
use Rattle.stream.proofs.Counting.{counted_none, counted_most, counted_below, counted_other, counted_all}
use Rattle.stream.proofs.count_few.Goals as goal
use Rattle.stream.proofs.count_few.Goals.{then-byte-limit, else-byte-limit}

pub loop-byte-init : goal.loop-byte-init
loop-byte-init c = counted_none

pub overflow_add-number : goal.overflow_add-number
overflow_add-number c = omega (arith, counted_most c.loop-byte.invariant)

pub loop-byte-preserved : goal.loop-byte-preserved
loop-byte-preserved c =
    elim c.if-byte-limit.branch [
      | then-byte-limit w ↦ rw w.number-is (counted_below c.loop-byte.invariant c.loop-byte-test.true w.if-byte-limit.true)
      | else-byte-limit w ↦ rw w.number-is (counted_other c.loop-byte.invariant c.loop-byte-test.true w.if-byte-limit.false)
    ]

pub returns : goal.returns
returns c = counted_all c.loop-byte.invariant c.loop-byte-test.false
