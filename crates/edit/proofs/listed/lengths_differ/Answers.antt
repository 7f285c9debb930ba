-- `edit::listed::lengths_differ`: the lengths passed are taken off the bytes. Assumes nothing.
use Rattle.std.proofs.Common.{arith}
use Rattle.edit.proofs.Lists.{left_all, left_short, left_on, left_end}
use Rattle.edit.proofs.listed.lengths_differ.Goals as goal

pub loop-index-init : goal.loop-index-init
loop-index-init c = left_all _ _

pub returns-in_default : goal.returns-in_default
returns-in_default c = left_short c.loop-index.invariant c.loop-index-test.true c.edit_at.ensures (omega (arith, c.in_default.ensures))

pub loop-index-preserved : goal.loop-index-preserved
loop-index-preserved c =
    rw c.in-Some.ensures.1 (left_on c.loop-index.invariant c.loop-index-test.true c.edit_at.ensures c.in-Some.ensures.0)

pub returns : goal.returns
returns c = left_end c.loop-index.invariant c.loop-index-test.false
