-- `reclaim::keeping::keep`. Assumes nothing.
use Rattle.reclaim.proofs.Walking.{passing_start, passing_end}
use Rattle.reclaim.proofs.keeping.keep.Goals as goal

pub loop-at-init : goal.loop-at-init
loop-at-init c = passing_start c.args.store.now c.requires.1

pub keep_here-requires : goal.keep_here-requires
keep_here-requires c =
    (c.loop-at-test.true, (c.requires.0, c.loop-at.invariant))

pub loop-at-preserved : goal.loop-at-preserved
loop-at-preserved c =
    rw (c.next-at.ensures.is c.loop-at-test.true) c.keep_here.ensures

pub returns : goal.returns
returns c = passing_end c.loop-at.invariant c.loop-at-test.false
