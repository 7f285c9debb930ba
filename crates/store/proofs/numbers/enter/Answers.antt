-- `store::numbers::enter`. Assumes nothing.
use Rattle.store.proofs.Entering.{entering_start, passed_all}
use Rattle.store.proofs.numbers.enter.Goals as goal

pub loop-at-init : goal.loop-at-init
loop-at-init c = entering_start c.args.store.now c.args.places.now c.requires

pub returns : goal.returns
returns c = passed_all c.loop-at.invariant c.loop-at-test.false
