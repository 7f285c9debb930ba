-- Assumes nothing.
use Rattle.store.specs.Store.{dumps_of, numbers_of}
use Rattle.reclaim.proofs.Walking.{Going, unflagged}
use Rattle.reclaim.proofs.keeping.keep_walk.Given as goal

abbrev pub invariant-loop-kept : goal.invariant-loop-kept
invariant-loop-kept l = Going l.store l.initial.kept l.number l.kept l.current

abbrev pub decreases-loop-kept : goal.decreases-loop-kept
decreases-loop-kept l = unflagged l.kept (numbers_of (dumps_of l.store))
