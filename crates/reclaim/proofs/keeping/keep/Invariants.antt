-- Assumes nothing.
use Rattle.std.proofs.Common.{length, ◌-◌}
use Rattle.reclaim.specs.Keeping.{Passing}
use Rattle.reclaim.proofs.keeping.keep.Given as goal

abbrev pub invariant-loop-at : goal.invariant-loop-at
invariant-loop-at l = Passing l.store l.at l.kept

abbrev pub decreases-loop-at : goal.decreases-loop-at
decreases-loop-at l = length l.store - l.at
