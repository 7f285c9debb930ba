-- Assumes nothing.
use Rattle.std.proofs.Common.{length, ◌-◌}
use Rattle.store.specs.Places.{Entering}
use Rattle.store.proofs.numbers.enter.Given as goal

abbrev pub invariant-loop-at : goal.invariant-loop-at
invariant-loop-at l = Entering l.store l.at l.count l.used l.places

abbrev pub decreases-loop-at : goal.decreases-loop-at
decreases-loop-at l = length l.store - l.at
