-- Assumes nothing.
use Rattle.std.proofs.Common.{length, ◌-◌}
use Rattle.reclaim.proofs.Placing.{Marking}
use Rattle.reclaim.proofs.marking.mark_dump.Given as goal

abbrev pub invariant-loop-at : goal.invariant-loop-at
invariant-loop-at l = Marking l.initial.store l.number l.at l.store

abbrev pub decreases-loop-at : goal.decreases-loop-at
decreases-loop-at l = length l.initial.store - l.at
