-- Assumes nothing.
use Rattle.std.proofs.Common.{length, ◌-◌}
use Rattle.restore.proofs.Editing.{Replaying}
use Rattle.restore.proofs.restoring.copy_edits.Given as goal

abbrev pub invariant-loop-to : goal.invariant-loop-to
invariant-loop-to l = Replaying l.store l.at l.base l.size l.fn.to l.place l.end l.done l.to

abbrev pub decreases-loop-to : goal.decreases-loop-to
decreases-loop-to l = length l.store - l.place
