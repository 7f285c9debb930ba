-- Assumes nothing.
use Rattle.std.proofs.Common.{length, ◌-◌}
use Rattle.stream.proofs.Laws.{Taking}
use Rattle.stream.proofs.take_bytes.Given as goal

abbrev pub invariant-loop-taken : goal.invariant-loop-taken
invariant-loop-taken l = Taking l.inner l.at l.count l.octets l.taken l.next

abbrev pub decreases-loop-taken : goal.decreases-loop-taken
decreases-loop-taken l = length l.inner - l.next
