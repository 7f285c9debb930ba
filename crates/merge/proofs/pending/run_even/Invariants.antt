-- Assumes nothing.
use Rattle.std.proofs.Common.{◌+◌}
use Rattle.merge.specs.Pieces.{none}
use Rattle.merge.proofs.Running.{Ran}
use Rattle.merge.proofs.pending.run_even.Given as goal

abbrev pub invariant-loop-step : goal.invariant-loop-step
invariant-loop-step l = Ran l.head l.lag l.first (none l.packet) l.initial.words l.words (none (l.packet + l.step)) (l.first + l.step)
