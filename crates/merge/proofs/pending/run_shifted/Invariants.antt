-- Assumes nothing.
use Rattle.std.proofs.Common.{◌+◌, ◌^◌, ◌<◌}
use Rattle.merge.proofs.Running.{Ran}
use Rattle.merge.proofs.pending.run_shifted.Given as goal

abbrev pub invariant-loop-step : goal.invariant-loop-step
invariant-loop-step l =
    (small : l.wait.0 < 2 ^ 40)
    × Ran l.head l.lag l.first l.fn.pending l.initial.words l.words (record { high = l.wait.0; low = l.wait.1.0; count = l.count; packet = l.to + l.step; fits = small }) (l.first + l.step)
