-- Assumes nothing.
use Rattle.std.proofs.Common.{◌≤◌}
use Rattle.merge.specs.Pieces.{Moved}
use Rattle.merge.proofs.merging.move_up.Given as goal

abbrev pub invariant-loop-packet : goal.invariant-loop-packet
invariant-loop-packet l = (l.from ≤ l.packet) × Moved l.initial.words l.head l.packet l.to l.by l.words
