-- Assumes nothing.
use Rattle.splice.proofs.Repacks.{Repacks}
use Rattle.splice.proofs.packing.pack.Given as goal

abbrev pub invariant-loop-packet : goal.invariant-loop-packet
invariant-loop-packet l = Repacks l.initial.words l.length l.head l.packet l.flow l.words
