-- Assumes nothing.
use Rattle.splice.proofs.Outgrowing.{Passed}
use Rattle.splice.proofs.replacing.outgrows.Given as goal

abbrev pub invariant-loop-index : goal.invariant-loop-index
invariant-loop-index l = Passed l.numbers l.room l.added l.removed l.index
