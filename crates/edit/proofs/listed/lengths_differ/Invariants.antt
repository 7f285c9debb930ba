-- `edit::listed::lengths_differ`: the lengths passed are taken off the bytes. Assumes nothing.
use Rattle.edit.proofs.Lists.{Left}
use Rattle.edit.proofs.listed.lengths_differ.Given as goal

abbrev pub invariant-loop-index : goal.invariant-loop-index
invariant-loop-index l = Left l.numbers l.bytes l.left l.index
