-- `edit::listed::cut_found`: all edits passed are in turn. Assumes nothing.
use Rattle.edit.proofs.Lists.{Turn}
use Rattle.edit.proofs.listed.cut_found.Given as goal

abbrev pub invariant-loop-index : goal.invariant-loop-index
invariant-loop-index l = Turn l.numbers l.size l.bytes l.left l.end l.cut l.index
