-- `edit::listed::Edits::find_byte`: the walk at each edit. Assumes nothing.
use Rattle.edit.proofs.Walking.{Walk}
use Rattle.edit.proofs.listed.Edits.find_byte.Given as goal

abbrev pub invariant-loop-index : goal.invariant-loop-index
invariant-loop-index l = Walk l.self.numbers.now l.self.size l.position l.end l.start l.left l.index
