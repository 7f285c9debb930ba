-- `ports::copy_front`: the words passed are pasted at the front. Assumes nothing.
use Rattle.std.proofs.Common.{◌≡◌}
use lib.Seq.{paste}
use Rattle.ports.proofs.copy_front.Given as goal

abbrev pub invariant-loop-index : goal.invariant-loop-index
invariant-loop-index l = l.to ≡ paste l.fn.to 0 l.from l.index
