-- `restore::restoring::copy`: the bytes passed are pasted. Assumes nothing.
use Rattle.std.proofs.Common.{◌≡◌, drop}
use lib.Seq.{paste}
use Rattle.restore.proofs.restoring.copy.Given as goal

abbrev pub invariant-loop-index : goal.invariant-loop-index
invariant-loop-index l = l.to ≡ paste l.fn.to l.done (drop l.start l.from) l.index
