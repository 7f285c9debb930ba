-- Assumes nothing.
use Rattle.std.proofs.Common.{◌≡◌}
use Rattle.ump.specs.Edits.{edits_of}
use Rattle.splice.specs.Merging.{less_after}
use Rattle.merge.proofs.Turning.{rest}
use Rattle.splice.proofs.replacing.less_after.Given as goal

-- the edits that are left lead to the same size
abbrev pub invariant-loop-index : goal.invariant-loop-index
invariant-loop-index l = less_after l.left (rest l.numbers l.index) ≡ less_after l.size (edits_of l.numbers)
