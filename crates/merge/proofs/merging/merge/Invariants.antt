-- Assumes nothing.
use Rattle.std.proofs.Common.{List, ℕ}
use Rattle.merge.specs.Pass.{is_before, is_now, Merges}
use Rattle.merge.proofs.Merges.{Pass}
use Rattle.merge.proofs.merging.merge.Given as goal

-- the pass has come to an edit, whatever payload stood in the words
abbrev pub invariant-loop-index : goal.invariant-loop-index
invariant-loop-index l =
    (source : List ℕ) → Merges l.fn.words l.head l.size l.total l.numbers l.bytes (is_before l.shrinking) (is_now l.growing) source
    → Pass l.initial.words l.head l.size l.total l.lag l.numbers l.bytes (is_before l.shrinking) (is_now l.growing) source l.words l.at l.flow l.hand l.end l.start l.index
