-- Assumes nothing.
use Rattle.std.proofs.Common.{◌≡◌, ◌+◌}
use Rattle.stream.specs.Steps.{count_below}
use Rattle.stream.proofs.count_below.Given as goal

abbrev pub invariant-loop-part : goal.invariant-loop-part
invariant-loop-part l = (l.part-iterator.size ≡ 192) × (l.number + count_below l.limit l.part-iterator.rest.now ≡ count_below l.limit l.bytes)
