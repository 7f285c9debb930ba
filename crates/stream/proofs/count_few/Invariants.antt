-- Assumes nothing.
use Rattle.stream.proofs.Counting.{Counted}
use Rattle.stream.proofs.count_few.Given as goal

abbrev pub invariant-loop-byte : goal.invariant-loop-byte
invariant-loop-byte l = Counted l.bytes l.limit l.byte-index l.number
