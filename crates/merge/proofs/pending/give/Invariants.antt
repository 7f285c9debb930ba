-- Assumes nothing.
use Rattle.std.proofs.Common.{◌≡◌, ◌-◌, length}
use Rattle.merge.proofs.Keeps.{Left, Gave}
use Rattle.merge.proofs.pending.give.Given as goal

abbrev pub invariant-loop-piece : goal.invariant-loop-piece
invariant-loop-piece l =
    let rest = l.piece-iterator.rest.now in
    (l.piece-iterator.size ≡ 13) × Left l.bytes l.from l.to rest × Gave l.initial.flow l.from l.bytes l.initial.words l.words l.head l.flow (l.to - length rest)
