-- `move_up` meets its contract: from the last packet down. Assumes nothing.
use Rattle.std.proofs.Common.{◌≡◌, ◌+◌, ◌-◌, arith}
use Rattle.merge.specs.Pieces.{Moved}
use Rattle.merge.proofs.Moves.{moved_none, moved-start, moved-step}
use Rattle.merge.proofs.merging.move_up.Goals as goal

pub returns-then-by-eq0 : goal.returns-then-by-eq0
returns-then-by-eq0 c =
    let x = c.args in
    rw c.if-by-eq0.true (moved_none x.words.now x.head x.from x.to)

pub loop-packet-init : goal.loop-packet-init
loop-packet-init c =
    let x = c.args in
    (omega arith, moved-start x.words.now x.head x.to x.by)

pub loop-packet-preserved : goal.loop-packet-preserved
loop-packet-preserved c =
    let l = c.loop-packet in
    let x = c.args in
    let e : l.packet - 1 + 1 ≡ l.packet = omega arith in
    let m : Moved x.words.now x.head (l.packet - 1 + 1) x.to x.by l.words = rw e l.invariant.1 in
    (omega arith, moved-step (l.packet - 1) m (omega arith) (omega arith) c.store.ensures c.load-bytes.ensures)

pub returns : goal.returns
returns c =
    let l = c.loop-packet in
    let e : l.packet ≡ c.args.from = omega arith in
    rw e at l.invariant.1
