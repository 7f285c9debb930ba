-- `run_even` meets its contract: packet after packet is taken. Assumes nothing.
use Rattle.std.proofs.Common.{◌≡◌, ◌+◌, ◌-◌, add-zero, add_assoc, arith}
use Rattle.merge.specs.Pieces.{none}
use Rattle.merge.proofs.Running.{ran_none, ran_more, ran_room, append_even}
use Rattle.merge.proofs.pending.run_even.Goals as goal

pub loop-step-init : goal.loop-step-init
loop-step-init c = rw (add-zero c.args.first, add-zero c.args.packet) (ran_none c.args.head c.args.lag c.args.first (none c.args.packet) c.args.words.now)

pub load-bytes-requires : goal.load-bytes-requires
load-bytes-requires c =
    let l = c.loop-step in
    (omega (arith, c.requires, c.requires.1.1.small), omega (arith, c.requires, l.invariant.long))

pub store-requires : goal.store-requires
store-requires c =
    let i = c.loop-step.invariant in
    let s = c.requires.1.1 in
    let room = ran_room i (omega arith) c.args.last s (omega arith) in
    (omega (arith, room, i.long, s.small), (room, (c.load-bytes.result.small, s.free)))

pub loop-step-preserved : goal.loop-step-preserved
loop-step-preserved c =
    let x = c.args in
    rw (← add_assoc x.first c.loop-step.step 1, ← add_assoc x.packet c.loop-step.step 1)
    (ran_more c.loop-step.invariant (omega arith) _ _ _ c.load-bytes.ensures (append_even _ c.store.ensures))

pub returns : goal.returns
returns c =
    let x = c.args in
    let n : c.loop-step.step ≡ x.last - x.first = omega arith in
    let e : x.first + (x.last - x.first) ≡ x.last = omega arith in
    rw (n, e) at c.loop-step.invariant
