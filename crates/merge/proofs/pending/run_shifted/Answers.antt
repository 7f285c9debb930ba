-- `run_shifted` meets its contract: packet after packet is taken, and as many bytes wait. Assumes nothing.
use Rattle.std.proofs.Common.{◌≡◌, ◌+◌, ◌-◌, add-zero, add_assoc, refl, arith}
use Rattle.merge.proofs.Running.{ran_none, ran_more, ran_padded, ran_room, append-full}
use Rattle.merge.proofs.Sums.{sums}
use Rattle.merge.proofs.pending.run_shifted.Goals as goal

pub loop-step-init : goal.loop-step-init
loop-step-init c = (c.args.pending.fits, rw (add-zero c.args.first, add-zero c.args.pending.packet) (ran_none c.args.head c.args.lag c.args.first c.args.pending c.args.words.now))

pub load-bytes-requires : goal.load-bytes-requires
load-bytes-requires c =
    let l = c.loop-step in
    (omega (arith, c.requires, c.requires.1.1.1.small), omega (arith, c.requires, l.invariant.1.long))

pub later-moved-requires : goal.later-moved-requires
later-moved-requires c = (ran_padded c.loop-step.invariant.1 (omega arith) c.args.last c.requires.1.1.1 (omega arith)).few

pub overflow_add-wait : goal.overflow_add-wait
overflow_add-wait c =
    let l = c.loop-step in
    let s = sums (record { high = l.wait.0; low = l.wait.1.0; count = c.args.pending.count; packet = c.args.pending.packet + l.step; fits = l.invariant.0 })
    c.load-bytes.result c.later-moved.result (ran_padded l.invariant.1 (omega arith) c.args.last c.requires.1.1.1 (omega arith)) (omega arith) (omega arith) (omega arith) c.later-moved.ensures in
    omega (arith, s.1.0)

pub overflow_add-wait-in-loop-step : goal.overflow_add-wait-in-loop-step
overflow_add-wait-in-loop-step c =
    let l = c.loop-step in
    let s = sums (record { high = l.wait.0; low = l.wait.1.0; count = c.args.pending.count; packet = c.args.pending.packet + l.step; fits = l.invariant.0 })
    c.load-bytes.result c.later-moved.result (ran_padded l.invariant.1 (omega arith) c.args.last c.requires.1.1.1 (omega arith)) (omega arith) (omega arith) (omega arith) c.later-moved.ensures in
    omega (arith, s.0)

pub store-requires : goal.store-requires
store-requires c =
    let l = c.loop-step in
    let s = sums (record { high = l.wait.0; low = l.wait.1.0; count = c.args.pending.count; packet = c.args.pending.packet + l.step; fits = l.invariant.0 })
    c.load-bytes.result c.later-moved.result (ran_padded l.invariant.1 (omega arith) c.args.last c.requires.1.1.1 (omega arith)) (omega arith) (omega arith) (omega arith) c.later-moved.ensures in
    let room = ran_room l.invariant.1 (omega arith) c.args.last c.requires.1.1.1 (omega arith) in
    (omega (arith, room, l.invariant.1.long, c.requires.1.1.1.small), (room, (s.1.0, c.requires.1.1.1.free)))

pub earlier-wait-requires : goal.earlier-wait-requires
earlier-wait-requires c = omega (arith, (ran_padded c.loop-step.invariant.1 (omega arith) c.args.last c.requires.1.1.1 (omega arith)).few, c.requires.1.1.0)

pub loop-step-preserved : goal.loop-step-preserved
loop-step-preserved c =
    let x = c.args in
    let l = c.loop-step in
    let s = sums (record { high = l.wait.0; low = l.wait.1.0; count = c.args.pending.count; packet = c.args.pending.packet + l.step; fits = l.invariant.0 })
    c.load-bytes.result c.later-moved.result (ran_padded l.invariant.1 (omega arith) c.args.last c.requires.1.1.1 (omega arith)) (omega arith) (omega arith) (omega arith) c.later-moved.ensures in
    rw (← add_assoc x.first l.step 1, ← add_assoc x.pending.packet l.step 1)
    (c.earlier-wait.result.small, ran_more l.invariant.1 (omega arith) _ _ _ c.load-bytes.ensures (append-full _ _ _ 13 c.store.ensures s.1.1 (omega arith) c.earlier-wait.ensures refl refl))

pub returns : goal.returns
returns c =
    let x = c.args in
    let n : c.loop-step.step ≡ x.last - x.first = omega arith in
    let e : x.first + (x.last - x.first) ≡ x.last = omega arith in
    let g = (rw (n, e) at c.loop-step.invariant).1 in
    record { long = g.long; more = g.more; flows = g.flows }
