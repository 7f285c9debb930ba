-- `splice::replacing::outgrows` meets its contract. Assumes nothing.
use Rattle.std.proofs.Common.{ap, arith}
use Rattle.std.proofs.lemmas.Bool.{true≢false}
use Rattle.ump.specs.Edits.{lengths}
use Rattle.splice.specs.Merging.{Within, widths}
use Rattle.merge.proofs.Turning.{rest_all, rest_end}
use Rattle.splice.proofs.Outgrowing.{passes}
use Rattle.splice.proofs.replacing.outgrows.Goals as goal

pub loop-index-init : goal.loop-index-init
loop-index-init c =
    let e = rest_all c.args.numbers.now in
    record { put = omega (arith, ap lengths e, c.requires.1.put); out = omega (arith, ap widths e, c.requires.1.out); within = λ w. rw e w }

pub overflow_add-added-in-loop-index : goal.overflow_add-added-in-loop-index
overflow_add-added-in-loop-index c = omega (arith, (passes c.loop-index.invariant (omega arith)).put)

pub overflow_sub-removed : goal.overflow_sub-removed
overflow_sub-removed c = c.requires.1.forward _ (omega arith)

pub overflow_add-removed-in-loop-index : goal.overflow_add-removed-in-loop-index
overflow_add-removed-in-loop-index c = omega (arith, (passes c.loop-index.invariant (omega arith)).out)

pub overflow_add-removed-in-loop-index-2 : goal.overflow_add-removed-in-loop-index-2
overflow_add-removed-in-loop-index-2 c = omega (arith, (passes c.loop-index.invariant (omega arith)).out)

pub loop-index-preserved : goal.loop-index-preserved
loop-index-preserved c = (passes c.loop-index.invariant (omega arith)).next (omega arith)

pub returns-then-removed-room : goal.returns-then-removed-room
returns-then-removed-room c e = absurd (true≢false e)

pub returns : goal.returns
unfolding Within
returns c e =
    let end = rest_end c.args.numbers.now c.loop-index.index (omega arith) in
    c.loop-index.invariant.within (rw end tt)
