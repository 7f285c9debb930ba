-- `reclaim::marking::mark_dump`. Assumes nothing.
use mathlib.Core.Path.{sym, ◌∙◌}
use Rattle.reclaim.proofs.Placing.{marking_start, marking_here, marking_past, marking_end}
use Rattle.reclaim.proofs.marking.mark_dump.Goals as goal

pub loop-at-init : goal.loop-at-init
loop-at-init c = marking_start _ _

pub returns-then-begins_here : goal.returns-then-begins_here
returns-then-begins_here c =
    marking_here c.args.store.now c.loop-at.at (rw c.loop-at.invariant.same at c.loop-at-test.true) c.args.number c.loop-at.invariant
    (rw c.loop-at.invariant.same at (sym c.begins_here.ensures ∙ c.if-begins_here.true)) c.marked_kind.ensures

pub loop-at-preserved : goal.loop-at-preserved
loop-at-preserved c =
    marking_past c.args.store.now c.loop-at.at (rw c.loop-at.invariant.same at c.loop-at-test.true) c.args.number c.loop-at.invariant
    (rw c.loop-at.invariant.same at (sym c.begins_here.ensures ∙ c.if-begins_here.false)) (rw c.loop-at.invariant.same at (c.next-at.ensures.is c.loop-at-test.true))

pub returns : goal.returns
returns c = marking_end c.loop-at.invariant c.loop-at-test.false
