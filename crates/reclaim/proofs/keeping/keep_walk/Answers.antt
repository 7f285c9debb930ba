-- `reclaim::keeping::keep_walk`. Assumes nothing.
use mathlib.Core.Path.{sym, ap, ◌∙◌}
use Rattle.store.specs.Store.{dumps_of, numbers_of}
use Rattle.chain.specs.Meaning.{basis_meaning}
use Rattle.reclaim.proofs.Walking.{going_start, going_done, going_ends, going_on, flagged_here, flagged_still, fewer, based_held}
use Rattle.reclaim.proofs.keeping.keep_walk.Goals as goal

pub loop-kept-init : goal.loop-kept-init
loop-kept-init c = going_start c.requires.1.0 c.requires.1.1.0 c.requires.1.1.1

pub returns-in_default : goal.returns-in_default
returns-in_default c =
    going_ends c.loop-kept.invariant c.flag.new.table c.flag.auto.table c.flag.ensures (ap basis_meaning (sym c.in_default.is) ∙ c.basis_of.ensures.is c.requires.0)

pub loop-kept-smaller : goal.loop-kept-smaller
loop-kept-smaller c =
    let after = c.flag.new.table in
    fewer c.loop-kept.kept after (flagged_still c.loop-kept.invariant after c.flag.auto.table c.flag.ensures) c.loop-kept.current (numbers_of (dumps_of c.args.store.now))
    (based_held (dumps_of c.args.store.now) c.loop-kept.current (ap basis_meaning (sym c.in-Delta.is) ∙ c.basis_of.ensures.is c.requires.0))
    (sym c.is_flagged.ensures ∙ c.loop-kept-test.true)
    (flagged_here c.loop-kept.invariant after c.flag.auto.table c.flag.ensures)

pub loop-kept-preserved : goal.loop-kept-preserved
loop-kept-preserved c =
    going_on c.loop-kept.invariant c.flag.new.table c.flag.auto.table c.flag.ensures (ap basis_meaning (sym c.in-Delta.is) ∙ c.basis_of.ensures.is c.requires.0) (rw c.in-Delta.is at c.basis_of.ensures.small)

pub returns : goal.returns
returns c = going_done c.loop-kept.invariant (sym c.is_flagged.ensures ∙ c.loop-kept-test.false)
