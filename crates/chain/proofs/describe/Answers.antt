-- `chain::describe`: what the check refuses, or what is said of a good store. Assumes nothing.
use Rattle.std.proofs.Common.{sym, ◌∙◌, arith}
use Rattle.std.proofs.lemmas.Result.{err_from_is_err_and}
use Rattle.store.proofs.Checks.{index_given, index_refused}
use Rattle.chain.proofs.Describing.{describe_unsound, describe_is}
use Rattle.chain.proofs.describe.Goals as goal

pub returns-in_err-count : goal.returns-in_err-count
returns-in_err-count c =
    let p = err_from_is_err_and c.from_residual.result c.from_residual.ensures.1 in
    rw (p.1, p.2) (describe_unsound c.args.store.now c.args.number (index_refused c.index.ensures c.in_err-count.was))

pub slice_bounds-places-end : goal.slice_bounds-places-end
slice_bounds-places-end c = (index_given c.index.ensures (omega (arith, c.index.auto.places)) c.in_ok-count.was).inside

pub slice_bounds-describe_noted-end : goal.slice_bounds-describe_noted-end
slice_bounds-describe_noted-end c = sym (index_given c.index.ensures (omega (arith, c.index.auto.places)) c.in_ok-count.was).long

pub describe_noted-requires : goal.describe_noted-requires
describe_noted-requires c =
    let f = index_given c.index.ensures (omega (arith, c.index.auto.places)) c.in_ok-count.was in
    (f.noted, (f.passes, omega (arith, f.long, f.few)))

pub returns : goal.returns
returns c =
    let f = index_given c.index.ensures (omega (arith, c.index.auto.places)) c.in_ok-count.was in
    c.describe_noted.ensures ∙ describe_is c.args.store.now c.args.number f.passes
