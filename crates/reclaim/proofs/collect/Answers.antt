-- `reclaim::collect`. Assumes nothing.
use mathlib.Core.Path.{sym}
use native.Mathlib.Omega.{arith}
use Rattle.std.proofs.lemmas.Result.{err_from_is_err_and}
use Rattle.store.proofs.Checks.{index_given, index_refused}
use Rattle.reclaim.proofs.Moves.{collect_refused, collect-given}
use Rattle.reclaim.proofs.collect.Goals as goal

pub slice_bounds-places-end : goal.slice_bounds-places-end
slice_bounds-places-end c =
    (index_given c.index.ensures (omega (arith, c.index.auto.places)) c.in_ok-count.was).inside

pub slice_bounds-collect_noted-end : goal.slice_bounds-collect_noted-end
slice_bounds-collect_noted-end c =
    sym (index_given c.index.ensures (omega (arith, c.index.auto.places)) c.in_ok-count.was).long

pub collect_noted-requires : goal.collect_noted-requires
collect_noted-requires c =
    (index_given c.index.ensures (omega (arith, c.index.auto.places)) c.in_ok-count.was).noted

pub returns-in_err-count : goal.returns-in_err-count
returns-in_err-count c =
    let p = err_from_is_err_and c.from_residual.result c.from_residual.ensures.1 in
    rw (p.1, p.2) (collect_refused c.args.store.now (index_refused c.index.ensures c.in_err-count.was))

pub returns : goal.returns
returns c =
    collect-given c.args.store.now (index_given c.index.ensures (omega (arith, c.index.auto.places)) c.in_ok-count.was).passes c.collect_noted.ensures
