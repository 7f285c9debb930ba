-- `reclaim::mark`. Assumes nothing.
use mathlib.Core.Path.{sym, ap, ◌∙◌}
use Rattle.std.proofs.lemmas.Result.{err_from_is_err_and}
use Rattle.refusal.proofs.Laws.{given_passes, refused_by}
use Rattle.store.specs.Store.{sound}
use Rattle.reclaim.proofs.Placing.{mark_unsound, mark_done, mark_missing}
use Rattle.reclaim.proofs.mark.Goals as goal
use Rattle.refusal.specs.Meaning.{answer_of}

pub returns-in_err-check : goal.returns-in_err-check
returns-in_err-check c =
    let p = err_from_is_err_and c.from_residual.result c.from_residual.ensures.1 in
    rw (p.1, p.2)
    (mark_unsound c.args.store.now c.args.number (refused_by (sound c.args.store.now) _ (sym c.check.ensures ∙ ap answer_of c.in_err-check.was)))

pub returns-then-mark_dump : goal.returns-then-mark_dump
returns-then-mark_dump c =
    mark_done c.args.store.now c.args.number (given_passes (sound c.args.store.now) (sym c.check.ensures ∙ ap answer_of c.in_ok-check.was)).0
    c.mark_dump.ensures.0 c.mark_dump.ensures.1 c.if-mark_dump.true

pub returns : goal.returns
returns c =
    rw c.into.ensures
    (mark_missing c.args.store.now c.args.number (given_passes (sound c.args.store.now) (sym c.check.ensures ∙ ap answer_of c.in_ok-check.was)).0
    c.mark_dump.ensures.0 c.mark_dump.ensures.1 c.if-mark_dump.false)
