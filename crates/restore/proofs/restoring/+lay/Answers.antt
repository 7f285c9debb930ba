-- The recursion of `restore::restoring::lay`: its base into the other buffer, then itself. Assumes nothing.
use Rattle.std.proofs.Common.{◌∙◌, sym, ap}
use Rattle.refusal.specs.declared.Refusal.TheVariants.{Missing, Ring}
use Rattle.std.proofs.lemmas.Result.{err_from_is_err_and}
use Rattle.store.proofs.Checks.{ok_or_err}
use Rattle.store.specs.Store.{is_whole}
use Rattle.store.specs.Meaning.{found_meaning}
use Rattle.store.proofs.Parts.{test_is}
use Rattle.chain.specs.Restore.{exceeds}
use Rattle.chain.proofs.Steps.{restored-none, step_missing, step_whole, step_refused, found_at, step_gives}
use Rattle.restore.proofs.Rooms.{lays_as, lays_refused, base_refused, base_given}
use Rattle.restore.proofs.restoring.+lay.Goals as goal

pub returns-then-left-eq0 : goal.returns-then-left-eq0
returns-then-left-eq0 t c = lays_refused Ring (restored-none (exceeds c.args.lent) _ c.args.left c.args.number c.if-left-eq0.true)

pub returns-then-is_whole : goal.returns-then-is_whole
returns-then-is_whole t c =
    let store = c.args.store.now in
    let stands = found_at store (c.find.ensures.stands c.requires.0) c.in_ok-at.ensures.ok_part in
    let there = ap (found_meaning store) (sym c.in_ok-at.ensures.ok_part) ∙ c.find.ensures.is c.requires.0 in
    lays_as
    (step_whole (exceeds c.args.lent) store c.args.left c.args.number c.if-left-eq0.false c.in_ok-at.at stands.1 there
    (test_is is_whole c.is_whole.ensures c.byte.ensures c.if-is_whole.true))
    c.lay_whole.ensures

pub returns-in_err-at : goal.returns-in_err-at
returns-in_err-at t c =
    let p = err_from_is_err_and c.from_residual.result c.from_residual.ensures.1 in
    let none = c.in_err-at.ensures.ok_part in
    rw (p.1, p.2, ok_or_err none c.in_err-at.ensures.value)
    (lays_refused Missing
    (step_missing (exceeds c.args.lent) c.args.store.now c.args.left c.args.number c.if-left-eq0.false
    (ap (found_meaning c.args.store.now) (sym none) ∙ c.find.ensures.is c.requires.0)))

pub returns-in_err-held : goal.returns-in_err-held
returns-in_err-held t c =
    let p = err_from_is_err_and c.from_residual-in_err-held.result c.from_residual-in_err-held.ensures.1 in
    let store = c.args.store.now in
    let stands = found_at store (c.find.ensures.stands c.requires.0) c.in_ok-at.ensures.ok_part in
    let there = ap (found_meaning store) (sym c.in_ok-at.ensures.ok_part) ∙ c.find.ensures.is c.requires.0 in
    rw (p.1, p.2)
    (lays_refused c.in_err-held.field-0.0
    (step_refused (exceeds c.args.lent) store c.args.left c.args.number c.if-left-eq0.false c.in_ok-at.at stands.1 there
    (test_is is_whole c.is_whole.ensures c.byte.ensures c.if-is_whole.false) c.number_at-base.ensures.0
    (base_refused c.lay.ensures c.in_err-held.was)))

pub returns : goal.returns
returns t c =
    let store = c.args.store.now in
    let stands = found_at store (c.find.ensures.stands c.requires.0) c.in_ok-at.ensures.ok_part in
    let there = ap (found_meaning store) (sym c.in_ok-at.ensures.ok_part) ∙ c.find.ensures.is c.requires.0 in
    lays_as
    (step_gives (exceeds c.args.lent) store c.args.left c.args.number c.if-left-eq0.false c.in_ok-at.at stands.1 there
    (test_is is_whole c.is_whole.ensures c.byte.ensures c.if-is_whole.false) c.number_at-base.ensures.0
    (base_given c.lay.ensures c.in_ok-held.was))
    c.lay_delta.ensures
