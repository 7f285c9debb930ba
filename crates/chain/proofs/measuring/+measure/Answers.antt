-- The recursion of `chain::measuring::measure`: its base, then itself. Assumes nothing.
use Rattle.std.specs.Prelude.{Some}
use Rattle.std.proofs.lemmas.Result.{err_from_is_err_and}
use Rattle.std.proofs.Common.{◌∙◌, ◌-◌, sym, ap, arith}
use Rattle.refusal.specs.declared.Refusal.TheVariants.{Missing, Ring}
use Rattle.store.specs.Store.{is_whole, Dump, dumps_of}
use Rattle.store.specs.Meaning.{found_meaning}
use Rattle.store.proofs.Parts.{test_is}
use Rattle.store.proofs.Checks.{sound_good, ok_or_err}
use Rattle.chain.specs.Restore.{unlimited}
use Rattle.chain.proofs.Steps.{found_at, restored-none, step_missing, step_refused, delta_dump}
use Rattle.chain.proofs.Weights.{held_ordered, restored_size}
use Rattle.chain.proofs.Extents.{measures_refused, measures_dump, extent_whole, extent_measures, sizes_few}
use Rattle.chain.proofs.measuring.+measure.Goals as goal

pub returns-then-left-eq0 : goal.returns-then-left-eq0
returns-then-left-eq0 t c = measures_refused Ring (restored-none unlimited _ c.args.left c.args.number c.if-left-eq0.true)

pub returns-then-is_whole : goal.returns-then-is_whole
returns-then-is_whole t c =
    let stands = found_at c.args.store.now (c.find.ensures.stands c.requires.0) c.in_ok-at.ensures.ok_part in
    let there = ap (found_meaning c.args.store.now) (sym c.in_ok-at.ensures.ok_part) ∙ c.find.ensures.is c.requires.0 in
    measures_dump
    (extent_whole c.args.store.now c.args.left c.args.number c.if-left-eq0.false c.in_ok-at.at stands.1 there
    (test_is is_whole c.is_whole.ensures c.byte.ensures c.if-is_whole.true) c.measure_whole.ensures)

pub measure_delta-requires : goal.measure_delta-requires
measure_delta-requires t c =
    let store = c.args.store.now in
    let stands = found_at store (c.find.ensures.stands c.requires.0) c.in_ok-at.ensures.ok_part in
    let there = ap (found_meaning store) (sym c.in_ok-at.ensures.ok_part) ∙ c.find.ensures.is c.requires.0 in
    let formed = (sound_good store c.requires.1.0).formed in
    let below = c.measure.ensures.dump _ c.in_ok-base.was in
    let other = test_is is_whole c.is_whole.ensures c.byte.ensures c.if-is_whole.false in (
      stands.0,
      (
        omega (arith, below.size, restored_size store formed _ _ below.payload below.is),
        (
          omega (arith, below.steps, sizes_few (dumps_of store) (c.args.left - 1) c.number_at.result, c.requires.1.1),
          held_ordered store formed c.args.number (sym there ∙ ap (λ (d : Dump). Some d) (delta_dump store c.in_ok-at.at stands.1 other)),
        ),
      ),
    )

pub returns-in_err-at : goal.returns-in_err-at
returns-in_err-at t c =
    let p = err_from_is_err_and c.from_residual.result c.from_residual.ensures.1 in
    let none = c.in_err-at.ensures.ok_part in
    rw (p.1, p.2, ok_or_err none c.in_err-at.ensures.value)
    (measures_refused Missing
    (step_missing unlimited c.args.store.now c.args.left c.args.number c.if-left-eq0.false
    (ap (found_meaning c.args.store.now) (sym none) ∙ c.find.ensures.is c.requires.0)))

pub returns-in_err-base : goal.returns-in_err-base
returns-in_err-base t c =
    let p = err_from_is_err_and c.from_residual-in_err-base.result c.from_residual-in_err-base.ensures.1 in
    let stands = found_at c.args.store.now (c.find.ensures.stands c.requires.0) c.in_ok-at.ensures.ok_part in
    let there = ap (found_meaning c.args.store.now) (sym c.in_ok-at.ensures.ok_part) ∙ c.find.ensures.is c.requires.0 in
    rw (p.1, p.2)
    (measures_refused c.in_err-base.field-0.0
    (step_refused unlimited c.args.store.now c.args.left c.args.number c.if-left-eq0.false c.in_ok-at.at stands.1 there
    (test_is is_whole c.is_whole.ensures c.byte.ensures c.if-is_whole.false) c.number_at.ensures.0
    (c.measure.ensures.refuses _ c.in_err-base.was)))

pub returns : goal.returns
returns t c =
    let stands = found_at c.args.store.now (c.find.ensures.stands c.requires.0) c.in_ok-at.ensures.ok_part in
    let there = ap (found_meaning c.args.store.now) (sym c.in_ok-at.ensures.ok_part) ∙ c.find.ensures.is c.requires.0 in
    extent_measures c.args.store.now c.args.left c.args.number c.if-left-eq0.false c.in_ok-at.at stands.1 there
    (test_is is_whole c.is_whole.ensures c.byte.ensures c.if-is_whole.false) c.number_at.ensures.0
    (c.measure.ensures.dump _ c.in_ok-base.was) c.measure_delta.ensures
