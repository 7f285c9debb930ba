-- `store::index`. Assumes nothing.
use Rattle.std.proofs.Common.{sym, ◌∙◌, length, refl, arith}
use Rattle.std.proofs.lemmas.Result.{err_from_is_err_and}
use borrow.Author.Tests.{lt-ltb, le-ltb}
use Rattle.store.specs.Store.{dumps_of}
use Rattle.store.proofs.Checks.{sound_format, sound_twice, sound_full, sound_pass, ok_or_err, indexes_refused, indexes_passed}
use Rattle.store.proofs.index.Goals as goal

pub returns-then-not-is_well_formed : goal.returns-then-not-is_well_formed
returns-then-not-is_well_formed c =
    rw c.into.ensures (indexes_refused refl (sound_format _ (sym c.is_well_formed.ensures ∙ c.if-not-is_well_formed.true)))

pub returns-in_err-count : goal.returns-in_err-count
returns-in_err-count c =
    let p = err_from_is_err_and c.from_residual.result c.from_residual.ensures.1 in
    let none = c.in_err-count.ensures.ok_part in
    rw (p.1, p.2, ok_or_err none c.in_err-count.ensures.value)
    (indexes_refused refl (sound_twice _ (sym c.is_well_formed.ensures ∙ c.if-not-is_well_formed.false) (c.enter.ensures.again none)))

pub returns-then-count-gt256 : goal.returns-then-count-gt256
returns-then-count-gt256 c =
    let counted = c.enter.ensures.counts _ c.in_ok-count.ensures.ok_part in
    rw c.into-then-count-gt256.ensures
    (indexes_refused refl
    (sound_full _ (sym c.is_well_formed.ensures ∙ c.if-not-is_well_formed.false) counted.0
    (lt-ltb 256 (length (dumps_of c.args.store.now)) (omega (arith, c.if-count-gt256.true, counted.1)))))

pub returns : goal.returns
returns c =
    let counted = c.enter.ensures.counts _ c.in_ok-count.ensures.ok_part in
    indexes_passed
    (sound_pass _ (sym c.is_well_formed.ensures ∙ c.if-not-is_well_formed.false) counted.0
    (le-ltb 256 (length (dumps_of c.args.store.now)) (omega (arith, c.if-count-gt256.false, counted.1))))
    counted.1
    (c.enter.ensures.notes _ c.in_ok-count.ensures.ok_part)
