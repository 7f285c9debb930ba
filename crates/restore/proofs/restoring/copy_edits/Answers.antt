-- `restore::restoring::copy_edits`. Assumes nothing.
use Rattle.std.proofs.Common.{arith}
use Rattle.store.specs.Store.{is_edit}
use Rattle.store.proofs.Parts.{test_is, edit_inside}
use Rattle.restore.proofs.Editing.{replaying_start, edit_from, replaying_over, replaying_more, replaying_end, filling_as, over_filling}
use Rattle.restore.proofs.restoring.copy_edits.Goals as goal

pub loop-to-init : goal.loop-to-init
loop-to-init c = replaying_start c.args.store.now _ _ _ _ c.requires.1 c.skip_data-place.ensures.rest c.skip_data-place.ensures.stops

pub copy_edit-requires : goal.copy_edit-requires
copy_edit-requires c =
    let e = test_is is_edit c.is_edit.ensures c.byte.ensures c.loop-to-test.true in
    let f = edit_from c.loop-to.invariant e c.requires.0 in
    (edit_inside c.args.store.now c.loop-to.place e, (omega (arith, f, c.requires.0), omega (arith, c.loop-to.invariant.long, c.loop-to.invariant.fits)))

pub returns-in_err-reached : goal.returns-in_err-reached
returns-in_err-reached c =
    let e = test_is is_edit c.is_edit.ensures c.byte.ensures c.loop-to-test.true in
    let n = c.from_residual.ensures in
    rw n (over_filling (replaying_over c.loop-to.invariant e c.requires.0 (c.copy_edit.ensures.over c.in_err-reached.was)))

pub overflow_add-place : goal.overflow_add-place
overflow_add-place c =
    let h = edit_inside c.args.store.now c.loop-to.place (test_is is_edit c.is_edit.ensures c.byte.ensures c.loop-to-test.true) in
    omega arith

pub loop-to-smaller : goal.loop-to-smaller
loop-to-smaller c =
    let h = edit_inside c.args.store.now c.loop-to.place (test_is is_edit c.is_edit.ensures c.byte.ensures c.loop-to-test.true) in
    let o = (c.copy_edit.ensures.done _ c.in_ok-reached.was).past.on in
    omega (arith, h, o)

pub loop-to-preserved : goal.loop-to-preserved
loop-to-preserved c =
    let e = test_is is_edit c.is_edit.ensures c.byte.ensures c.loop-to-test.true in
    rw c.number_at-end.ensures.0
    (replaying_more c.loop-to.invariant e c.requires.0 c.copy_edit.auto.to (c.copy_edit.ensures.done _ c.in_ok-reached.was))

pub copy_part-requires : goal.copy_part-requires
copy_part-requires c = (c.requires.0, omega (arith, c.loop-to.invariant.long, c.loop-to.invariant.fits))

pub returns : goal.returns
returns c =
    filling_as (replaying_end c.loop-to.invariant (test_is is_edit c.is_edit.ensures c.byte.ensures c.loop-to-test.false)) c.loop-to.invariant.long c.copy_part.ensures
