-- `edit::placing::place`: why the list is refused, or where the byte stands. Assumes nothing.
use Rattle.std.proofs.Common.{◌≡◌}
use Rattle.std.proofs.lemmas.Result.{err_from_is_err_and}
use Rattle.refusal.specs.declared.Refusal.TheVariants.{Range}
use Rattle.edit.proofs.Walking.{placed_refused, placed_dump, placed_edit, placed_past}
use Rattle.edit.proofs.placing.place.Goals as goal

pub returns-in_err-edits : goal.returns-in_err-edits
returns-in_err-edits c =
    let p = err_from_is_err_and c.from_residual.result c.from_residual.ensures.1 in
    rw (p.1, p.2) (placed_refused _ _ _ _ c.in_err-edits.ensures.err)

pub returns-in_err-at : goal.returns-in_err-at
returns-in_err-at c =
    let e = c.in_ok-edits.ensures.ok in
    let p = err_from_is_err_and c.from_residual-in_err-at.result c.from_residual-in_err-at.ensures.1 in
    let v = rw c.in_err-at.ensures.ok_part at c.in_err-at.ensures.value in
    let q : c.in_err-at.field-0.0 ≡ Range = cc in
    rw (p.1, p.2, q)
    (rw (e.0, e.1.0, e.1.1) at (placed_past _ _ _ _ c.in_ok-edits.edits.passed (rw c.in_err-at.ensures.ok_part at c.find_byte.ensures)))

pub returns-in-Dump : goal.returns-in-Dump
returns-in-Dump c =
    let e = c.in_ok-edits.ensures.ok in
    rw (e.0, e.1.0, e.1.1) at
    (placed_dump _ _ _ _ c.in_ok-edits.edits.passed (rw (c.in_ok-at.ensures.ok_part, c.in-Dump.is) at c.find_byte.ensures))

pub returns-in-Edit : goal.returns-in-Edit
returns-in-Edit c =
    let e = c.in_ok-edits.ensures.ok in
    rw (e.0, e.1.0, e.1.1) at
    (placed_edit _ _ _ _ c.in_ok-edits.edits.passed (rw (c.in_ok-at.ensures.ok_part, c.in-Edit.is) at c.find_byte.ensures))
