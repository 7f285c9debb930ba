-- `look::find`: each return is a case of `find`. Assumes nothing.
use Rattle.std.proofs.Common.{sym, ◌∙◌}
use Rattle.look.proofs.Finding.{find_bad, find-outside, find_before, find_within, find_behind, find_beyond}
use Rattle.look.proofs.find.Goals as goal
use Rattle.look.proofs.find.Goals.{then-is_bad-via-then-is_bad, then-is_bad-via-else-is_bad+then-edit-size}

pub returns-then-is_bad : goal.returns-then-is_bad
returns-then-is_bad c =
    rw c.into.ensures
    (elim c.then-is_bad.branch [
      | then-is_bad-via-then-is_bad w ↦ find_bad _ _ _ (sym c.is_bad.ensures ∙ w.if-is_bad.true)
      | then-is_bad-via-else-is_bad+then-edit-size w ↦ find-outside _ _ _ (sym c.is_bad.ensures ∙ w.if-is_bad.false) w.if-edit-size.true
    ])

pub returns-then-position-edit : goal.returns-then-position-edit
returns-then-position-edit c = find_before _ _ _ (sym c.is_bad.ensures ∙ c.if-is_bad.false) c.if-edit-size.false c.if-position-edit.true

pub returns-then-within-edit : goal.returns-then-within-edit
returns-then-within-edit c =
    find_within _ _ _ (sym c.is_bad.ensures ∙ c.if-is_bad.false) c.if-edit-size.false c.if-position-edit.false c.if-within-edit.true

pub returns-then-behind-size : goal.returns-then-behind-size
returns-then-behind-size c =
    find_behind _ _ _ (sym c.is_bad.ensures ∙ c.if-is_bad.false) c.if-edit-size.false c.if-position-edit.false c.if-within-edit.false c.if-behind-size.true

pub returns : goal.returns
returns c =
    rw c.into-2.ensures
    (find_beyond _ _ _ (sym c.is_bad.ensures ∙ c.if-is_bad.false) c.if-edit-size.false c.if-position-edit.false c.if-within-edit.false c.if-behind-size.false)
