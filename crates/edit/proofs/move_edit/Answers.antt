-- `edit::move_edit`: each return is a case of `move_edit`. Assumes nothing.
use Rattle.std.proofs.Common.{ℕ, sym, ap₂, ◌∙◌, arith}
use Rattle.refusal.specs.Answer.{gives}
use Rattle.ump.specs.Edits.{Range}
use Rattle.edit.specs.Meaning.{edit_meaning}
use Rattle.edit.proofs.Laws.{sound_has, done_bad, pending_bad, first_overlaps, first_moves, last_overlaps, last_stays}
use Rattle.edit.proofs.move_edit.Goals as goal
use Rattle.edit.proofs.move_edit.Goals.{then-is_bad-via-then-is_bad, then-is_bad-via-else-is_bad+then-is_bad-2}

abbrev range : ℕ → ℕ → Range
range from to = record { from = from; to = to }

pub returns-then-is_bad : goal.returns-then-is_bad
returns-then-is_bad c =
    rw c.into.ensures
    (elim c.then-is_bad.branch [
      | then-is_bad-via-then-is_bad w ↦ done_bad _ _ _ (sym c.is_bad.ensures ∙ w.if-is_bad.true)
      | then-is_bad-via-else-is_bad+then-is_bad-2 w ↦
          pending_bad _ _ _ (sym c.is_bad.ensures ∙ w.if-is_bad.false) (sym w.is_bad-else-is_bad.ensures ∙ w.if-is_bad-2.true)
    ])

pub moved_past-requires : goal.moved_past-requires
moved_past-requires c =
    let s = sound_has (edit_meaning c.args.pending) (sym c.is_bad-else-is_bad.ensures ∙ c.if-is_bad-2.false) in
    (sound_has _ (sym c.is_bad.ensures ∙ c.if-is_bad.false), omega arith, omega (arith, s.forward, s.end))

pub moved_past-requires-then-done_first : goal.moved_past-requires-then-done_first
moved_past-requires-then-done_first c =
    let s = sound_has (edit_meaning c.args.pending) (sym c.is_bad-else-is_bad.ensures ∙ c.if-is_bad-2.false) in
    (sound_has _ (sym c.is_bad.ensures ∙ c.if-is_bad.false), omega (arith, s.forward), s.end)

pub returns-then-pending-done : goal.returns-then-pending-done
returns-then-pending-done c =
    rw c.into-then-pending-done.ensures
    (first_overlaps _ _ _ (sym c.is_bad.ensures ∙ c.if-is_bad.false) (sym c.is_bad-else-is_bad.ensures ∙ c.if-is_bad-2.false) c.if-done_first.true c.if-pending-done.true)

pub returns-then-done-pending : goal.returns-then-done-pending
returns-then-done-pending c =
    rw c.into-then-done-pending.ensures
    (last_overlaps _ _ _ (sym c.is_bad.ensures ∙ c.if-is_bad.false) (sym c.is_bad-else-is_bad.ensures ∙ c.if-is_bad-2.false) c.if-done_first.false c.if-done-pending.true)

pub returns-else-pending-done : goal.returns-else-pending-done
returns-else-pending-done c =
    ap₂ (λ (from to : ℕ). gives (range from to)) c.moved_past.ensures c.moved_past-then-done_first.ensures
    ∙ first_moves _ _ _ (sym c.is_bad.ensures ∙ c.if-is_bad.false) (sym c.is_bad-else-is_bad.ensures ∙ c.if-is_bad-2.false) c.if-done_first.true c.if-pending-done.false

pub returns-else-done-pending : goal.returns-else-done-pending
returns-else-done-pending c =
    last_stays _ _ _ (sym c.is_bad.ensures ∙ c.if-is_bad.false) (sym c.is_bad-else-is_bad.ensures ∙ c.if-is_bad-2.false) c.if-done_first.false c.if-done-pending.false
