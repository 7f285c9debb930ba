-- `edit::listed::cut_found`: all edits passed are in turn. Assumes nothing.
use Rattle.std.proofs.Common.{◌≡◌, false, sym, ◌∙◌, arith}
use Rattle.edit.specs.Meaning.{edit_meaning}
use Rattle.edit.specs.Listed.{out_of_turn}
use Rattle.edit.proofs.Lists.{turn_all, turn_out, turn_sound, turn_after, turn_on, turn_over, turn_done, ragged_found}
use Rattle.edit.proofs.listed.cut_found.Goals as goal

pub returns-then-numbers-ne0 : goal.returns-then-numbers-ne0
returns-then-numbers-ne0 c = ragged_found _ _ _ c.if-numbers-ne0.true

pub loop-index-init : goal.loop-index-init
loop-index-init c = turn_all _ _ _

pub returns-then-is_out : goal.returns-then-is_out
returns-then-is_out c = turn_out c.loop-index.invariant c.loop-index-test.true c.edit_at-edit.ensures (sym c.if-is_out.true ∙ c.is_out.ensures)

pub overflow_add-cut : goal.overflow_add-cut
overflow_add-cut c =
    let t = c.loop-index.invariant in
    let here : false ≡ out_of_turn c.args.size c.loop-index.left c.loop-index.end (edit_meaning c.edit_at-edit.result) =
    sym c.if-is_out.false ∙ c.is_out.ensures in
    let s = turn_sound t c.loop-index-test.true c.edit_at-edit.ensures here in
    omega (arith, s.forward, s.end, t.few, turn_after t c.loop-index-test.true c.edit_at-edit.ensures here)

pub loop-index-preserved : goal.loop-index-preserved
loop-index-preserved c =
    turn_on c.loop-index.invariant c.loop-index-test.true c.edit_at-edit.ensures (sym c.if-is_out.false ∙ c.is_out.ensures)

pub returns-then-left-eq0 : goal.returns-then-left-eq0
returns-then-left-eq0 c = turn_done c.loop-index.invariant c.loop-index-test.false c.if-numbers-ne0.false c.if-left-eq0.true

pub returns-else-left-eq0 : goal.returns-else-left-eq0
returns-else-left-eq0 c = turn_over c.loop-index.invariant c.loop-index-test.false c.if-left-eq0.false
