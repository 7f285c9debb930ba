-- `splice::replacing::less_after` meets its contract. Assumes nothing.
use Rattle.std.proofs.Common.{◌≡◌, ℕ, ◌+◌, ◌-◌, ◌/◌, ◌<◌, List, length, refl, sym, ap, ◌∙◌, arith}
use Rattle.ump.specs.Edits.{edit_in, per_edit}
use Rattle.merge.specs.Pass.{width}
use Rattle.splice.specs.Merging.{less_after}
use Rattle.merge.proofs.Turning.{rest, rest_all, rest_end, rest_step}
use Rattle.splice.proofs.replacing.less_after.Goals as goal

less_step : (numbers : List ℕ) (n i : ℕ) → i < length numbers / per_edit
    → less_after n (rest numbers i) ≡ less_after (n - (width (edit_in numbers i) - (edit_in numbers i).length)) (rest numbers (i + 1))
unfolding less_after
less_step numbers n i h = rw (rest_step numbers i h)

pub loop-index-init : goal.loop-index-init
loop-index-init c = rw (rest_all c.args.numbers.now) refl

pub overflow_sub-width : goal.overflow_sub-width
overflow_sub-width c = c.requires.forward _ (omega arith)

pub loop-index-preserved : goal.loop-index-preserved
loop-index-preserved c =
    rw (c.saturating_sub-left.ensures, c.saturating_sub.ensures)
    (sym (less_step _ _ _ (omega arith)) ∙ c.loop-index.invariant)

pub returns : goal.returns
unfolding less_after
returns c = ap (less_after _) (sym (rest_end _ _ (omega arith))) ∙ c.loop-index.invariant
