-- `edit::growth_of`: both sizes are far below half the width. Assumes nothing.
use borrow.Author.Rules.{rules}
use mathlib.Core.Path.{◌∙◌}
use mir.Facts.{to_z-of_z}
use Rattle.edit.proofs.Laws.{difference, growth_fits}
use Rattle.edit.proofs.growth_of.Statement.{statement}
use Rattle.edit.proofs.growth_of.Tie as tie

sub-result-2 : tie.Need-overflow_sub-result-2
sub-result-2 c = rw (difference _ c.requires) (growth_fits _ c.requires)

pub growth_of_spec : {M : Type 1} → statement M
growth_of_spec =
    tie.close
    (tie.spec
    (λ c. search rules)
    (λ c. search rules)
    (λ c. search rules)
    sub-result-2
    (λ c. to_z-of_z (sub-result-2 c) ∙ difference _ c.requires))
