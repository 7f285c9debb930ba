-- `level` meets its contract. Assumes nothing.
use mathlib.Core.Path.{◌∙◌}
use borrow.Author.Rules.{rules}
use Rattle.splice.proofs.header.level.Statement.{statement}
use Rattle.splice.proofs.header.level.Tie as tie

pub level_spec : {M : Type 1} → statement M
level_spec =
    tie.close
    (tie.spec
    (λ c κs. search rules)
    (λ c. search rules)
    (λ c κs. search rules)
    (λ c. search rules)
    (λ c. c.put_head-2.ensures ∙ rw c.put_head.ensures))
