-- `reclaim::keeping::keep_here`. Assumes nothing.
use borrow.Author.Rules.{rules}
use mathlib.Core.Path.{sym, ◌∙◌}
use Rattle.reclaim.proofs.Walking.{passing_past, passing_needed, passing_walk}
use Rattle.reclaim.proofs.keeping.keep_here.Statement.{statement}
use Rattle.reclaim.proofs.keeping.keep_here.Tie as tie

keep-walk-requires : tie.Need-keep_walk-requires
keep-walk-requires c κs =
    let p = c.requires in
    (p.1.0, (p.1.1.settled, (passing_needed p.1.1 p.0 (sym c.is_wanted.ensures ∙ c.if-is_wanted.true) c.number_at.ensures.0, c.number_at.ensures.1)))

returns : tie.Need-returns-then-is_wanted
returns c =
    let p = c.requires in
    passing_walk p.1.1 p.0 (sym c.is_wanted.ensures ∙ c.if-is_wanted.true) c.number_at.ensures.0 c.keep_walk.ensures

returns_2 : tie.Need-returns-else-is_wanted
returns_2 c =
    passing_past c.requires.1.1 c.requires.0 (sym c.is_wanted.ensures ∙ c.if-is_wanted.false)

pub keep_here_spec : {M : Type 1} → statement M
keep_here_spec =
    tie.close
    (tie.spec
    (λ c. search rules)
    (λ c κs. search rules)
    (λ c. search rules)
    (λ c κs. search rules)
    keep-walk-requires
    (λ c. search rules)
    returns
    returns_2)
