-- `reclaim::moving::is_staying`. Assumes nothing.
use borrow.Author.Rules.{rules}
use mathlib.Core.Path.{sym, ◌∙◌}
use Rattle.reclaim.proofs.moving.is_staying.Statement.{statement}
use Rattle.reclaim.proofs.moving.is_staying.Tie as tie

returns : tie.Need-returns-then-not-is_dump
returns c = rw (sym c.is_dump.ensures ∙ c.if-not-is_dump.true)

returns_2 : tie.Need-returns
returns_2 c =
    rw (sym c.is_dump.ensures ∙ c.if-not-is_dump.false, ← c.number_at.ensures.0) c.is_flagged.ensures

pub is_staying_spec : {M : Type 1} → statement M
is_staying_spec =
    tie.close
    (tie.spec (λ c. search rules) (λ c κs. search rules) returns (λ c. search rules) (λ c κs. search rules) (λ c κs. search rules) returns_2)
