-- `store::numbers::enter_here`. Assumes nothing.
use borrow.Author.Rules.{rules}
use mathlib.Core.Path.{sym, ◌∙◌}
use Rattle.store.proofs.Entering.{entering_past, entering_dump, entering_again, enters_on, enters_again}
use Rattle.store.proofs.numbers.enter_here.Statement.{statement}
use Rattle.store.proofs.numbers.enter_here.Tie as tie

returns : tie.Need-returns-then-not-is_dump
returns c =
    enters_on (entering_past c.requires.1 c.requires.0 (sym c.is_dump.ensures ∙ c.if-not-is_dump.true))

returns_2 : tie.Need-returns-then-is_flagged
returns_2 c =
    enters_again
    (entering_again c.requires.1 c.requires.0 (sym c.is_dump.ensures ∙ c.if-not-is_dump.false) c.number_at-number.ensures.0 c.number_at-number.ensures.1
    (sym c.is_flagged.ensures ∙ c.if-is_flagged.true))

returns-3 : tie.Need-returns
returns-3 c =
    enters_on
    (rw c.put.ensures
    (entering_dump c.requires.1 c.requires.0 (sym c.is_dump.ensures ∙ c.if-not-is_dump.false) c.number_at-number.ensures.0 c.number_at-number.ensures.1
    (sym c.is_flagged.ensures ∙ c.if-is_flagged.false) c.flag.auto.table c.flag.ensures))

pub enter_here_spec : {M : Type 1} → statement M
enter_here_spec =
    tie.close
    (tie.spec
    (λ c. search rules)
    (λ c κs. search rules)
    returns
    (λ c. search rules)
    (λ c κs. search rules)
    (λ c κs. search rules)
    (λ c. search rules)
    returns_2
    (λ c κs. search rules)
    (λ c κs. search rules)
    (λ c. search rules)
    (λ c. search rules)
    (λ c. search rules)
    returns-3)
