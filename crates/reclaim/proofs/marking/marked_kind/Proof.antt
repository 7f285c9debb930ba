-- `reclaim::marking::marked_kind`. Assumes nothing.
use borrow.Author.Rules.{rules}
use mathlib.Core.Path.{sym, ◌∙◌}
use native.Mathlib.Omega.{arith}
use Rattle.store.proofs.Dumps.{dump_small}
use Rattle.reclaim.proofs.Numbers.{wanted_dump}
use Rattle.reclaim.proofs.Placing.{kind_wanted, kind_other}
use Rattle.reclaim.proofs.marking.marked_kind.Statement.{statement}
use Rattle.reclaim.proofs.marking.marked_kind.Tie as tie

add-result : tie.Need-overflow_add-result
add-result c =
    let k = c.args.kind in
    omega (arith, dump_small k (wanted_dump k (sym c.is_wanted.ensures ∙ c.if-is_wanted.true)))

returns : tie.Need-returns-then-is_wanted
returns c = kind_wanted _ (sym c.is_wanted.ensures ∙ c.if-is_wanted.true)

returns_2 : tie.Need-returns
returns_2 c = kind_other _ (sym c.is_wanted.ensures ∙ c.if-is_wanted.false)

pub marked_kind_spec : {M : Type 1} → statement M
marked_kind_spec = tie.close (tie.spec (λ c κs. search rules) add-result returns returns_2)
