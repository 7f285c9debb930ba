-- `reclaim::moving::collect_noted`. Assumes nothing.
use borrow.Author.Rules.{rules}
use mathlib.Core.Path.{refl}
use Rattle.reclaim.proofs.Moves.{reclaimed_is}
use Rattle.reclaim.proofs.moving.collect_noted.Statement.{statement}
use Rattle.reclaim.proofs.moving.collect_noted.Tie as tie

keep-requires : tie.Need-keep-requires
keep-requires c κs = (c.requires, refl)

returns : tie.Need-returns
returns c =
    reclaimed_is c.args.store.now c.compact-length.result c.compact-length.new.store c.clear_from.new.store c.compact-length.ensures.0 c.compact-length.ensures.1 c.compact-length.auto.store c.clear_from.ensures

pub collect_noted_spec : {M : Type 1} → statement M
collect_noted_spec =
    tie.close
    (tie.spec
    (λ c. search rules)
    keep-requires
    (λ c. search rules)
    (λ c κs. search rules)
    (λ c κs. search rules)
    (λ c. search rules)
    returns)
