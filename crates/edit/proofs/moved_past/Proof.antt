-- `edit::moved_past`: the place is behind the edit, so its growth does not take it below zero. Assumes nothing.
use borrow.Author.Rules.{rules}
use mathlib.Core.Path.{ap}
use native.Mathlib.Omega.{arith}
use lib.IntN.{nat_abs}
use Rattle.edit.proofs.Laws.{moved_small, sum_fits, sum_back}
use Rattle.edit.proofs.moved_past.Statement.{statement}
use Rattle.edit.proofs.moved_past.Tie as tie

add-result : tie.Need-overflow_add-result
add-result c =
    let p = c.requires in
    sum_fits _ p.0 _ c.growth_of.ensures p.1 p.2

cast-result-2 : tie.Need-overflow_cast-result-2
cast-result-2 c =
    let p = c.requires in
    rw (sum_back _ p.0 _ c.growth_of.ensures p.1 p.2) (tt, omega (arith, moved_small _ p.0 _ p.1 p.2))

returns : tie.Need-returns
returns c =
    let p = c.requires in
    ap nat_abs (sum_back _ p.0 _ c.growth_of.ensures p.1 p.2)

pub moved_past_spec : {M : Type 1} → statement M
moved_past_spec = tie.close (tie.spec (λ c. search rules) (λ c κs. search rules) add-result cast-result-2 returns)
