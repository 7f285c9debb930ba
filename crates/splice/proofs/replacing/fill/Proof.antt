-- `fill` meets its contract, with and without packing. Assumes nothing.
use borrow.Author.Rules.{rules}
use Rattle.splice.proofs.Fewest.{filled_already, filled_packed}
use Rattle.splice.proofs.replacing.fill.Statement.{statement}
use Rattle.splice.proofs.replacing.fill.Tie as tie

returns : tie.Need-returns-then-is_full
returns c =
    filled_already c.requires (c.is_full.ensures c.if-is_full.true)

returns_2 : tie.Need-returns
returns_2 c =
    let pack = c.pack in
    filled_packed c.requires pack.ensures.0 pack.ensures.1

pub fill_spec : {M : Type 1} → statement M
fill_spec = tie.close (tie.spec (λ c κs. search rules) (λ c. search rules) returns (λ c κs. search rules) (λ c. search rules) returns_2)
