-- `begin_of` meets its contract. Assumes nothing.
use borrow.Author.Rules.{rules}
use borrow.Author.Tests.{lt-ltb, le-ltb}
use Rattle.merge.specs.Pass.{begin_of}
use Rattle.merge.proofs.merging.begin_of.Statement.{statement}
use Rattle.merge.proofs.merging.begin_of.Tie as tie

returns : tie.Need-returns-then-numbers-lt3
unfolding begin_of
returns c = rw (lt-ltb _ _ c.if-numbers-lt3.true)

returns_2 : tie.Need-returns
unfolding begin_of
returns_2 c = rw (le-ltb _ _ c.if-numbers-lt3.false)

pub begin_of_spec : {M : Type 1} → statement M
begin_of_spec = tie.close (tie.spec returns (λ c. search rules) returns_2)
