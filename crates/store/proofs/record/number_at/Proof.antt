-- `store::record::number_at`. Assumes nothing.
use borrow.Author.Rules.{rules}
use Prim.Native.Nat.{◌+◌}
use native.Mathlib.Omega.{arith}
use lib.ListN.{get_or-eq_default}
use Rattle.store.proofs.record.number_at.Statement.{statement}
use Rattle.store.proofs.record.number_at.Tie as tie

returns_2 : tie.Need-returns
returns_2 c =
    let x = c.args in
    let high = get_or-eq_default x.store.now 0 c.if-at-store.false in
    let low = get_or-eq_default x.store.now 0 {n = x.at + 1} (omega (arith, c.if-at-store.false)) in
    (omega (arith, high, low), omega arith)

pub number_at_spec : {M : Type 1} → statement M
number_at_spec =
    tie.close
    (tie.spec
    (λ c κs. search rules)
    (λ c. search rules)
    (λ c. search rules)
    (λ c. search rules)
    (λ c κs. search rules)
    (λ c. search rules)
    (λ c. search rules)
    (λ c. search rules)
    returns_2)
