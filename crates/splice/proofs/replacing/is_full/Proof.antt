-- `is_full` meets its contract: the size is reached only if no packet but the last carries less than it can. Assumes nothing.
use mathlib.Core.Path.{◌≡◌, ap}
use Prim.Native.Nat.{ℕ, ◌-◌, ◌*◌, ◌/◌, ◌≤◌}
use native.Mathlib.Omega.{arith}
use borrow.Author.Rules.{rules}
use borrow.Author.Tests.{eqb-true}
use Rattle.splice.proofs.Messages.{inside, counts}
use Rattle.splice.proofs.Levels.{full_is}
use Rattle.splice.proofs.replacing.is_full.Statement.{statement}
use Rattle.splice.proofs.replacing.is_full.Tie as tie

some : (c : tie.After-count_of) → (1 ≤ c.count_of.result) × (c.count_of.result ≤ 14)
some c =
    let at : c.args.length - 4 ≡ 4 * (c.args.length / 4 - 1) = omega (arith, inside c.requires) in
    omega (arith, rw at at c.count_of.ensures, counts c.requires (c.args.length / 4 - 1) (omega (arith, inside c.requires)))

returns : tie.Need-returns
returns c e = full_is c.requires (c.count_of.result - 1) (ap (λ (n : ℕ). n - 1) c.count_of.ensures) (eqb-true _ _ e)

pub is_full_spec : {M : Type 1} → statement M
is_full_spec =
    tie.close
    (tie.spec
    (λ c. omega (arith, inside c.requires))
    (λ c. omega (arith, inside c.requires))
    (λ c. omega (arith, inside c.requires))
    (λ c κs. search rules)
    (λ c. search rules)
    (λ c. (some c).0)
    (λ c. omega (arith, inside c.requires))
    (λ c. omega (arith, inside c.requires))
    (λ c. omega (arith, inside c.requires, some c))
    returns)
