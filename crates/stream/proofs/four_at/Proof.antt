-- `stream::four_at`: four octets of a word. Assumes nothing.
use borrow.Author.Rules.{rules}
use mathlib.Core.Path.{◌≡◌, ap}
use Prim.Native.Nat.{ℕ, ◌+◌}
use native.Mathlib.Omega.{arith}
use lib.ListN.{get_or}
use Rattle.stream.proofs.four_at.Statement.{statement}
use Rattle.stream.proofs.four_at.Tie as tie

returns : tie.Need-returns
returns c =
    let x = c.args in
    let e : x.at + 2 + 1 ≡ x.at + 3 = omega arith in
    omega (arith, c.word_of.ensures, ap (λ (k : ℕ). get_or x.inner.now k 0) e)

pub four_at_spec : {M : Type 1} → statement M
four_at_spec =
    tie.close
    (tie.spec
    (λ c. search rules)
    (λ c. search rules)
    (λ c. search rules)
    (λ c. search rules)
    (λ c. search rules)
    (λ c. search rules)
    (λ c. search rules)
    (λ c κs. search rules)
    returns)
