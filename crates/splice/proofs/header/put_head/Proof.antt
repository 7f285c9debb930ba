-- `put_head` meets its contract. Assumes nothing.
use mathlib.Core.Path.{◌≡◌}
use Prim.Native.Nat.{◌%◌}
use native.Mathlib.Omega.{arith}
use lib.ListN.{get_or}
use borrow.Author.Rules.{rules}
use Rattle.splice.proofs.header.put_head.Statement.{statement}
use Rattle.splice.proofs.header.put_head.Tie as tie

returns : tie.Need-returns
returns c =
    let x = c.args in
    let byte : c.octet_of.result ≡ get_or x.words.now x.index 0 % 256 = omega (arith, c.octet_of.ensures) in
    rw byte

pub put_head_spec : {M : Type 1} → statement M
put_head_spec =
    tie.close
    (tie.spec
    (λ c. search rules)
    (λ c. search rules)
    (λ c κs. search rules)
    (λ c. search rules)
    (λ c. search rules)
    (λ c. search rules)
    (λ c. search rules)
    (λ c. search rules)
    returns)
