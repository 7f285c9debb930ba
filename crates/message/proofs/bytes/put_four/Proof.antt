-- `message::bytes::put_four`: one store for each octet. Assumes nothing.
use borrow.Author.Rules.{rules}
use native.Mathlib.Omega.{arith}
use lib.ListN.{length-set}
use Rattle.message.proofs.bytes.put_four.Statement.{statement}
use Rattle.message.proofs.bytes.put_four.Tie as tie

pub put_four_spec : {M : Type 1} → statement M
put_four_spec =
    tie.close
    (tie.spec
    (λ c κs. search rules)
    (λ c. search rules)
    (λ c κs. search rules)
    (λ c. search rules)
    (λ c. simp length-set (omega arith))
    (λ c κs. search rules)
    (λ c. search rules)
    (λ c. simp length-set (omega arith))
    (λ c κs. search rules)
    (λ c. search rules)
    (λ c. simp length-set (omega arith))
    (λ c. search rules)
    (λ c. rw (c.octet_of.ensures, c.octet_of-2.ensures, c.octet_of-3.ensures, c.octet_of-4.ensures)))
