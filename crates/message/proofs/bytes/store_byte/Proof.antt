-- `message::bytes::store_byte_lem`: one store. Assumes nothing.
use borrow.Author.Rules.{rules}
use Rattle.ump.specs.Setters.{store_byte}
use Rattle.message.proofs.bytes.store_byte.Statement.{statement}
use Rattle.message.proofs.bytes.store_byte.Tie as tie

returns : tie.Need-returns
unfolding store_byte
returns c = rw c.with_octet.ensures

pub store_byte_spec : {M : Type 1} → statement M
store_byte_spec =
    tie.close
    (tie.spec
    (λ c. search rules)
    (λ c. search rules)
    (λ c. search rules)
    (λ c. search rules)
    (λ c. search rules)
    (λ c κs. search rules)
    (λ c. search rules)
    (λ c. search rules)
    (λ c. search rules)
    returns)
