-- `flush` meets its contract. Assumes nothing.
use mathlib.Core.Path.{refl}
use native.Mathlib.Omega.{arith}
use borrow.Author.Rules.{rules}
use Rattle.merge.proofs.pending.flush.Statement.{statement}
use Rattle.merge.proofs.pending.flush.Tie as tie

returns : tie.Need-returns-then-packet-packets
returns c = record { some = λ l. c.store.ensures; none = λ l. absurd (omega arith) }

pub flush_spec : {M : Type 1} → statement M
flush_spec = tie.close (tie.spec (λ c κs. search rules) (λ c. search rules) returns (λ c. record { some = λ l. absurd (omega arith); none = λ l. refl }))
