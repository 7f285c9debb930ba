-- `stream::two_at`: two octets of a word. Assumes nothing.
use borrow.Author.Rules.{rules}
use Prim.Native.Nat.{◌+◌}
use native.Mathlib.Omega.{arith}
use Rattle.stream.proofs.two_at.Statement.{statement}
use Rattle.stream.proofs.two_at.Tie as tie

returns : tie.Need-returns
returns c =
    let at = c.args.at in
    (omega (arith, c.word_of.ensures), omega (arith, c.word_of.ensures, c.shared_slice_known-1.given at, c.shared_slice_known-1.given (at + 1)))

pub two_at_spec : {M : Type 1} → statement M
two_at_spec = tie.close (tie.spec (λ c. search rules) (λ c. search rules) (λ c. search rules) (λ c κs. search rules) returns)
