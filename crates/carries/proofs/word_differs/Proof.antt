-- `carries::word_differs`: the word of four bytes has their octets. Assumes nothing.
use borrow.Author.Rules.{rules}
use native.Mathlib.Omega.{arith}
use Rattle.ump.proofs.Words.{below_at}
use Rattle.carries.proofs.Likeness.{word-unlike}
use Rattle.carries.proofs.word_differs.Statement.{statement}
use Rattle.carries.proofs.word_differs.Tie as tie

returns : tie.Need-returns
returns c =
    word-unlike c.args.word (omega (arith, c.ranges.word)) c.args.payload.now
    (below_at 256 c.args.payload.now (λ k l. omega (arith, c.shared_slice_known-1.given k)))
    c.args.at c.requires c.word_of-four.ensures

pub word_differs_spec : {M : Type 1} → statement M
word_differs_spec =
    tie.close
    (tie.spec
    (λ c. search rules)
    (λ c. search rules)
    (λ c. search rules)
    (λ c. search rules)
    (λ c. search rules)
    (λ c. search rules)
    (λ c. search rules)
    (λ c κs. search rules)
    returns)
