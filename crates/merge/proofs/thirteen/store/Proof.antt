-- `store` meets its contract. Assumes nothing.
use native.Mathlib.Omega.{arith}
use lib.ListN.{length-set}
use borrow.Author.Rules.{rules}
use Rattle.merge.proofs.Stores.{put_stored}
use Rattle.merge.proofs.thirteen.store.Statement.{statement}
use Rattle.merge.proofs.thirteen.store.Tie as tie

slice-write-words-2 : tie.Need-bounds-words-at-2
slice-write-words-2 c = simp length-set (omega arith)

slice-write-words-3 : tie.Need-bounds-words-at-3
slice-write-words-3 c = simp length-set (omega arith)

slice-write-words-4 : tie.Need-bounds-words-at-4
slice-write-words-4 c = simp length-set (omega arith)

returns : tie.Need-returns
returns c =
    let x = c.args in
    put_stored x.words.now x.packet x.head x.high x.low (omega arith) (omega arith)

pub store_spec : {M : Type 1} → statement M
store_spec =
    tie.close
    (tie.spec
    (λ c. search rules)
    (λ c. search rules)
    (λ c. search rules)
    (λ c. search rules)
    (λ c. search rules)
    (λ c. search rules)
    (λ c. search rules)
    (λ c. search rules)
    slice-write-words-2
    (λ c. search rules)
    (λ c. search rules)
    (λ c. search rules)
    slice-write-words-3
    (λ c. search rules)
    (λ c. search rules)
    (λ c. search rules)
    slice-write-words-4
    (λ c. search rules)
    returns)
