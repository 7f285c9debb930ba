-- `stream::head_word`: the first word of these fields. Assumes nothing.
use borrow.Author.Rules.{rules}
use mathlib.Core.Path.{◌≡◌}
use Prim.Native.Nat.{◌%◌}
use native.Mathlib.Nat.{mod-eq_of_lt}
use native.Mathlib.Omega.{arith}
use Rattle.stream.proofs.head_word.Statement.{statement}
use Rattle.stream.proofs.head_word.Tie as tie

returns : tie.Need-returns
returns c =
    let x = c.args in
    let group : x.group % 16 ≡ x.group = mod-eq_of_lt (omega arith) in
    let status : x.status % 16 ≡ x.status = mod-eq_of_lt (omega arith) in
    let count : x.count % 16 ≡ x.count = mod-eq_of_lt (omega arith) in
    (omega arith, omega arith)

pub head_word_spec : {M : Type 1} → statement M
head_word_spec = tie.close (tie.spec (λ c. search rules) (λ c κs. search rules) returns)
