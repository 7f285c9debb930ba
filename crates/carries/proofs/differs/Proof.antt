-- `carries::differs`: both ways answer the same. Assumes nothing.
use borrow.Author.Rules.{rules}
use mathlib.Core.Path.{ap, ◌∙◌}
use Prim.Native.Nat.{ℕ}
use native.Mathlib.Nat.{add-zero}
use native.Mathlib.Omega.{arith}
use lib.ListN.{drop}
use Rattle.ump.specs.Packet.{sysex8, count_at, payload_at}
use Rattle.ump.proofs.Sizes.{size_small}
use Rattle.carries.specs.Carries.{unlike}
use Rattle.carries.proofs.differs.Statement.{statement}
use Rattle.carries.proofs.differs.Tie as tie

returns_2 : tie.Need-returns
returns_2 c =
    let a = c.args in
    c.bytes_differ.ensures ∙ ap (λ (k : ℕ). unlike (payload_at sysex8 a.words.now a.packet) (drop k a.payload.now)) (add-zero a.at)

pub differs_spec : {M : Type 1} → statement M
differs_spec =
    tie.close
    (tie.spec
    (λ c. omega (arith, c.requires.not_far, c.requires.size_is, size_small sysex8 (count_at sysex8 c.args.words.now c.args.packet)))
    (λ c κs. search rules)
    (λ c. search rules)
    (λ c κs. search rules)
    returns_2)
