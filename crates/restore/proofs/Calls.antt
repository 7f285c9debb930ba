-- The library's calls that restore and describe a dump, with any outcome that their promises allow. Definitions alone. Assumes nothing.
use mathlib.Core.Path.{◌≡◌}
use mathlib.Core.List.{List}
use Prim.Native.Nat.{ℕ}
use contract.Lifetimes.{Lfts}
use borrow.Fn.Kinds.{Dens}
use Rattle.refusal.specs.Tight.{Called}
use Rattle.chain.specs.Meaning.{described_meaning}
use Rattle.chain.specs.Chained.{Restorer, Describer}
use Rattle.chain.proofs.describe.Kinds as describe-kinds
use Rattle.chain.proofs.describe.Reads as describe
use Rattle.restore.proofs.restore.Kinds as restore-kinds
use Rattle.restore.proofs.restore.Reads as restore
use Rattle.refusal.specs.Meaning.{answer_of}

-- what the calls are given, the library's and the exported ones alike
abbrev pub restore_given : List ℕ → ℕ → List ℕ → (κs : Lfts 2) → Dens κs restore-kinds.ps → Type 0
restore_given store n words κs a = (a.0.now ≡ store) × (a.1.0 ≡ n) × (a.1.1.0.now ≡ words)

abbrev pub describe_given : List ℕ → ℕ → (κs : Lfts 1) → Dens κs describe-kinds.ps → Type 0
describe_given store n κs a = (a.0.now ≡ store) × (a.1.0 ≡ n)

-- `restore` is called on this store, this number and these words; it answers what means this, and leaves these words
abbrev pub Restores : Restorer
Restores store n words answer left =
    Called 2 restore-kinds.ps restore-kinds.r restore.Post (restore_given store n words)
    (λ κs said. answer_of said) (λ κs exit. exit.1.1.0.now ≡ left) answer

-- `describe` is called on this store and this number; it answers what means this
abbrev pub Describes : Describer
Describes store n answer =
    Called 1 describe-kinds.ps describe-kinds.r describe.Post (describe_given store n)
    (λ κs said. described_meaning said) (λ κs exit. Unit {0}) answer
