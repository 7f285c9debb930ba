-- The library's call, with any outcome that its promise allows. Definitions alone. Assumes nothing.
use mathlib.Core.Path.{◌≡◌}
use mathlib.Core.List.{List, [], ◌∷◌}
use Prim.Native.Nat.{ℕ}
use contract.Lifetimes.{Lfts}
use borrow.Fn.Kinds.{Dens}
use Rattle.refusal.specs.Tight.{Called}
use Rattle.carries.specs.Senders.{Carrier}
use Rattle.carries.proofs.carries.Kinds as kinds
use Rattle.carries.proofs.carries.Reads as promise
use Rattle.refusal.specs.Meaning.{answer_of}

-- what the call is given, the library's and the exported one alike: these words, this length, this payload, group and stream id
abbrev pub ask_given : List ℕ → ℕ → List ℕ → ℕ → List ℕ → (κs : Lfts 2) → Dens κs kinds.ps → Type 0
ask_given words len bytes group id κs a =
    (a.0.now ≡ words) × (a.1.0 ≡ len) × (a.1.1.0.now ≡ bytes) × (a.1.1.1.0 ≡ group) × (a.1.1.1.1.0 ∷ [] ≡ id)

-- `carries` is called on these; it answers what means this
abbrev pub Asks : Carrier
Asks words len bytes group id answer =
    Called 2 kinds.ps kinds.r promise.Post (ask_given words len bytes group id) (λ κs said. answer_of said) (λ κs exit. Unit {0}) answer
