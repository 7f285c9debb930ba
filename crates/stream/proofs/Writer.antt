-- The library's call that writes a byte stream, with any outcome that its promise allows. Definitions alone. Assumes nothing.
use mathlib.Core.Path.{◌≡◌}
use mathlib.Core.List.{List}
use Prim.Native.Nat.{ℕ}
use contract.Lifetimes.{Lfts}
use borrow.Fn.Kinds.{Dens}
use Rattle.refusal.specs.Tight.{Called}
use Rattle.ump.specs.RealTime.{Writer}
use Rattle.stream.proofs.to_sysex7.Kinds as kinds
use Rattle.stream.proofs.to_sysex7.Reads as stream
use Rattle.refusal.specs.Meaning.{answer_of}

-- what the call is given, the library's and the exported one alike
abbrev pub stream_given : List ℕ → ℕ → List ℕ → (κs : Lfts 2) → Dens κs kinds.ps → Type 0
stream_given bytes group words κs a = (a.0.now ≡ bytes) × (a.1.0 ≡ group) × (a.1.1.0.now ≡ words)

-- `to_sysex7` is called on these bytes, this group and these words; it answers what means this, and leaves these words
abbrev pub Writes : Writer
Writes bytes group words answer left =
    Called 2 kinds.ps kinds.r stream.Post (stream_given bytes group words)
    (λ κs said. answer_of said) (λ κs exit. exit.1.1.0.now ≡ left) answer
