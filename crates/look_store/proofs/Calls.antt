-- The library's call that looks for a byte of a dump, with any outcome that its promise allows. Definitions alone. Assumes nothing.
use mathlib.Core.Path.{◌≡◌}
use mathlib.Core.List.{List}
use Prim.Native.Nat.{ℕ}
use contract.Lifetimes.{Lfts}
use borrow.Fn.Kinds.{Dens}
use Rattle.refusal.specs.Tight.{Called}
use Rattle.look_store.specs.Looked.{DumpLooker}
use Rattle.look_store.proofs.byte.Kinds as byte-kinds
use Rattle.look_store.proofs.byte.Reads as byte
use Rattle.refusal.specs.Meaning.{answer_of}

-- what the call is given, the library's and the exported one alike
abbrev pub dump_given : List ℕ → ℕ → ℕ → (κs : Lfts 1) → Dens κs byte-kinds.ps → Type 0
dump_given store n i κs a = (a.0.now ≡ store) × (a.1.0 ≡ n) × (a.1.1.0 ≡ i)

-- `byte` is called on this store, this number and this position; it answers what means this
abbrev pub LooksAt : DumpLooker
LooksAt store n i answer =
    Called 1 byte-kinds.ps byte-kinds.r byte.Post (dump_given store n i)
    (λ κs said. answer_of said) (λ κs exit. Unit {0}) answer
