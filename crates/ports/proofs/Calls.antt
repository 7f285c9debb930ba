-- The library's calls on a table of open streams, with any outcome that their promises allow. Definitions alone. Assumes nothing.
use mathlib.Core.Path.{◌≡◌}
use mathlib.Core.List.{List}
use Prim.Native.Nat.{ℕ}
use contract.Lifetimes.{Lfts}
use borrow.Fn.Kinds.{Dens}
use Rattle.refusal.specs.Answer.{pass}
use Rattle.refusal.specs.Tight.{Called}
use Rattle.ports.specs.Meaning.{received_meaning}
use Rattle.ports.specs.History.{Receiver, Clearer}
use Rattle.ports.proofs.clear.Kinds as clear-kinds
use Rattle.ports.proofs.clear.Reads as clear
use Rattle.ports.proofs.receive.Kinds as receive-kinds
use Rattle.ports.proofs.receive.Reads as receive

-- what the calls are given, the library's and the exported ones alike
abbrev pub clear_given : List ℕ → (κs : Lfts 1) → Dens κs clear-kinds.ps → Type 0
clear_given table κs a = a.0.now ≡ table

abbrev pub receive_given : List ℕ → List ℕ → ℕ → List ℕ → List ℕ → (κs : Lfts 4) → Dens κs receive-kinds.ps → Type 0
receive_given table words port packet output κs a =
    (a.0.now ≡ table) × (a.1.0.now ≡ words) × (a.1.1.0 ≡ port) × (a.1.1.1.0.now ≡ packet) × (a.1.1.1.1.0.now ≡ output)

-- `clear` is called on this table, and leaves this one
abbrev pub Clears : Clearer
Clears table after =
    Called 1 clear-kinds.ps clear-kinds.r clear.Post (clear_given table) (λ κs said. pass) (λ κs exit. exit.0.now ≡ after) pass

-- `receive` is called on these; it answers what means this, and leaves these
abbrev pub Receives : Receiver
Receives table words port packet output (answer, lent) =
    Called 4 receive-kinds.ps receive-kinds.r receive.Post (receive_given table words port packet output) (λ κs said. received_meaning said)
    (λ κs exit. (exit.0.now, exit.1.0.now, exit.1.1.1.1.0.now) ≡ lent) answer
