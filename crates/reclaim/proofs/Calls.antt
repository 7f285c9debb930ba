-- The library's calls that check, mark and collect a store, with any outcome that their promises allow. Definitions alone. Assumes nothing.
use mathlib.Core.Path.{◌≡◌}
use mathlib.Core.List.{List}
use Prim.Native.Nat.{ℕ}
use contract.Lifetimes.{Lfts}
use borrow.Fn.Kinds.{Dens}
use Rattle.refusal.specs.Tight.{Called}
use Rattle.store.proofs.check.Kinds as check-kinds
use Rattle.store.proofs.check.Reads as check
use Rattle.reclaim.specs.Reclaimed.{Checker, Marker, Collector}
use Rattle.reclaim.proofs.mark.Kinds as mark-kinds
use Rattle.reclaim.proofs.mark.Reads as mark
use Rattle.reclaim.proofs.collect.Kinds as collect-kinds
use Rattle.reclaim.proofs.collect.Reads as collect
use Rattle.refusal.specs.Meaning.{answer_of}

-- what the calls are given, the library's and the exported ones alike
abbrev pub check_given : List ℕ → (κs : Lfts 1) → Dens κs check-kinds.ps → Type 0
check_given store κs a = a.0.now ≡ store

abbrev pub mark_given : List ℕ → ℕ → (κs : Lfts 1) → Dens κs mark-kinds.ps → Type 0
mark_given store n κs a = (a.0.now ≡ store) × (a.1.0 ≡ n)

abbrev pub collect_given : List ℕ → (κs : Lfts 1) → Dens κs collect-kinds.ps → Type 0
collect_given store κs a = a.0.now ≡ store

-- `check` is called on this store; it answers what means this
abbrev pub Checks : Checker
Checks store answer =
    Called 1 check-kinds.ps check-kinds.r check.Post (check_given store)
    (λ κs said. answer_of said) (λ κs exit. Unit {0}) answer

-- `mark` is called on this store and this number; it answers what means this, and leaves this store
abbrev pub Marks : Marker
Marks store n verdict left =
    Called 1 mark-kinds.ps mark-kinds.r mark.Post (mark_given store n)
    (λ κs said. answer_of said) (λ κs exit. exit.0.now ≡ left) verdict

-- `collect` is called on this store; it answers what means this, and leaves this store
abbrev pub Collects : Collector
Collects store answer left =
    Called 1 collect-kinds.ps collect-kinds.r collect.Post (collect_given store)
    (λ κs said. answer_of said) (λ κs exit. exit.0.now ≡ left) answer
