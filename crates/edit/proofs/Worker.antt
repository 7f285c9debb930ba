-- The library's calls that edit a message, with any outcome that their promises allow. Definitions alone. Assumes nothing.
use mathlib.Core.Path.{◌≡◌}
use mathlib.Core.Bool.{Bool}
use mathlib.Core.List.{List}
use Prim.Native.Nat.{ℕ}
use contract.Lifetimes.{Lfts}
use borrow.Fn.Kinds.{Dens}
use Rattle.refusal.specs.Answer.{Answer, map_answer}
use Rattle.refusal.specs.Tight.{Called}
use Rattle.ump.specs.Splice as ump
use Rattle.ump.specs.Edits.{Edit}
use Rattle.ump.specs.Origin.{Origin}
use Rattle.ump.specs.Worker.{with_range}
use Rattle.ump.specs.Demand.{Family}
use Rattle.splice.specs.Meaning.{spliced_meaning}
use Rattle.splice.proofs.sysex8.repack.Kinds as repack-kinds
use Rattle.splice.proofs.sysex8.repack.Reads as repack
use Rattle.splice.proofs.sysex8.splice.Kinds as splice-kinds
use Rattle.splice.proofs.sysex8.splice.Reads as splice
use Rattle.edit.specs.Meaning.{moved_meaning, origin_meaning}
use Rattle.edit.specs.declared.Edit as declared
use Rattle.edit.proofs.move_edit.Kinds as move-kinds
use Rattle.edit.proofs.move_edit.Reads as move
use Rattle.edit.proofs.all.splice_all.Kinds as all_kinds
use Rattle.edit.proofs.all.splice_all.Reads as all
use Rattle.edit.proofs.origins.origin.Kinds as origin-kinds
use Rattle.edit.proofs.origins.origin.Reads as origin
use Rattle.refusal.specs.Meaning.{answer_of}

-- ---- what the calls are given, the library's and the exported ones alike

abbrev pub splice_given : List ℕ → ℕ → Edit → List ℕ → (κs : Lfts 2) → Dens κs splice-kinds.ps → Type 0
splice_given words len edit bytes κs a =
    (a.0.now ≡ words) × (a.1.0 ≡ len) × (a.1.1.0 ≡ edit.from) × (a.1.1.1.0 ≡ edit.to) × (a.1.1.1.1.0.now ≡ bytes)

abbrev pub repack_given : List ℕ → ℕ → (κs : Lfts 1) → Dens κs repack-kinds.ps → Type 0
repack_given words len κs a = (a.0.now ≡ words) × (a.1.0 ≡ len)

abbrev pub list_given : List ℕ → ℕ → List ℕ → List ℕ → (κs : Lfts 3) → Dens κs all_kinds.ps → Type 0
list_given words len numbers bytes κs a = (a.0.now ≡ words) × (a.1.0 ≡ len) × (a.1.1.0.now ≡ numbers) × (a.1.1.1.0.now ≡ bytes)

abbrev pub ask_given : List ℕ → ℕ → List ℕ → List ℕ → ℕ → (κs : Lfts 3) → Dens κs origin-kinds.ps → Type 0
ask_given words len numbers bytes q κs a =
    (a.0.now ≡ words) × (a.1.0 ≡ len) × (a.1.1.0.now ≡ numbers) × (a.1.1.1.0.now ≡ bytes) × (a.1.1.1.1.0 ≡ q)

-- ---- the calls

-- `splice` is called on these words, this length, this edit's range and these bytes; it answers what means this, and leaves these words
abbrev pub Splices : List ℕ → ℕ → Edit → List ℕ → Answer ump.Spliced → List ℕ → Type 0
Splices words len edit bytes answer left =
    Called 2 splice-kinds.ps splice-kinds.r splice.Post (splice_given words len edit bytes)
    (λ κs said. spliced_meaning said) (λ κs exit. exit.0.now ≡ left) answer

-- the struct of an edit
abbrev pub struct : Edit → declared.Edit
struct edit = record { from = edit.from; to = edit.to; length = edit.length }

-- `move_edit` is called on a done edit, a pending one and which of them is first; it answers what means this range of the pending one
abbrev pub Moves : Edit → Edit → Bool → Answer Edit → Type 0
Moves done pending done_first answer =
    Called 0 move-kinds.ps move-kinds.r move.Post (λ κs a. a ≡ (struct done, (struct pending, (done_first, tt))))
    (λ κs said. map_answer (with_range pending) (moved_meaning said)) (λ κs exit. Unit {0}) answer

-- `repack` is called on these words and this length
abbrev pub Repacks : List ℕ → ℕ → Answer ℕ → List ℕ → Type 0
Repacks words len answer left =
    Called 1 repack-kinds.ps repack-kinds.r repack.Post (repack_given words len)
    (λ κs said. answer_of said) (λ κs exit. exit.0.now ≡ left) answer

-- `splice_all` is called on these words, this length, these numbers and bytes
abbrev pub SplicesAll : List ℕ → ℕ → List ℕ → List ℕ → Answer ump.Spliced → List ℕ → Type 0
SplicesAll words len numbers bytes answer left =
    Called 3 all_kinds.ps all_kinds.r all.Post (list_given words len numbers bytes)
    (λ κs said. spliced_meaning said) (λ κs exit. exit.0.now ≡ left) answer

-- `origin` is called on these words, this length, these numbers and bytes and an octet's index
abbrev pub Asks : List ℕ → ℕ → List ℕ → List ℕ → ℕ → Answer Origin → Type 0
Asks words len numbers bytes q answer =
    Called 3 origin-kinds.ps origin-kinds.r origin.Post (ask_given words len numbers bytes q)
    (λ κs said. origin_meaning said) (λ κs exit. Unit {0}) answer

abbrev pub family : Family
family = record { calls = record { Splices = Splices; Moves = Moves }; Repacks = Repacks; SplicesAll = SplicesAll; Asks = Asks }
