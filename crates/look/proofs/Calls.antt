-- The library's calls that look at an edited dump, with any outcome that their promises allow. Definitions alone. Assumes nothing.
use mathlib.Core.Path.{◌≡◌}
use mathlib.Core.List.{List}
use Prim.Native.Nat.{ℕ}
use contract.Lifetimes.{Lfts}
use borrow.Fn.Kinds.{Dens}
use Rattle.refusal.specs.Answer.{gives}
use Rattle.refusal.specs.Tight.{Called}
use Rattle.message.proofs.sysex8.byte.Kinds as read-kinds
use Rattle.message.proofs.sysex8.byte.Reads as read
use Rattle.edit.proofs.Worker.{struct}
use Rattle.look.specs.Meaning.{run_meaning}
use Rattle.look.specs.Looked.{Finder, Lender, Looker, MessageLooker, Reader}
use Rattle.look.proofs.find.Kinds as find-kinds
use Rattle.look.proofs.find.Reads as find
use Rattle.look.proofs.run.Kinds as run-kinds
use Rattle.look.proofs.run.Reads as run
use Rattle.look.proofs.list.byte.Kinds as byte-kinds
use Rattle.look.proofs.list.byte.Reads as byte
use Rattle.look.proofs.list.byte_of_message.Kinds as message-kinds
use Rattle.look.proofs.list.byte_of_message.Reads as message
use Rattle.refusal.specs.Meaning.{answer_of}

-- ---- what the calls are given, the library's and the exported ones alike

abbrev pub byte_given : List ℕ → List ℕ → List ℕ → ℕ → (κs : Lfts 3) → Dens κs byte-kinds.ps → Type 0
byte_given dump numbers bytes i κs a = (a.0.now ≡ dump) × (a.1.0.now ≡ numbers) × (a.1.1.0.now ≡ bytes) × (a.1.1.1.0 ≡ i)

abbrev pub message_given : List ℕ → ℕ → List ℕ → List ℕ → ℕ → (κs : Lfts 3) → Dens κs message-kinds.ps → Type 0
message_given words len numbers bytes i κs a =
    (a.0.now ≡ words) × (a.1.0 ≡ len) × (a.1.1.0.now ≡ numbers) × (a.1.1.1.0.now ≡ bytes) × (a.1.1.1.1.0 ≡ i)

abbrev pub read_given : List ℕ → ℕ → ℕ → (κs : Lfts 1) → Dens κs read-kinds.ps → Type 0
read_given words len i κs a = (a.0.now ≡ words) × (a.1.0 ≡ len) × (a.1.1.0 ≡ i)

-- ---- the calls

-- `find` is called on this size, this edit and this position; it answers what means this
abbrev pub Finds : Finder
Finds n edit i answer =
    Called 0 find-kinds.ps find-kinds.r find.Post (λ κs a. a ≡ (n, (struct edit, (i, tt)))) (λ κs said. run_meaning said) (λ κs exit. Unit {0}) answer

-- `run` is called on these bytes, that stand there; it lends a part that stands there, with these bytes
abbrev pub Lends : Lender
Lends dump-at replacement_at dump from to replacement i at part =
    Called {A = (ℕ × ℕ) × List ℕ} 1 run-kinds.ps run-kinds.r run.Post
    (λ κs a. (a.0.ref_ptr ≡ dump-at) × (a.0.now ≡ dump) × (a.1.0 ≡ from) × (a.1.1.0 ≡ to)
    × (a.1.1.1.0.ref_ptr ≡ replacement_at) × (a.1.1.1.0.now ≡ replacement) × (a.1.1.1.1.0 ≡ i))
    (λ κs said. gives (said.ref_ptr, said.now)) (λ κs exit. Unit {0}) (gives (at, part))

-- `byte` is called on these bytes, numbers and replacement bytes and this position
abbrev pub Looks : Looker
Looks dump numbers bytes i answer =
    Called 3 byte-kinds.ps byte-kinds.r byte.Post (byte_given dump numbers bytes i) (λ κs said. answer_of said) (λ κs exit. Unit {0}) answer

-- `byte_of_message` is called on these words, this length, these numbers and bytes and this position
abbrev pub LooksIn : MessageLooker
LooksIn words len numbers bytes i answer =
    Called 3 message-kinds.ps message-kinds.r message.Post (message_given words len numbers bytes i) (λ κs said. answer_of said) (λ κs exit. Unit {0}) answer

-- `message::sysex8::byte` is called on these words, this length and this index
abbrev pub Reads : Reader
Reads words len i answer =
    Called 1 read-kinds.ps read-kinds.r read.Post (read_given words len i) (λ κs said. answer_of said) (λ κs exit. Unit {0}) answer
