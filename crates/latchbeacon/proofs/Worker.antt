-- The exported calls that edit a message, with any outcome that their promises allow, their structs read as a caller reads them.
-- Definitions alone. Assumes nothing.
use mathlib.Core.Path.{◌≡◌}
use mathlib.Core.Bool.{Bool}
use mathlib.Core.List.{List}
use Prim.Native.Nat.{ℕ}
use Rattle.refusal.specs.Answer.{Answer, map_answer}
use Rattle.refusal.specs.Tight.{Called}
use Rattle.ump.specs.Splice.{Spliced}
use Rattle.ump.specs.Edits.{Edit}
use Rattle.ump.specs.Origin.{Origin}
use Rattle.ump.specs.Worker.{with_range}
use Rattle.ump.specs.Demand.{Family}
use Rattle.edit.proofs.Worker.{splice_given, repack_given, list_given, ask_given}
use Rattle.answers.specs.Read.{number_read, change_read, range_read, origin_read}
use Rattle.latchbeacon.proofs.splices.latchbeacon_sysex8_repack.Kinds as repack-kinds
use Rattle.latchbeacon.proofs.splices.latchbeacon_sysex8_repack.Reads as exported-repack
use Rattle.latchbeacon.proofs.splices.latchbeacon_sysex8_splice.Kinds as splice-kinds
use Rattle.latchbeacon.proofs.splices.latchbeacon_sysex8_splice.Reads as exported-splice
use Rattle.latchbeacon.proofs.splices.latchbeacon_sysex8_splice_all.Kinds as all_kinds
use Rattle.latchbeacon.proofs.splices.latchbeacon_sysex8_splice_all.Reads as exported-all
use Rattle.latchbeacon.proofs.splices.latchbeacon_sysex8_origin.Kinds as origin-kinds
use Rattle.latchbeacon.proofs.splices.latchbeacon_sysex8_origin.Reads as exported-origin
use Rattle.latchbeacon.proofs.edits.latchbeacon_move_edit.Kinds as move-kinds
use Rattle.latchbeacon.proofs.edits.latchbeacon_move_edit.Reads as exported-move

-- `latchbeacon_sysex8_splice` is called on these words, this length, this edit's range and these bytes; its struct is read so, and it
-- leaves these words
abbrev pub Splices : List ℕ → ℕ → Edit → List ℕ → Answer Spliced → List ℕ → Type 0
Splices words len edit bytes answer left =
    Called 2 splice-kinds.ps splice-kinds.r exported-splice.Post (splice_given words len edit bytes)
    (λ κs said. change_read said) (λ κs exit. exit.0.now ≡ left) answer

-- `latchbeacon_move_edit` is called on a done edit, a pending one and which of them is first
abbrev pub Moves : Edit → Edit → Bool → Answer Edit → Type 0
Moves done pending done_first answer =
    Called 0 move-kinds.ps move-kinds.r exported-move.Post
    (λ κs a. a ≡ (done.from, (done.to, (done.length, (pending.from, (pending.to, (pending.length, (done_first, tt))))))))
    (λ κs said. map_answer (with_range pending) (range_read said)) (λ κs exit. Unit {0}) answer

-- `latchbeacon_sysex8_repack` is called on these words and this length
abbrev pub Repacks : List ℕ → ℕ → Answer ℕ → List ℕ → Type 0
Repacks words len answer left =
    Called 1 repack-kinds.ps repack-kinds.r exported-repack.Post (repack_given words len)
    (λ κs said. number_read said) (λ κs exit. exit.0.now ≡ left) answer

-- `latchbeacon_sysex8_splice_all` is called on these words, this length, these numbers and bytes
abbrev pub SplicesAll : List ℕ → ℕ → List ℕ → List ℕ → Answer Spliced → List ℕ → Type 0
SplicesAll words len numbers bytes answer left =
    Called 3 all_kinds.ps all_kinds.r exported-all.Post (list_given words len numbers bytes)
    (λ κs said. change_read said) (λ κs exit. exit.0.now ≡ left) answer

-- `latchbeacon_sysex8_origin` is called on these words, this length, these numbers and bytes and an octet's index
abbrev pub Asks : List ℕ → ℕ → List ℕ → List ℕ → ℕ → Answer Origin → Type 0
Asks words len numbers bytes q answer =
    Called 3 origin-kinds.ps origin-kinds.r exported-origin.Post (ask_given words len numbers bytes q)
    (λ κs said. origin_read said) (λ κs exit. Unit {0}) answer

abbrev pub family : Family
family = record { calls = record { Splices = Splices; Moves = Moves }; Repacks = Repacks; SplicesAll = SplicesAll; Asks = Asks }
