-- Each refusal of looking at an edited dump is one of the names. Assumes nothing.
use Rattle.std.specs.Prelude.{Result, Ok, Err}
use Rattle.refusal.specs.declared.Fault.{Fault}
use mathlib.Core.Path.{◌≡◌, refl}
use mathlib.Core.List.{List}
use Prim.Native.Nat.{ℕ}
use lib.ListN.{length}
use Rattle.refusal.specs.Answer.{Answer}
use Rattle.refusal.specs.Number.{Named, accepted, named}
use Rattle.refusal.specs.declared.Refusal.TheVariants.{Range, Overlap}
use Rattle.refusal.proofs.Laws.{by_guard, by_both}
use Rattle.ump.specs.Packet.{Shape}
use Rattle.ump.specs.Check.{payload_of}
use Rattle.ump.specs.Setters.{get_byte}
use Rattle.ump.specs.Edits.{bad_list, some_overlap, edits_of, patches_of, replaced}
use Rattle.ump.proofs.Named.{check_named}
use Rattle.edit.specs.Listed.{list_check}
use Rattle.look.specs.Look.{byte_of, byte_of_message}
use Rattle.look.proofs.Nth.{nth_named}
use Rattle.refusal.specs.Meaning.{answer_of}

pub byte_named : (dump numbers bytes : List ℕ) (i : ℕ) → Named (byte_of dump numbers bytes i)
unfolding byte_of list_check
byte_named dump numbers bytes i =
    by_both _ _
    (by_both _ _ (by_guard (bad_list (length dump) (length bytes) numbers) Range 0) (by_guard (some_overlap 0 (edits_of numbers)) Overlap 0))
    (nth_named (replaced dump (patches_of (edits_of numbers) bytes)) i)

module _ (shape : Shape) (words : List ℕ) (len : ℕ) where
  pub message_named : (numbers bytes : List ℕ) (i : ℕ) → Named (byte_of_message shape words len numbers bytes i)
  unfolding byte_of_message
  message_named numbers bytes i = by_both _ _ (check_named shape words len) (byte_named (payload_of shape words len) numbers bytes i)

  pub read_named : (i : ℕ) → Named (get_byte shape words len i)
  unfolding get_byte
  read_named i = by_both _ _ (check_named shape words len) (nth_named (payload_of shape words len) i)

-- ---- each outcome whose refusals have names is the meaning of an answer

abbrev pub said_of : {answer : Answer ℕ} → Named answer → (Result ℕ Fault)
said_of (accepted {value}) = Ok value
said_of (named r {place}) = Err (record { refusal = r; place = place })

pub said_meant : {answer : Answer ℕ} (h : Named answer) → answer_of (said_of h) ≡ answer
said_meant accepted = refl
said_meant (named r) = refl
