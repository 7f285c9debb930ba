-- Wrong answers that the promises shut out, each on a concrete input. Assumes nothing.
use Rattle.std.specs.Prelude.{Result, Ok, Err}
use mathlib.Core.Path.{◌≡◌}
use mathlib.Core.Bool.{not}
use mathlib.Core.List.{List, [], ◌∷◌}
use Prim.Native.Nat.{ℕ, ◌+◌, ◌*◌}
use lib.Dec.{T, eqb}
use lib.ListN.{length}
use contract.Lifetimes.{Lfts}
use borrow.Fn.Kinds.{res_t}
use Rattle.refusal.specs.Answer.{Answer}
use Rattle.refusal.specs.declared.Fault.{Fault}
use Rattle.refusal.specs.declared.Refusal.{Refusal}
use Rattle.refusal.specs.declared.Refusal.TheVariants as refusal
use Rattle.refusal.specs.Tight as tight
use Rattle.refusal.specs.Tight.{Shuts}
use Rattle.refusal.proofs.Tight.{differ, told}
use Rattle.ump.specs.Word.{octets}
use Rattle.ump.specs.Packet.{sysex8, size_of, payload_at, joined, payload}
use Rattle.ump.specs.Packing.{status_for}
use Rattle.ump.specs.Check.{first_where, bad_type, bad_status, bad_count, bad_group, bad_id, status_number, check_packets, check}
use Rattle.ump.specs.Edits.{replaced, edits_from}
use Rattle.ump.specs.Runs.{Run, of_dump, of_edit, past, run_from}
use Rattle.ump.specs.Samples.{message5}
use Rattle.edit.specs.declared.Edit.{Edit}
use Rattle.edit.specs.Listed.{list_check}
use Rattle.look.specs.Look as definition
use Rattle.look.specs.Samples.{five, three, numbers}
use Rattle.look.specs.declared.Part.{Part}
use Rattle.look.specs.declared.Found.TheVariants as found
use Rattle.look.proofs.find.Reads as find
use Rattle.look.proofs.run.Kinds as run-kinds
use Rattle.look.proofs.run.Reads as run
use Rattle.look.proofs.list.byte.Kinds as byte-kinds
use Rattle.look.proofs.list.byte.Reads as byte
use Rattle.look.proofs.list.byte_of_message.Kinds as message-kinds
use Rattle.look.proofs.list.byte_of_message.Reads as message
use Rattle.refusal.specs.Meaning.{answer_of}

abbrev edit : ℕ → ℕ → ℕ → Edit
edit from to length = record { from = from; to = to; length = length }

abbrev part : ℕ → ℕ → Part
part start end = record { start = start; end = end }

abbrev fault : Refusal → Fault
fault name = record { refusal = name; place = 0 }

abbrev run_number : Run → ℕ
run_number (of_dump k start end) = 2 + 4 * (k + 8 * (start + 64 * end))
run_number (of_edit k start end) = 1 + 4 * (k + 8 * (start + 64 * end))
run_number past = 0

-- ---- where a run stands: of 1..3 by three bytes in a dump of five

-- one byte alone (byte), a run that goes on through the edit (through), counted in the result (counted), over an empty edit (empty),
-- nothing for the position behind the last byte (behind_last), a position in the part cut out read there (cut)
record FindShut : Type 0 where
  byte : Shuts find.Post (5, (edit 2 3 3, (0, tt))) (Ok (found.Before (part 0 1)))
  through : Shuts find.Post (5, (edit 1 3 3, (0, tt))) (Ok (found.Before (part 0 5)))
  counted : Shuts find.Post (5, (edit 1 3 3, (4, tt))) (Ok (found.Behind (part 4 5)))
  whole : Shuts find.Post (5, (edit 1 3 3, (2, tt))) (Ok (found.Within (part 0 3)))
  empty : Shuts find.Post (5, (edit 2 2 0, (0, tt))) (Ok (found.Before (part 0 5)))
  behind_last : Shuts find.Post (5, (edit 1 3 3, (6, tt))) (Ok (found.Behind (part 5 5)))
  cut : Shuts find.Post (5, (edit 1 3 0, (1, tt))) (Ok (found.Before (part 1 5)))
  refuses : Shuts find.Post (5, (edit 1 3 3, (5, tt))) (Err (fault refusal.Range))
  reversed : Shuts find.Post (5, (edit 3 1 0, (0, tt))) (Ok (found.Before (part 0 3)))
  named : Shuts find.Post (5, (edit 1 6 0, (0, tt))) (Err (fault refusal.Overlap))

find_shut : FindShut
unfolding definition.find run_from
find_shut =
    record {
      byte = λ κs s p. differ (told run_number) tt p;
      through = λ κs s p. differ (told run_number) tt p;
      counted = λ κs s p. differ (told run_number) tt p;
      whole = λ κs s p. differ (told run_number) tt p;
      empty = λ κs s p. differ (told run_number) tt p;
      behind_last = λ κs s p. differ (told run_number) tt p;
      cut = λ κs s p. differ (told run_number) tt p;
      refuses = λ κs s p. differ (told run_number) tt p;
      reversed = λ κs s p. differ (told run_number) tt p;
      named = λ κs s p. differ (told run_number) tt p;
    }

-- ---- the run itself

-- the same dump at (1, 0) and replacement at (2, 0), each a block of its own; position i, and what comes back
abbrev RunShut : ℕ → ((κs : Lfts 1) → (res_t run-kinds.r κs).Denot → Type 0) → Type 0
RunShut i wrong =
    tight.ShutOut 1 run-kinds.ps run-kinds.r run.Post
    (λ κs a x s.
    ((a.0.ref_ptr ≡ (1, 0)) × (a.0.now ≡ five) × (a.1.0 ≡ 1) × (a.1.1.0 ≡ 3)
    × (a.1.1.1.0.ref_ptr ≡ (2, 0)) × (a.1.1.1.0.now ≡ three) × (a.1.1.1.1.0 ≡ i))
    × wrong κs x)

abbrev size : (ℕ × ℕ) × List ℕ → ℕ
size o = length o.1

abbrev block : (ℕ × ℕ) × List ℕ → ℕ
block o = o.0.0

abbrev offset : (ℕ × ℕ) × List ℕ → ℕ
offset o = o.0.1

-- nothing comes back
run_nothing : RunShut 0 (λ κs x. x.now ≡ [])
unfolding definition.part_lent definition.find run_from
run_nothing κs a x s w p = differ size tt (rw (w.0.0, w.0.1, w.0.2, w.0.3, w.0.4, w.0.5, w.0.6, w.1) at p)

-- the right bytes, but not where they are lent: a copy of them
run_copied : RunShut 1 (λ κs x. x.ref_ptr ≡ (3, 0))
unfolding definition.part_lent definition.find run_from
run_copied κs a x s w p = differ block tt (rw (w.0.0, w.0.1, w.0.2, w.0.3, w.0.4, w.0.5, w.0.6, w.1) at p)

-- the run behind the edit, lent from where the range begins
run_offset : RunShut 4 (λ κs x. x.ref_ptr ≡ (1, 1))
unfolding definition.part_lent definition.find run_from
run_offset κs a x s w p = differ offset tt (rw (w.0.0, w.0.1, w.0.2, w.0.3, w.0.4, w.0.5, w.0.6, w.1) at p)

-- ---- one byte of 0..1 by B0 B1, nothing at 2, 2..4 by B2: B0 B1 A1 B2 A4

abbrev ByteShut : List ℕ → List ℕ → ℕ → (Result ℕ Fault) → Type 0
ByteShut numbers bytes i wrong =
    tight.ShutOut 3 byte-kinds.ps byte-kinds.r byte.Post
    (λ κs a x s. (a.0.now ≡ five) × (a.1.0.now ≡ numbers) × (a.1.1.0.now ≡ bytes) × (a.1.1.1.0 ≡ i) × (x ≡ wrong))

abbrev value : Answer ℕ → ℕ
value = told (λ v. v)

-- an answer other than the definition's
byte_wrong : (numbers bytes : List ℕ) (i : ℕ) (wrong : (Result ℕ Fault))
    → T (not (eqb (value (answer_of wrong)) (value (definition.byte_of five numbers bytes i)))) → ByteShut numbers bytes i wrong
byte_wrong numbers bytes i wrong t κs a x s w p = differ value t (rw (w.0, w.1, w.2, w.3, w.4) at p)

-- the dump's own byte (unedited); a replacement read from the start of all of them (bytes); Overlap before Range (order), the
-- position's Range before Overlap (position); a byte though the replacement bytes are too many (many); refused without edits (none)
record ByteShuts : Type 0 where
  unedited : ByteShut numbers three 2 (Ok 0xA2)
  bytes : ByteShut numbers three 3 (Ok 0xB0)
  order : ByteShut (2 ∷ 4 ∷ 0 ∷ 0 ∷ 6 ∷ 0 ∷ []) [] 0 (Err (fault refusal.Overlap))
  position : ByteShut (2 ∷ 4 ∷ 0 ∷ 0 ∷ 1 ∷ 0 ∷ []) [] 9 (Err (fault refusal.Range))
  many : ByteShut numbers (0xB0 ∷ 0xB1 ∷ 0xB2 ∷ 0xB3 ∷ []) 0 (Ok 0xB0)
  none : ByteShut [] [] 4 (Err (fault refusal.Range))

byte_shuts : ByteShuts
unfolding definition.byte_of list_check replaced joined edits_from
byte_shuts =
    record {
      unedited = byte_wrong _ _ _ _ tt;
      bytes = byte_wrong _ _ _ _ tt;
      order = byte_wrong _ _ _ _ tt;
      position = byte_wrong _ _ _ _ tt;
      many = byte_wrong _ _ _ _ tt;
      none = byte_wrong _ _ _ _ tt;
    }

-- ---- one byte of P5's message with C0 and then C1 put in at 1: A0 C0 C1 A1 A2

-- the answer for so many of its words as a message, and for byte i
abbrev MessageShut : ℕ → ℕ → (Result ℕ Fault) → Type 0
MessageShut len i wrong =
    tight.ShutOut 3 message-kinds.ps message-kinds.r message.Post
    (λ κs a x s. (a.0.now ≡ message5) × (a.1.0 ≡ len) × (a.1.1.0.now ≡ 1 ∷ 1 ∷ 1 ∷ 1 ∷ 1 ∷ 1 ∷ [])
    × (a.1.1.1.0.now ≡ 0xC0 ∷ 0xC1 ∷ []) × (a.1.1.1.1.0 ≡ i) × (x ≡ wrong))

message_wrong : (len i : ℕ) (wrong : (Result ℕ Fault))
    → T (not (eqb (value (answer_of wrong)) (value (definition.byte_of_message sysex8 message5 len (1 ∷ 1 ∷ 1 ∷ 1 ∷ 1 ∷ 1 ∷ []) (0xC0 ∷ 0xC1 ∷ []) i))))
    → MessageShut len i wrong
message_wrong len i wrong t κs a x s w p = differ value t (rw (w.0, w.1, w.2, w.3, w.4, w.5) at p)

-- the message's own byte (unedited); the edits in the other order (order); filler past the result (filler); the check left out (unchecked), or
-- Range before it (range_first)
record MessageShuts : Type 0 where
  unedited : MessageShut 12 1 (Ok 0xA1)
  order : MessageShut 12 1 (Ok 0xC1)
  filler : MessageShut 12 5 (Ok 0)
  unchecked : MessageShut 8 0 (Ok 0xA0)
  range_first : MessageShut 8 9 (Err (fault refusal.Range))

message_shuts : MessageShuts
unfolding definition.byte_of_message definition.byte_of list_check replaced joined edits_from check check_packets first_where bad_type bad_status bad_count bad_group bad_id status_number status_for payload payload_at size_of octets
message_shuts =
    record {
      unedited = message_wrong _ _ _ tt;
      order = message_wrong _ _ _ tt;
      filler = message_wrong _ _ _ tt;
      unchecked = message_wrong _ _ _ tt;
      range_first = message_wrong _ _ _ tt;
    }
