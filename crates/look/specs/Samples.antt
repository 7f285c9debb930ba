-- Samples of the definitions, by computing: one edit and several of small dumps, a message.
-- Assumes nothing.
use Rattle.std.specs.Prelude.{◌≡◌, refl, List, [], ◌∷◌, ◌++◌, ℕ}
use Rattle.refusal.specs.Answer.{gives, refused}
use Rattle.ump.specs.Word.{octets}
use Rattle.ump.specs.Packet.{sysex8, size_of, payload_at, joined, payload}
use Rattle.ump.specs.Packing.{status_for}
use Rattle.ump.specs.Check.{first_where, bad_type, bad_status, bad_count, bad_group, bad_id, status_number, check_packets, check}
use Rattle.ump.specs.Edits.{Edit, replaced, edits_from}
use Rattle.ump.specs.Runs.{of_dump, of_edit, run_from}
use Rattle.ump.specs.Samples.{message5}
use Rattle.edit.specs.Listed.{list_check}
use Rattle.look.specs.Look.{find, look, part_lent, byte_of, byte_of_message}

abbrev edit : ℕ → ℕ → ℕ → Edit
edit from to length = record { from = from; to = to; length = length }

abbrev pub five : List ℕ
five = 0xA0 ∷ 0xA1 ∷ 0xA2 ∷ 0xA3 ∷ 0xA4 ∷ []

-- 1..3 by three bytes: A0 B0 B1 B2 A3 A4
abbrev pub three : List ℕ
three = 0xB0 ∷ 0xB1 ∷ 0xB2 ∷ []

pub record OneEdit : Type 0 where
  -- on each side of each border, and past the end
  pub before : find 5 (edit 1 3 3) 0 ≡ gives (of_dump 0 0 1)
  pub first : find 5 (edit 1 3 3) 1 ≡ gives (of_edit 0 0 3)
  pub within : find 5 (edit 1 3 3) 2 ≡ gives (of_edit 0 1 3)
  pub last : find 5 (edit 1 3 3) 3 ≡ gives (of_edit 0 2 3)
  pub behind : find 5 (edit 1 3 3) 4 ≡ gives (of_dump 1 3 5)
  pub end : find 5 (edit 1 3 3) 5 ≡ gives (of_dump 1 4 5)
  pub beyond : find 5 (edit 1 3 3) 6 ≡ refused 13 0
  -- an empty edit ends a run; so does one without replacement
  pub empty : (find 5 (edit 2 2 0) 0 ≡ gives (of_dump 0 0 2)) × (find 5 (edit 2 2 0) 1 ≡ gives (of_dump 0 1 2)) × (find 5 (edit 2 2 0) 2 ≡ gives (of_dump 1 2 5))
  pub cut : (find 5 (edit 1 3 0) 0 ≡ gives (of_dump 0 0 1)) × (find 5 (edit 1 3 0) 1 ≡ gives (of_dump 1 3 5)) × (find 5 (edit 1 3 0) 3 ≡ refused 13 0)
  -- an edit at 0 and at the end; the whole replaced; all cut out; of no bytes
  pub at_start : (find 5 (edit 0 0 2) 0 ≡ gives (of_edit 0 0 2)) × (find 5 (edit 0 0 2) 2 ≡ gives (of_dump 1 0 5))
  pub at_end : (find 5 (edit 5 5 2) 4 ≡ gives (of_dump 0 4 5)) × (find 5 (edit 5 5 2) 5 ≡ gives (of_edit 0 0 2)) × (find 5 (edit 5 5 2) 7 ≡ refused 13 0)
  pub whole : (find 5 (edit 0 5 2) 0 ≡ gives (of_edit 0 0 2)) × (find 5 (edit 0 5 2) 2 ≡ refused 13 0)
  pub nothing : (find 5 (edit 0 5 0) 0 ≡ refused 13 0) × (find 0 (edit 0 0 0) 0 ≡ refused 13 0)
  -- an edit that is reversed, past the payload, of numbers above 53,248; just that many
  pub reversed : find 5 (edit 3 1 3) 0 ≡ refused 13 0
  pub outside : find 5 (edit 1 6 3) 0 ≡ refused 13 0
  pub most : find 60000 (edit 0 53248 53248) 53247 ≡ gives (of_edit 0 53247 53248)
  pub too_many : find 60000 (edit 0 0 53249) 0 ≡ refused 13 0
  pub too_far : find 60000 (edit 53249 53249 0) 0 ≡ refused 13 0
  -- the bytes, and where they stand, where the payload is block 1 from 7 on and the replacement block 2 from 0 on
  pub bytes : (look five 1 3 three 0 ≡ 0xA0 ∷ []) × (look five 1 3 three 1 ≡ three) × (look five 1 3 three 4 ≡ 0xA3 ∷ 0xA4 ∷ []) × (look five 1 3 three 6 ≡ [])
  pub places : (part_lent (1, 7) (2, 0) five 1 3 three 2 ≡ ((2, 1), 0xB1 ∷ 0xB2 ∷ [])) × (part_lent (1, 7) (2, 0) five 1 3 three 4 ≡ ((1, 10), 0xA3 ∷ 0xA4 ∷ []))

pub one-edit : OneEdit
unfolding find part_lent run_from
one-edit =
    record {
      before = refl;
      first = refl;
      within = refl;
      last = refl;
      behind = refl;
      end = refl;
      beyond = refl;
      empty = (refl, refl, refl);
      cut = (refl, refl, refl);
      at_start = (refl, refl);
      at_end = (refl, refl, refl);
      whole = (refl, refl);
      nothing = (refl, refl);
      reversed = refl;
      outside = refl;
      most = refl;
      too_many = refl;
      too_far = refl;
      bytes = (refl, refl, refl, refl);
      places = (refl, refl);
    }

-- 0..1 by B0 B1, nothing at 2, 2..4 by B2: B0 B1 A1 B2 A4
abbrev pub numbers : List ℕ
numbers = 0 ∷ 1 ∷ 2 ∷ 2 ∷ 2 ∷ 0 ∷ 2 ∷ 4 ∷ 1 ∷ []

pub record ListOfEdits : Type 0 where
  pub each : (byte_of five numbers three 0 ≡ gives 0xB0) × (byte_of five numbers three 1 ≡ gives 0xB1) × (byte_of five numbers three 2 ≡ gives 0xA1)
      × (byte_of five numbers three 3 ≡ gives 0xB2) × (byte_of five numbers three 4 ≡ gives 0xA4)
  pub beyond : byte_of five numbers three 5 ≡ refused 13 0
  -- no edits; two empty edits at one place, in their order; the whole replaced
  pub no_edits : (byte_of five [] [] 4 ≡ gives 0xA4) × (byte_of five [] [] 5 ≡ refused 13 0)
  pub one_place : (byte_of five (2 ∷ 2 ∷ 1 ∷ 2 ∷ 2 ∷ 2 ∷ []) three 2 ≡ gives 0xB0) × (byte_of five (2 ∷ 2 ∷ 1 ∷ 2 ∷ 2 ∷ 2 ∷ []) three 3 ≡ gives 0xB1)
      × (byte_of five (2 ∷ 2 ∷ 1 ∷ 2 ∷ 2 ∷ 2 ∷ []) three 5 ≡ gives 0xA2)
  pub whole : (byte_of five (0 ∷ 5 ∷ 3 ∷ []) three 2 ≡ gives 0xB2) × (byte_of five (0 ∷ 5 ∷ 3 ∷ []) three 3 ≡ refused 13 0)
  -- Range, Overlap, Range for the position, in this order
  pub ragged : byte_of five (0 ∷ 1 ∷ []) [] 0 ≡ refused 13 0
  pub uneven : byte_of five numbers (three ++ (0 ∷ [])) 0 ≡ refused 13 0
  pub overlap : (byte_of five (2 ∷ 4 ∷ 0 ∷ 0 ∷ 1 ∷ 0 ∷ []) [] 0 ≡ refused 20 0) × (byte_of five (2 ∷ 4 ∷ 0 ∷ 0 ∷ 1 ∷ 0 ∷ []) [] 9 ≡ refused 20 0)
  pub range_first : byte_of five (2 ∷ 4 ∷ 0 ∷ 0 ∷ 6 ∷ 0 ∷ []) [] 9 ≡ refused 13 0

pub list_of_edits : ListOfEdits
unfolding byte_of list_check replaced joined edits_from
list_of_edits =
    record {
      each = (refl, refl, refl, refl, refl);
      beyond = refl;
      no_edits = (refl, refl);
      one_place = (refl, refl, refl);
      whole = (refl, refl);
      ragged = refl;
      uneven = refl;
      overlap = (refl, refl);
      range_first = refl;
    }

-- P5's message and P9's edits: A0 C0 C1 A1 A2; the message cut short, and a longer length than lent
pub record InMessage : Type 0 where
  pub each : (byte_of_message sysex8 message5 12 (1 ∷ 1 ∷ 1 ∷ 1 ∷ 1 ∷ 1 ∷ []) (0xC0 ∷ 0xC1 ∷ []) 0 ≡ gives 0xA0)
      × (byte_of_message sysex8 message5 12 (1 ∷ 1 ∷ 1 ∷ 1 ∷ 1 ∷ 1 ∷ []) (0xC0 ∷ 0xC1 ∷ []) 2 ≡ gives 0xC1)
      × (byte_of_message sysex8 message5 12 (1 ∷ 1 ∷ 1 ∷ 1 ∷ 1 ∷ 1 ∷ []) (0xC0 ∷ 0xC1 ∷ []) 4 ≡ gives 0xA2)
      × (byte_of_message sysex8 message5 12 (1 ∷ 1 ∷ 1 ∷ 1 ∷ 1 ∷ 1 ∷ []) (0xC0 ∷ 0xC1 ∷ []) 5 ≡ refused 13 0)
  pub check_first : (byte_of_message sysex8 message5 5 (0 ∷ []) [] 0 ≡ refused 4 0) × (byte_of_message sysex8 message5 13 [] [] 0 ≡ refused 2 0)

pub in_message : InMessage
unfolding byte_of_message byte_of list_check replaced joined edits_from check check_packets first_where bad_type bad_status bad_count bad_group bad_id status_number status_for payload payload_at size_of octets
in_message = record { each = (refl, refl, refl, refl); check_first = (refl, refl) }
