-- Wrong answers that the promises shut out, each on a concrete input. Assumes nothing.
use Rattle.std.specs.Prelude.{Result, Ok, Err}
use mathlib.Core.Path.{◌≡◌, ap}
use mathlib.Core.Bool.{Bool, true, false, not, cond}
use mathlib.Core.List.{List, [], ◌∷◌, ◌++◌}
use Prim.Native.Nat.{ℕ, ◌+◌, ◌*◌}
use lib.Dec.{T, eqb}
use lib.IntN.{ℤ, pos, negsuc}
use lib.ListN.{get_or, replicate}
use contract.Lifetimes.{Lfts}
use denote.Triple.Clauses.{AtExit}
use borrow.Fn.Kinds.{Dens, res_t, ended_of}
use Rattle.refusal.specs.Answer.{Answer, gives}
use Rattle.refusal.specs.Tight as tight
use Rattle.refusal.specs.Tight.{Shuts}
use Rattle.refusal.specs.declared.Fault.{Fault}
use Rattle.refusal.specs.declared.Refusal.{Refusal}
use Rattle.refusal.specs.declared.Refusal.TheVariants as refusal
use Rattle.refusal.proofs.Laws.{never_both, never_refused}
use Rattle.refusal.proofs.Tight.{differ, told}
use Rattle.ump.specs.Word.{octets, words_of}
use Rattle.ump.specs.Packet.{size_of, payload_at, joined, payload}
use Rattle.ump.specs.Packing.{status_for, frame, packs_at, packs, packets_for, pack}
use Rattle.ump.specs.Check.{first_where, bad_type, bad_status, bad_count, bad_group, bad_id, status_number, check_packets, check}
use Rattle.ump.specs.Splice.{Spliced, stored, rewritten}
use Rattle.ump.specs.Edits as ump
use Rattle.ump.specs.Runs.{run_from}
use Rattle.ump.specs.Origin.{Origin, Source, dump_byte, edit_byte, header_octet, carried, filler, zeroed, untouched, origin_of, origin_in, origin, is_header}
use Rattle.ump.specs.Samples.{message5}
use Rattle.splice.specs.declared.sysex8.Change.{Change}
use Rattle.splice.proofs.ShutOut.{Refuses}
use Rattle.edit.specs.Growth.{growth_of}
use Rattle.edit.specs.Listed.{list_check}
use Rattle.edit.specs.Placed.{Place, in_dump, in_bytes, placed}
use Rattle.edit.specs.Meaning.{origin_meaning, placed_meaning}
use Rattle.edit.specs.declared.Edit.{Edit}
use Rattle.edit.specs.declared.Range.{Range}
use Rattle.edit.specs.declared.origins.OctetOrigin.{OctetOrigin}
use Rattle.edit.specs.declared.origins.OctetOrigin.TheVariants as comes
use Rattle.edit.specs.declared.placing.Placed.{Placed}
use Rattle.edit.specs.declared.placing.Placed.TheVariants as place_of
use Rattle.edit.proofs.growth.Reads as growth
use Rattle.edit.proofs.is_bad.Reads as bad
use Rattle.edit.proofs.placing.place.Kinds as place-kinds
use Rattle.edit.proofs.placing.place.Reads as place
use Rattle.edit.proofs.move_edit.Reads as move
use Rattle.edit.proofs.all.splice_all.Kinds as all_kinds
use Rattle.edit.proofs.all.splice_all.Reads as all
use Rattle.edit.proofs.origins.origin.Kinds as origin-kinds
use Rattle.edit.proofs.origins.origin.Reads as asked

abbrev signed : ℤ → ℕ
signed (pos n) = 2 * n
signed (negsuc n) = 2 * n + 1

abbrev ends : ump.Range → ℕ
ends range = 60000 * range.from + range.to

-- two answers differ by a number of their value, or by their refusal
wrong : {A : Type 0} (number : A → ℕ) {x y : Answer A} → T (not (eqb (told number x) (told number y))) → x ≡ y → ⊥
wrong number t e = differ (told number) t e

abbrev edit : ℕ → ℕ → ℕ → Edit
edit from to length = record { from = from; to = to; length = length }

abbrev range : ℕ → ℕ → Range
range from to = record { from = from; to = to }

abbrev fault : Refusal → Fault
fault name = record { refusal = name; place = 0 }

-- the edits of P8: 0..1 by two bytes, 2..3 by nothing
abbrev growing : Edit
growing = edit 0 1 2

abbrev shrinking : Edit
shrinking = edit 2 3 0

-- A growth that is unsigned: cut at zero (unsigned) or its size without its sign (magnitude); refused below zero (refused); given
-- for a reversed edit (reversed) or past the numbers of an edit (past).
-- An edit moved by a growth cut at zero (unsigned), by that of a higher-numbered one (higher), or not at all (unmoved); touching
-- ones refused (touching, before); overlap told by the wrong ends (ends, wrong-ends); Overlap before Range (order), Range for one
-- of the two alone (done, pending); a moved range above 53,248 refused (far).
record ShutOut : Type 0 where
  growth_unsigned : Shuts growth.Post (shrinking, tt) (Ok (pos 0))
  growth_magnitude : Shuts growth.Post (shrinking, tt) (Ok (pos 1))
  growth_refused : Shuts growth.Post (shrinking, tt) (Err (fault refusal.Range))
  growth_reversed : Shuts growth.Post (edit 3 2 0, tt) (Ok (pos 1))
  growth_past : Shuts growth.Post (edit 0 0 53249, tt) (Ok (pos 53249))
  move_unsigned : Shuts move.Post (edit 0 4 1, (edit 4 5 0, (true, tt))) (Ok (range 4 5))
  move_higher : Shuts move.Post (shrinking, (growing, (false, tt))) (Ok (range 0 0))
  move_grown_higher : Shuts move.Post (edit 2 3 5, (growing, (false, tt))) (Ok (range 4 5))
  move_unmoved : Shuts move.Post (growing, (shrinking, (true, tt))) (Ok (range 2 3))
  move_touching : Shuts move.Post (growing, (edit 1 2 0, (true, tt))) (Err (fault refusal.Overlap))
  move_before : Shuts move.Post (edit 1 2 0, (growing, (false, tt))) (Err (fault refusal.Overlap))
  move_ends : Shuts move.Post (edit 0 4 4, (edit 3 5 0, (true, tt))) (Ok (range 3 5))
  move_wrong_ends : Shuts move.Post (edit 3 5 2, (edit 0 4 0, (false, tt))) (Ok (range 0 4))
  move_order : Shuts move.Post (edit 0 4 53249, (edit 3 5 0, (true, tt))) (Err (fault refusal.Overlap))
  move_done : Shuts move.Post (edit 2 1 0, (edit 3 5 0, (true, tt))) (Ok (range 3 5))
  move_pending : Shuts move.Post (growing, (edit 5 3 0, (true, tt))) (Ok (range 6 4))
  move_far : Shuts move.Post (edit 0 0 53248, (edit 53248 53248 0, (true, tt))) (Err (fault refusal.Range))

shut_out : ShutOut
unfolding growth_of ump.move_edit
shut_out = record {
  growth_unsigned = λ κs s p. wrong signed tt p;
  growth_magnitude = λ κs s p. wrong signed tt p;
  growth_refused = λ κs s p. wrong signed tt p;
  growth_reversed = λ κs s p. wrong signed tt p;
  growth_past = λ κs s p. wrong signed tt p;
  move_unsigned = λ κs s p. wrong ends tt p;
  move_higher = λ κs s p. wrong ends tt p;
  move_grown_higher = λ κs s p. wrong ends tt p;
  move_unmoved = λ κs s p. wrong ends tt p;
  move_touching = λ κs s p. wrong ends tt p;
  move_before = λ κs s p. wrong ends tt p;
  move_ends = λ κs s p. wrong ends tt p;
  move_wrong_ends = λ κs s p. wrong ends tt p;
  move_order = λ κs s p. wrong ends tt p;
  move_done = λ κs s p. wrong ends tt p;
  move_pending = λ κs s p. wrong ends tt p;
  move_far = λ κs s p. wrong ends tt p;
}

-- ---- all edits at once

-- a call on these words, of this message length, with these edits and replacement bytes
abbrev AllCalled : List ℕ → ℕ → List ℕ → List ℕ → (κs : Lfts 3) → Dens κs all_kinds.ps → Type 0
AllCalled words len numbers bytes κs a = (a.0.now ≡ words) × (a.1.0 ≡ len) × (a.1.1.0.now ≡ numbers) × (a.1.1.1.0.now ≡ bytes)

-- a call answers so
abbrev Wrong : Type 1
Wrong = (κs : Lfts 3) → (res_t all_kinds.r κs).Denot → AtExit (ended_of 3 all_kinds.ps all_kinds.r) κs → Type 0

abbrev AllShut : List ℕ → ℕ → List ℕ → List ℕ → Wrong → Type 0
AllShut words len numbers bytes wrong =
    tight.ShutOut 3 all_kinds.ps all_kinds.r all.Post (λ κs a x s. AllCalled words len numbers bytes κs a × wrong κs x s)

record Accepts (x : (Result Change Fault)) : Type 0 where
  change : Change
  is : x ≡ Ok change

abbrev refuses : Wrong
refuses κs x s = Refuses Err x

abbrev accepts : Wrong
accepts κs x s = Accepts x

abbrev leaves : List ℕ → Wrong
leaves words κs x s = s.0.now ≡ words

abbrev answers : ℕ → ℤ → Wrong
answers length growth κs x s = x ≡ Ok (record { length = length; growth = growth })

abbrev word : ℕ → Answer Spliced × List ℕ → ℕ
word k o = get_or o.1 k 0

abbrev tells : Answer Spliced × List ℕ → ℕ
tells o = told (λ c. 1000 * c.length + signed c.growth) o.0

-- P8's edits of P5's message, by bytes B0 B1
abbrev numbers8 : List ℕ
numbers8 = 0 ∷ 1 ∷ 2 ∷ 2 ∷ 3 ∷ 0 ∷ []

abbrev bytes8 : List ℕ
bytes8 = 0xB0 ∷ 0xB1 ∷ []

abbrev short : List ℕ → List ℕ
short words = words ++ replicate 10 0

-- thirteen bytes, in four words
abbrev thirteen : List ℕ
thirteen = 0x500E0001 ∷ 0x02030405 ∷ 0x06070809 ∷ 0x0A0B0C0D ∷ []

-- the first edit alone is done
all_first : AllShut message5 12 numbers8 bytes8 (leaves (short (0x510505B0 ∷ 0xB1A1A200 ∷ [])))
unfolding ump.splice_all ump.edits_from ump.replaced rewritten stored check check_packets bad_type bad_status bad_count bad_group bad_id status_number first_where payload payload_at size_of octets pack packs packs_at packets_for status_for frame joined words_of
all_first κs a x s w p = differ (word 0) tt (rw (w.0.0, w.0.1, w.0.2, w.0.3, w.1) at p)

-- a range is moved by the growth of all edits, or not at all: the byte before the second range is taken out
all_moved : AllShut message5 12 numbers8 bytes8 (leaves (short (0x510405B0 ∷ 0xB1A20000 ∷ [])))
unfolding ump.splice_all ump.edits_from ump.replaced rewritten stored check check_packets bad_type bad_status bad_count bad_group bad_id status_number first_where payload payload_at size_of octets pack packs packs_at packets_for status_for frame joined words_of
all_moved κs a x s w p = differ (word 1) tt (rw (w.0.0, w.0.1, w.0.2, w.0.3, w.1) at p)

-- the growth is that of the edit done last
all_growth : AllShut message5 12 numbers8 bytes8 (answers 4 (pos 1))
unfolding ump.splice_all ump.edits_from ump.replaced rewritten stored check check_packets bad_type bad_status bad_count bad_group bad_id status_number first_where payload payload_at size_of octets pack packs packs_at packets_for status_for frame joined words_of
all_growth κs a x s w p = differ tells tt (rw (w.0.0, w.0.1, w.0.2, w.0.3, w.1) at p)

-- edits that overlap are taken, and ones that touch are refused
all_overlap : AllShut message5 12 (0 ∷ 2 ∷ 2 ∷ 1 ∷ 3 ∷ 0 ∷ []) bytes8 accepts
unfolding ump.splice_all ump.edits_from ump.replaced rewritten stored check check_packets bad_type bad_status bad_count bad_group bad_id status_number first_where payload payload_at size_of octets pack packs packs_at packets_for status_for frame joined words_of
all_overlap κs a x s w p = never_both (ap (λ (o : Answer Spliced × List ℕ). o.0) (rw (w.0.0, w.0.1, w.0.2, w.0.3, w.1.is) at p))

all_touching : AllShut message5 12 (0 ∷ 1 ∷ 2 ∷ 1 ∷ 3 ∷ 0 ∷ []) bytes8 refuses
unfolding ump.splice_all ump.edits_from ump.replaced rewritten stored check check_packets bad_type bad_status bad_count bad_group bad_id status_number first_where payload payload_at size_of octets pack packs packs_at packets_for status_for frame joined words_of
all_touching κs a x s w p = never_refused (ap (λ (o : Answer Spliced × List ℕ). o.0) (rw (w.0.0, w.0.1, w.0.2, w.0.3, w.1.is) at p))

-- replacement bytes that no edit has are taken
all-bytes : AllShut message5 12 numbers8 (0xB0 ∷ 0xB1 ∷ 0xB2 ∷ []) accepts
unfolding ump.splice_all ump.edits_from ump.replaced rewritten stored check check_packets bad_type bad_status bad_count bad_group bad_id status_number first_where payload payload_at size_of octets pack packs packs_at packets_for status_for frame joined words_of
all-bytes κs a x s w p = never_both (ap (λ (o : Answer Spliced × List ℕ). o.0) (rw (w.0.0, w.0.1, w.0.2, w.0.3, w.1.is) at p))

-- room is judged in the middle: thirteen bytes, five put in and then five taken out, in four words, are refused
all_middle : AllShut thirteen 4 (0 ∷ 0 ∷ 5 ∷ 8 ∷ 13 ∷ 0 ∷ []) (21 ∷ 22 ∷ 23 ∷ 24 ∷ 25 ∷ []) refuses
unfolding ump.splice_all ump.edits_from ump.replaced rewritten stored check check_packets bad_type bad_status bad_count bad_group bad_id status_number first_where payload payload_at size_of octets pack packs packs_at packets_for status_for frame joined words_of
all_middle κs a x s w p = never_refused (ap (λ (o : Answer Spliced × List ℕ). o.0) (rw (w.0.0, w.0.1, w.0.2, w.0.3, w.1.is) at p))

-- room is judged late: the last byte is taken out before two are refused
all_late : AllShut thirteen 4 (0 ∷ 0 ∷ 2 ∷ 12 ∷ 13 ∷ 0 ∷ []) bytes8 (leaves (0x500D0001 ∷ 0x02030405 ∷ 0x06070809 ∷ 0x0A0B0C00 ∷ []))
unfolding ump.splice_all ump.edits_from ump.replaced rewritten stored check check_packets bad_type bad_status bad_count bad_group bad_id status_number first_where payload payload_at size_of octets pack packs packs_at packets_for status_for frame joined words_of
all_late κs a x s w p = differ (word 0) tt (rw (w.0.0, w.0.1, w.0.2, w.0.3, w.1) at p)

-- ---- where an octet comes from

-- no such answer to a question for octet q, of P8's edits of P5's message in these words
abbrev AskedShut : List ℕ → ℕ → (Result OctetOrigin Fault → Type 0) → Type 0
AskedShut words q wrong =
    tight.ShutOut 3 origin-kinds.ps origin-kinds.r asked.Post
    (λ κs a x s. (a.0.now ≡ words) × (a.1.0 ≡ 12) × (a.1.1.0.now ≡ numbers8) × (a.1.1.1.0.now ≡ bytes8) × (a.1.1.1.1.0 ≡ q) × wrong x)

abbrev kind : Origin → ℕ
kind (header_octet p j) = 10 * (100 * p + j)
kind (carried (dump_byte i)) = 10 * i + 1
kind (carried (edit_byte k j)) = 10 * (100 * k + j) + 2
kind filler = 3
kind zeroed = 4
kind untouched = 5

abbrev from_edit : ℕ → ℕ → Result OctetOrigin Fault
from_edit edit byte = Ok (comes.Edit (record { edit = edit; byte = byte }))

-- an answer that refuses, one that does not, and one by which the octet is carried
record NotGiven (x : Result OctetOrigin Fault) : Type 0 where
  fault : Fault
  is : x ≡ Err fault

record Given (x : Result OctetOrigin Fault) : Type 0 where
  from : Origin
  is : origin_meaning x ≡ gives from

record Carried (x : Result OctetOrigin Fault) : Type 0 where
  source : Source
  is : origin_meaning x ≡ gives (carried source)

-- P5's message with four words more lent
abbrev more : List ℕ
more = message5 ++ replicate 4 9

-- A byte of a replacement said to be the one of the dump that it replaces (replaced), or the first of its replacement (first); a
-- byte of the dump by where it stands in the message (unmoved); the stream id carried (id); an unused octet said to be zeroed
-- (filler); an octet behind the new message, where the old one stood, untouched (behind), and one behind both zeroed (beyond); one
-- that is not lent answered (past); a question refused that has an answer (refused).
record OriginShutOut : Type 0 where
  origin_replaced : AskedShut message5 3 (λ x. x ≡ Ok (comes.Dump 0))
  origin_first : AskedShut message5 4 (λ x. x ≡ from_edit 0 0)
  origin_unmoved : AskedShut message5 5 (λ x. x ≡ Ok (comes.Dump 2))
  origin_id : AskedShut message5 2 Carried
  origin_filler : AskedShut message5 6 (λ x. x ≡ Ok (comes.Zeroed))
  origin_behind : AskedShut message5 16 (λ x. x ≡ Ok (comes.Untouched))
  origin_beyond : AskedShut more 48 (λ x. x ≡ Ok (comes.Zeroed))
  origin_past : AskedShut message5 48 Given
  origin_refused : AskedShut message5 5 NotGiven

origin_shut_out : OriginShutOut
unfolding origin origin_in origin_of run_from ump.edits_from ump.replaced check check_packets bad_type bad_status bad_count bad_group bad_id status_number first_where payload payload_at size_of octets packets_for status_for joined
origin_shut_out = record {
  origin_replaced = λ κs a x s w p. wrong kind tt (rw (w.0, w.1, w.2, w.3, w.4, w.5) at p);
  origin_first = λ κs a x s w p. wrong kind tt (rw (w.0, w.1, w.2, w.3, w.4, w.5) at p);
  origin_unmoved = λ κs a x s w p. wrong kind tt (rw (w.0, w.1, w.2, w.3, w.4, w.5) at p);
  origin_id = λ κs a x s w p. wrong (λ o. cond (is_header o) 1 0) tt (rw (w.0, w.1, w.2, w.3, w.4, w.5.is) at p);
  origin_filler = λ κs a x s w p. wrong kind tt (rw (w.0, w.1, w.2, w.3, w.4, w.5) at p);
  origin_behind = λ κs a x s w p. wrong kind tt (rw (w.0, w.1, w.2, w.3, w.4, w.5) at p);
  origin_beyond = λ κs a x s w p. wrong kind tt (rw (w.0, w.1, w.2, w.3, w.4, w.5) at p);
  origin_past = λ κs a x s w p. never_both (rw (w.0, w.1, w.2, w.3, w.4, w.5.is) at p);
  origin_refused = λ κs a x s w p. never_refused (rw (w.0, w.1, w.2, w.3, w.4, w.5.is) at p);
}

-- ---- a bad edit

abbrev flag : Bool → ℕ
flag true = 1
flag false = 0

-- an edit that is reversed (reversed) or of a number above 53,248 (past) is none, or one of just that number is (most)
record BadShut : Type 0 where
  reversed : Shuts bad.Post (edit 3 2 0, tt) false
  past : Shuts bad.Post (edit 0 0 53249, tt) false
  most : Shuts bad.Post (edit 0 53248 53248, tt) true

bad_shut : BadShut
bad_shut =
    record {
      reversed = λ κs s p. differ flag tt p;
      past = λ κs s p. differ flag tt p;
      most = λ κs s p. differ flag tt p;
    }

-- ---- where a byte stands: five bytes, 0..1 by two, nothing at 2, 2..4 by one

abbrev place_number : Place → ℕ
place_number (in_dump at) = 2 * at
place_number (in_bytes at) = 2 * at + 1

-- the answer to these edits, with so many replacement bytes, for byte i
abbrev PlaceShut : List ℕ → ℕ → ℕ → Result Placed Fault → Type 0
PlaceShut numbers bytes i wrong =
    tight.ShutOut 1 place-kinds.ps place-kinds.r place.Post
    (λ κs a x s. (a.0.now ≡ numbers) × (a.1.0 ≡ 5) × (a.1.1.0 ≡ bytes) × (a.1.1.1.0 ≡ i) × (x ≡ wrong))

place_wrong : (numbers : List ℕ) (bytes i : ℕ) (wrong : Result Placed Fault)
    → T (not (eqb (told place_number (placed_meaning wrong)) (told place_number (placed 5 bytes numbers i)))) → PlaceShut numbers bytes i wrong
place_wrong numbers bytes i wrong t κs a x s w p = differ (told place_number) t (rw (w.0, w.1, w.2, w.3, w.4) at p)

abbrev three : List ℕ
three = 0 ∷ 1 ∷ 2 ∷ 2 ∷ 2 ∷ 0 ∷ 2 ∷ 4 ∷ 1 ∷ []

-- the position itself (unedited); the byte of a replacement counted in its edit, not among all (own); the dump behind an edit from its start
-- (start); a byte past the result (past); Overlap before Range (order), Range for the position before Overlap (position); edits that touch
-- refused (touching); refused without edits (none)
record PlaceShuts : Type 0 where
  unedited : PlaceShut three 3 2 (Ok (place_of.Dump 2))
  own : PlaceShut three 3 3 (Ok (place_of.Bytes 0))
  start : PlaceShut three 3 4 (Ok (place_of.Dump 2))
  past : PlaceShut three 3 5 (Ok (place_of.Dump 5))
  order : PlaceShut (2 ∷ 4 ∷ 0 ∷ 0 ∷ 6 ∷ 0 ∷ []) 0 0 (Err (fault refusal.Overlap))
  position : PlaceShut (2 ∷ 4 ∷ 0 ∷ 0 ∷ 1 ∷ 0 ∷ []) 0 9 (Err (fault refusal.Range))
  touching : PlaceShut (0 ∷ 1 ∷ 0 ∷ 1 ∷ 3 ∷ 0 ∷ []) 0 0 (Err (fault refusal.Overlap))
  none : PlaceShut [] 0 4 (Err (fault refusal.Range))

place_shuts : PlaceShuts
unfolding placed list_check run_from ump.edits_from
place_shuts =
    record {
      unedited = place_wrong _ _ _ _ tt;
      own = place_wrong _ _ _ _ tt;
      start = place_wrong _ _ _ _ tt;
      past = place_wrong _ _ _ _ tt;
      order = place_wrong _ _ _ _ tt;
      position = place_wrong _ _ _ _ tt;
      touching = place_wrong _ _ _ _ tt;
      none = place_wrong _ _ _ _ tt;
    }
