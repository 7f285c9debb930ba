-- Where a byte or an octet comes from: the walk over the edits for a byte of the result, an octet of the message, and the calls case by
-- case.
-- Assumes nothing.
use mathlib.Core.Path.{◌≡◌, refl, sym, ap, ap₂, ◌∙◌}
use mathlib.Core.Bool.{false}
use mathlib.Core.List.{List, [], ◌∷◌}
use Rattle.std.specs.Prelude.{None, Some}
use Prim.Native.Nat.{ℕ, zero, suc, ◌+◌, ◌-◌, ◌*◌, ◌/◌, ◌%◌, ◌≤◌, ◌<◌}
use native.Mathlib.Numerals.{add-one}
use native.Mathlib.Omega.{arith}
use lib.ListN.{length, take, drop}
use lib.Seq.{drop-drop, take-nil, drop-nil}
use borrow.Author.Tests.{lt-ltb, le-ltb}
use Rattle.refusal.specs.Answer.{gives, refused, pass}
use Rattle.ump.specs.Packet.{sysex8}
use Rattle.ump.specs.Packing.{words_for}
use Rattle.ump.specs.Check.{payload_of}
use Rattle.ump.specs.Edits.{Edit, replaced, per_edit, edit_in, edits_of, patches_of, lengths, some_bad, some_overlap, all_checks}
use Rattle.ump.specs.Runs.{Run, of_dump, of_edit, past, run_from, run_at}
use Rattle.ump.specs.Origin.{header_octet, carried, dump_byte, edit_byte, filler, zeroed, untouched, beginning, origin_of, origin_in, origin}
use Rattle.ump.proofs.Asking.{asked_past, asked-lent}
use Rattle.ump.proofs.Runs.{run_tail, run_past, run_gap, run_within, run_later}
use Rattle.merge.proofs.Turning.{rest, rest_all, rest_end, rest_step}
use Rattle.edit.specs.Listed.{list_check}
use Rattle.edit.specs.Placed.{in_dump, in_bytes, place_of, placed, BeginsAt}
use Rattle.edit.specs.declared.origins.EditByte.{EditByte}
use Rattle.edit.specs.declared.placing.Standing.TheVariants as standing
use Rattle.edit.proofs.Lists.{rest_here, lengths_on, Ranges, ranges_all, ranges_on}

-- the edits before edit i, and those from it on
behind : (numbers : List ℕ) (i : ℕ) → i ≤ length numbers / per_edit → drop i (edits_of numbers) ≡ rest numbers i
behind numbers zero h = rest_all numbers
behind numbers (suc i) h =
    ap (λ (k : ℕ). drop k (edits_of numbers)) (sym (add-one i))
    ∙ sym (drop-drop 1 i (edits_of numbers))
    ∙ ap (drop 1) (behind numbers i (omega arith) ∙ rest_step numbers i h)
    ∙ ap (rest numbers) (add-one i)

lengths_split : (edits : List Edit) (i : ℕ) → lengths (take i edits) + lengths (drop i edits) ≡ lengths edits
lengths_split [] i = rw (take-nil i, drop-nil i)
lengths_split (edit ∷ edits) zero = omega arith
lengths_split (edit ∷ edits) (suc i) = omega (arith, lengths_split edits i)

-- the walk for byte i of a payload of n bytes has come to edit `index`: the edit before it ends at `end`, behind that the byte stands at
-- `left`, and the bytes of the next edit begin at `start`
pub record Walk (numbers : List ℕ) (n i end start left index : ℕ) : Type 0 where
  pub ranges : Ranges numbers n end index
  pub same : run_at n (edits_of numbers) i ≡ run_from n end index (rest numbers index) left
  pub lent : start + lengths (rest numbers index) ≡ lengths (edits_of numbers)

pub walk_all : (numbers : List ℕ) (n i : ℕ) → some_bad n (edits_of numbers) ≡ false → some_overlap 0 (edits_of numbers) ≡ false → Walk numbers n i 0 0 i 0
walk_all numbers n i g o =
    record {
      ranges = ranges_all numbers n g o;
      same = ap (λ (es : List Edit). run_from n 0 0 es i) (rest_all numbers);
      lent = omega (arith, ap lengths (rest_all numbers));
    }

module _ {numbers : List ℕ} {n i end start left index : ℕ} (w : Walk numbers n i end start left index) where
  module _ {e : Edit} (h : index < length numbers / per_edit) (q : e ≡ edit_in numbers index) where
    step : run_at n (edits_of numbers) i ≡ run_from n end index (e ∷ rest numbers (index + 1)) left
    step = rw (rest_here numbers index h q) at w.same

    pub walk-lent : start + e.length ≤ lengths (edits_of numbers)
    walk-lent = omega (arith, w.lent, lengths_on numbers index h q)

    pub walk-gap : left < e.from - end → BeginsAt n (edits_of numbers) i (Some (standing.Dump (end + left)))
    walk-gap l = ap beginning (step ∙ run_gap n end index left e (rest numbers (index + 1)) l)

    module _ (g : e.from - end ≤ left) where
      pub walk_here : left - (e.from - end) < e.length
          → BeginsAt n (edits_of numbers) i
          (Some (standing.Edit (record { edit = index; byte = left - (e.from - end) }) (start + (left - (e.from - end)))))
      walk_here l = (
        ap beginning (step ∙ run_within n end index left e (rest numbers (index + 1)) g l),
        omega (arith, w.lent, lengths_split (edits_of numbers) index, ap lengths (behind numbers index w.ranges.within)),
      )

      pub walk_on : e.length ≤ left - (e.from - end) → Walk numbers n i e.to (start + e.length) (left - (e.from - end) - e.length) (index + 1)
      walk_on l =
          record {
            ranges = ranges_on w.ranges h q;
            same =
                step
                ∙ run_later n end index left e (rest numbers (index + 1)) g l
                ∙ ap (λ (k : ℕ). run_from n e.to k (rest numbers (index + 1)) (left - (e.from - end) - e.length)) (sym (add-one index));
            lent = omega (arith, w.lent, lengths_on numbers index h q);
          }

  module _ (h : length numbers / per_edit ≤ index) where
    last : run_at n (edits_of numbers) i ≡ run_from n end index [] left
    last = w.same ∙ ap (λ (es : List Edit). run_from n end index es left) (rest_end numbers index h)

    pub walk_tail : left < n - end → BeginsAt n (edits_of numbers) i (Some (standing.Dump (end + left)))
    walk_tail l = ap beginning (last ∙ run_tail n end index left l)

    pub walk_past : n - end ≤ left → BeginsAt n (edits_of numbers) i None
    walk_past l = ap beginning (last ∙ run_past n end index left l)

-- ---- where a byte stands, as a call

module _ (edits : List Edit) where
  place_dump : (run : Run) {at : ℕ} → beginning run ≡ carried (dump_byte at) → gives (in_dump at) ≡ place_of edits run
  place_dump (of_dump k start end) e = ap (λ (n : ℕ). gives (in_dump n)) cc
  place_dump (of_edit k start end) e = let z : ◌≡◌ {A = ℕ} 0 1 = cc in absurd (omega arith)
  place_dump past e = let z : ◌≡◌ {A = ℕ} 0 1 = cc in absurd (omega arith)

  place_edit : (run : Run) {k j at : ℕ} → beginning run ≡ carried (edit_byte k j) → at ≡ lengths (take k edits) + j → gives (in_bytes at) ≡ place_of edits run
  place_edit (of_dump k start end) e a = let z : ◌≡◌ {A = ℕ} 0 1 = cc in absurd (omega arith)
  place_edit (of_edit m start end) {k} {j} e a =
      let same : k ≡ m = cc in
      let byte : j ≡ start = cc in
      ap (λ (n : ℕ). gives (in_bytes n)) (a ∙ ap₂ (λ (x y : ℕ). lengths (take x edits) + y) same byte)
  place_edit past e a = let z : ◌≡◌ {A = ℕ} 0 1 = cc in absurd (omega arith)

  place_past : (run : Run) → beginning run ≡ filler → refused 13 0 ≡ place_of edits run
  place_past (of_dump k start end) e = let z : ◌≡◌ {A = ℕ} 0 1 = cc in absurd (omega arith)
  place_past (of_edit k start end) e = let z : ◌≡◌ {A = ℕ} 0 1 = cc in absurd (omega arith)
  place_past past e = refl

pub placed_refused : (n bytes : ℕ) (numbers : List ℕ) (i : ℕ) {number place : ℕ} → refused number place ≡ list_check n bytes numbers → refused number place ≡ placed n bytes numbers i
unfolding placed
placed_refused n bytes numbers i e = rw (← e)

module _ (n bytes : ℕ) (numbers : List ℕ) (i : ℕ) (passed : list_check n bytes numbers ≡ pass) where
  placed_is : place_of (edits_of numbers) (run_at n (edits_of numbers) i) ≡ placed n bytes numbers i
  unfolding placed
  placed_is = rw passed

  pub placed_dump : {at : ℕ} → BeginsAt n (edits_of numbers) i (Some (standing.Dump at)) → gives (in_dump at) ≡ placed n bytes numbers i
  placed_dump s = place_dump (edits_of numbers) (run_at n (edits_of numbers) i) s ∙ placed_is

  pub placed_edit : {place : EditByte} {at : ℕ} → BeginsAt n (edits_of numbers) i (Some (standing.Edit place at)) → gives (in_bytes at) ≡ placed n bytes numbers i
  placed_edit s = place_edit (edits_of numbers) (run_at n (edits_of numbers) i) s.0 s.1 ∙ placed_is

  pub placed_past : BeginsAt n (edits_of numbers) i None → refused 13 0 ≡ placed n bytes numbers i
  placed_past s = place_past (edits_of numbers) (run_at n (edits_of numbers) i) s ∙ placed_is

-- ---- an octet of the message

module _ (n : ℕ) (edits : List Edit) (q : ℕ) where
  pub octet_header : q % 16 < 3 → header_octet (q / 16) (q % 16) ≡ origin_of sysex8 n edits q
  unfolding origin_of
  octet_header h = rw (lt-ltb (q % 16) 3 h)

  pub octet_byte : 3 ≤ q % 16 → beginning (run_at n edits (13 * (q / 16) + (q % 16 - 3))) ≡ origin_of sysex8 n edits q
  unfolding origin_of
  octet_byte h = rw (le-ltb (q % 16) 3 h)

-- ---- the call, part by part of the words lent

module _ (words : List ℕ) (len : ℕ) (numbers bytes : List ℕ) (q : ℕ) (ok : all_checks sysex8 words len numbers bytes ≡ pass) where
  pub origin_behind : length words ≤ q / 4 → refused 13 0 ≡ origin sysex8 words len numbers bytes q
  origin_behind h = asked_past sysex8 words len numbers bytes q ok (omega arith)

  abbrev old : List ℕ
  old = payload_of sysex8 words len

  abbrev new : ℕ
  new = words_for sysex8 (length (replaced old (patches_of (edits_of numbers) bytes)))

  module _ (h : q / 4 < length words) {needed : ℕ} (e : needed ≡ new) where
    origin_lent : gives (origin_in sysex8 (length old) (edits_of numbers) new len q) ≡ origin sysex8 words len numbers bytes q
    origin_lent = asked-lent sysex8 words len numbers bytes q ok (omega arith)

    pub origin_message : {n : ℕ} → n ≡ length old → q / 4 < needed → gives (origin_of sysex8 n (edits_of numbers) q) ≡ origin sysex8 words len numbers bytes q
    unfolding origin_in
    origin_message s a = rw s (rw (lt-ltb q (4 * new) (omega arith)) at origin_lent)

    module _ (a : needed ≤ q / 4) where
      pub origin_zeroed : q / 4 < len → gives zeroed ≡ origin sysex8 words len numbers bytes q
      unfolding origin_in
      origin_zeroed b = rw (le-ltb q (4 * new) (omega arith), lt-ltb q (4 * len) (omega arith)) at origin_lent

      pub origin_untouched : len ≤ q / 4 → gives untouched ≡ origin sysex8 words len numbers bytes q
      unfolding origin_in
      origin_untouched b = rw (le-ltb q (4 * new) (omega arith), le-ltb q (4 * len) (omega arith)) at origin_lent
