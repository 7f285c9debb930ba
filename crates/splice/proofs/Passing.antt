-- The passes over a list of edits: none writes over what it has yet to read. Assumes nothing.
use mathlib.Core.Path.{◌≡◌, refl, ◌∙◌}
use mathlib.Core.Bool.{Bool, true, false, cond}
use mathlib.Core.List.{List, [], ◌∷◌}
use Prim.Native.Nat.{ℕ, zero, suc, ◌+◌, ◌-◌, ◌*◌, ◌/◌, ◌≤◌, ◌<◌, min}
use native.Mathlib.Nat.{add-zero, zero-add}
use native.Mathlib.Omega.{arith}
use lib.ListN.{length}
use Rattle.ump.specs.Limits.{most_words, most_bytes}
use Rattle.ump.specs.Packet.{sysex8}
use Rattle.ump.specs.Packing.{packets_for}
use Rattle.ump.specs.Edits.{Edit, Apart, replaced, edit_in, edits_from, edits_of, patches_of, lengths, per_edit}
use Rattle.ump.proofs.Sizes.{packets_are}
use Rattle.ump.proofs.Limits.{fitting_carried}
use Rattle.ump.proofs.First.{Side, under, over, side}
use Rattle.merge.specs.Pass.{width, step_of, merged, begin_of, Ahead, Turns}
use Rattle.splice.specs.Merging.{Within, less_after, widths, Summed, Lists}
use Rattle.merge.proofs.Turning.{begin, begin_is, turns_inside, length_all}
use Rattle.splice.proofs.Lists.{Ordered, ordered, widths_inside, one_pass, two_passes, length-replaced}

-- ---- three kinds of pass

-- all edits; those that do not grow the payload; those that grow it, where the others are done
data Pass : Bool → Bool → Type 0 where
  all : Pass false true
  shrinking : Pass false false
  growing : Pass true true

-- bytes that stand where an edit is, before a pass and after it
abbrev old : Bool → Edit → ℕ
old shrunk edit = cond shrunk (min (width edit) edit.length) (width edit)

abbrev new : Bool → Edit → ℕ
new grow edit = cond grow edit.length (min (width edit) edit.length)

abbrev Steps : Bool → Bool → ℕ → Edit → Type 0
Steps shrunk grow end edit =
    let step = step_of shrunk grow end edit in
    (step.kept + step.out ≡ edit.from - end + old shrunk edit) × (step.kept + step.put ≡ edit.from - end + new grow edit)

steps : {shrunk grow : Bool} → Pass shrunk grow → (end : ℕ) (edit : Edit) → Side (width edit) edit.length → Steps shrunk grow end edit
unfolding step_of
steps all end edit (under h e) = rw e (omega arith, omega arith)
steps all end edit (over h e) = rw e (omega arith, omega arith)
steps shrinking end edit (under h e) = rw e (omega arith, omega arith)
steps shrinking end edit (over h e) = rw e (omega arith, omega arith)
steps growing end edit (under h e) = rw e (omega arith, omega arith)
steps growing end edit (over h e) = rw e (omega arith, omega arith)

abbrev sum : (Edit → ℕ) → List Edit → ℕ
sum value [] = 0
sum value (edit ∷ edits) = value edit + sum value edits

ordered_begin : (n size : ℕ) (value : Edit → ℕ) (edits : List Edit) → Ordered n 0 edits → n + sum value edits ≡ size + widths edits
    → Ordered n (begin edits size) edits
unfolding widths
ordered_begin n size value [] o e = omega arith
ordered_begin n size value (edit ∷ edits) o e = (omega arith, o.1)

sum_le : (small large : Edit → ℕ) (edits : List Edit) → ((edit : Edit) → small edit ≤ large edit) → sum small edits ≤ sum large edits
sum_le small large [] h = omega arith
sum_le small large (edit ∷ edits) h = omega (arith, h edit, sum_le small large edits h)

sum_width : (edits : List Edit) → sum (old false) edits ≡ widths edits
unfolding widths
sum_width [] = refl
sum_width (edit ∷ edits) = omega (arith, sum_width edits)

sum-length : (edits : List Edit) → sum (new true) edits ≡ lengths edits
sum-length [] = refl
sum-length (edit ∷ edits) = omega (arith, sum-length edits)

less_is : (n : ℕ) (edits : List Edit) → widths edits ≤ n → less_after n edits + widths edits ≡ n + sum (new false) edits
unfolding widths less_after
less_is n [] h = refl
less_is n (edit ∷ edits) h = omega (arith, less_is (n - (width edit - edit.length)) edits (omega arith))

-- a pass over edits in order can go on, if what holds where it stands keeps it behind what is yet to be read, and holds after each edit
module _ {shrunk grow : Bool} (pass : Pass shrunk grow) (n size lag total given : ℕ) (Holds : ℕ → ℕ → List Edit → Type 0)
    (behind : (at m : ℕ) (edits : List Edit) → Holds at m edits → Ahead size lag at m)
    (next : (at m gap at' m' : ℕ) (edit : Edit) (edits : List Edit) → Holds at m (edit ∷ edits) → at' ≡ at + gap + old shrunk edit
    → m' ≡ m + gap + new grow edit → Holds at' m' edits) where
  turns : (end at m start : ℕ) (edits : List Edit) → Ordered n end edits → Holds at m edits
      → at + (n - end) + sum (old shrunk) edits ≡ size + widths edits → m + (n - end) + sum (new grow) edits ≡ total + widths edits
      → start + lengths edits ≤ given → lengths edits ≤ most_bytes → Turns shrunk grow size lag total given end at m start edits
  unfolding Turns widths
  turns end at m start [] o h r w g l = (omega arith, (omega arith, behind at m [] h))
  turns end at m start (edit ∷ edits) o h r w g l =
      let step = step_of shrunk grow end edit in
      let s = steps pass end edit (side (width edit) edit.length) in
      let inside = widths_inside n edit.to edits o.1.1 in
      let on =
      turns edit.to (at + step.kept + step.out) (m + step.kept + step.put) (start + edit.length) edits o.1.1
      (next at m (edit.from - end) _ _ edit edits h (omega arith) (omega arith))
      (omega (arith, o.0, o.1.0))
      (omega (arith, o.0, o.1.0))
      (omega arith)
      (omega arith)
      in
      ((o.0, (o.1.0, (omega arith, ((turns_inside edits on).read, (omega arith, behind at m (edit ∷ edits) h))))), on)

  -- it can begin at the first edit
  from_begin : (numbers : List ℕ) → Ordered n 0 (edits_of numbers) → ((b : ℕ) → Holds b b (edits_of numbers))
      → n + sum (old shrunk) (edits_of numbers) ≡ size + widths (edits_of numbers) → n + sum (new grow) (edits_of numbers) ≡ total + widths (edits_of numbers)
      → lengths (edits_of numbers) ≤ given → lengths (edits_of numbers) ≤ most_bytes
      → let b = begin_of numbers size in Turns shrunk grow size lag total given b b b 0 (edits_of numbers)
  from_begin numbers o h r w g l =
      rw (begin_is numbers size)
      (let b = begin (edits_of numbers) size in
      let o' = ordered_begin n size (old shrunk) (edits_of numbers) o r in
      let inside = widths_inside n b (edits_of numbers) o' in
      turns b b b 0 (edits_of numbers) o' (h b) (omega arith) (omega arith) (omega arith) l)

-- ---- a list of edits that can be done

-- what a payload gains stands in the packets that it gains and in the last one that it had
lag_packets : (less total : ℕ) → 0 < less → total ≤ less + (13 * (packets_for sysex8 total - packets_for sysex8 less) + 12)
lag_packets less total h = omega (arith, packets_are sysex8 less, packets_are sysex8 total)

-- the payload never outgrows its room, where the first edits are passed
record Growing (room at m : ℕ) (edits : List Edit) : Type 0 where
  added : ℕ
  removed : ℕ
  same : m + removed ≡ at + added
  here : added ≤ removed + room
  within : Within room added removed edits

growing_next : (room at m gap at' m' : ℕ) (edit : Edit) (edits : List Edit) → Growing room at m (edit ∷ edits) → at' ≡ at + gap + width edit
    → m' ≡ m + gap + edit.length → Growing room at' m' edits
unfolding Within
growing_next room at m gap at' m' edit edits g r w =
    record {
      added = g.added + edit.length;
      removed = g.removed + width edit;
      same = omega (arith, g.same);
      here = g.within.0;
      within = g.within.1;
    }

forward_from : (n end : ℕ) (numbers : List ℕ) (i count : ℕ) → Ordered n end (edits_from numbers i count) → (k : ℕ) → k < count
    → (edit_in numbers (i + k)).from ≤ (edit_in numbers (i + k)).to
unfolding edits_from
forward_from n end numbers i zero o k h = absurd (omega arith)
forward_from n end numbers i (suc count) o zero h = rw add-zero o.1.0
forward_from n end numbers i (suc count) o (suc k) h =
    let q : i + suc k ≡ suc i + k = omega arith in
    rw q (forward_from n (edit_in numbers i).to numbers (suc i) count o.1.1 k (omega arith))

module _ {words : List ℕ} {head size total : ℕ} {numbers bytes source : List ℕ} (l : Lists words head size total numbers bytes source) where
  abbrev edits : List Edit
  edits = edits_of numbers

  abbrev less : ℕ
  less = less_after size edits

  apart : Apart (patches_of edits bytes) (length source)
  apart = rw l.sized at l.apart

  order : Ordered (length source) 0 edits
  order = ordered (length source) edits bytes apart

  -- all ranges are replaced in one pass, and in two
  pub all_merged : merged false true 0 edits source bytes ≡ replaced source (patches_of edits bytes)
  all_merged = one_pass edits source bytes order

  pub two-merged : merged true true 0 edits (merged false false 0 edits source bytes) bytes ≡ replaced source (patches_of edits bytes)
  two-merged = two_passes (length source) 0 edits source bytes order (omega arith) (omega (arith, l.given)) ∙ all_merged

  -- how much is put in and taken out
  sized : total + widths edits ≡ size + lengths edits
  sized = omega (arith, l.sized, l.result, length-replaced edits source bytes apart (omega (arith, l.given)))

  out_le : widths edits ≤ size
  out_le = omega (arith, l.sized, widths_inside (length source) 0 edits order)

  size_le : size ≤ most_bytes
  size_le = fitting_carried sysex8 size most_words (omega (arith, l.held, l.small))

  total_le : total ≤ most_bytes
  total_le = fitting_carried sysex8 total most_words (omega (arith, l.needed, l.small))

  pub summed : Summed numbers
  summed =
      record {
        forward = λ i h. rw (zero-add i) at (forward_from (length source) 0 numbers 0 (length numbers / per_edit) order i h);
        out = omega (arith, out_le, size_le);
        put = omega (arith, out_le, total_le, sized);
      }

  -- the size after the edits that do not grow the payload
  less_sized : less + widths edits ≡ size + sum (new false) edits
  less_sized = less_is size edits out_le

  pub less_size : less ≤ size
  less_size = omega (arith, less_sized, sum_width edits, sum_le (new false) (old false) edits (λ edit. omega arith))

  pub less_total : less ≤ total
  less_total = omega (arith, less_sized, sized, sum-length edits, sum_le (new false) (new true) edits (λ edit. omega arith))

  -- each pass can begin
  pub turns_all : let lag = packets_for sysex8 total - packets_for sysex8 size in
      let b = begin_of numbers size in
      Within (13 * lag + 12) 0 0 edits → Turns false true size lag total (length bytes) b b b 0 edits
  turns_all w =
      let room = 13 * (packets_for sysex8 total - packets_for sysex8 size) + 12 in
      from_begin all (length source) size (packets_for sysex8 total - packets_for sysex8 size) total (length bytes) (Growing room)
      (λ at m rest h k. omega (arith, h.same, h.here))
      (growing_next room)
      numbers order
      (λ b. record { added = 0; removed = 0; same = refl; here = omega arith; within = w })
      (omega (arith, l.sized, sum_width edits))
      (omega (arith, l.sized, sized, sum-length edits))
      (omega (arith, l.given)) summed.put

  pub turns_shrink : let b = begin_of numbers size in Turns false false size (packets_for sysex8 less - packets_for sysex8 size) less (length bytes) b b b 0 edits
  turns_shrink =
      from_begin shrinking (length source) size (packets_for sysex8 less - packets_for sysex8 size) less (length bytes) (λ at m rest. m ≤ at)
      (λ at m rest h k. omega arith)
      (λ at m gap at' m' edit rest h r w. omega arith)
      numbers order
      (λ b. omega arith)
      (omega (arith, l.sized, sum_width edits))
      (omega (arith, l.sized, less_sized))
      (omega (arith, l.given)) summed.put

  pub turns_grow : let b = begin_of numbers less in Turns true true less (packets_for sysex8 total - packets_for sysex8 less) total (length bytes) b b b 0 edits
  turns_grow =
      let room = 13 * (packets_for sysex8 total - packets_for sysex8 less) + 12 in
      from_begin growing (length source) less (packets_for sysex8 total - packets_for sysex8 less) total (length bytes)
      (λ at m rest. 0 < less → m + sum (new true) rest ≤ at + sum (old true) rest + room)
      (λ at m rest h k. omega (arith, h (omega arith), sum_le (old true) (new true) rest (λ edit. omega arith)))
      (λ at m gap at' m' edit rest h r w k. omega (arith, h k))
      numbers order
      (λ b k. omega (arith, less_sized, sized, sum-length edits, lag_packets less total k))
      (omega (arith, l.sized, less_sized))
      (omega (arith, l.sized, sized, sum-length edits))
      (omega (arith, l.given)) summed.put

  pub length_less : length (merged false false 0 edits source bytes) ≡ less
  length_less = length_all false false size (packets_for sysex8 less - packets_for sysex8 size) less numbers source bytes turns_shrink l.sized
