-- What is known where a splice or a packing is done. Assumes nothing.
use mathlib.Core.Path.{◌≡◌, ap}
use mathlib.Core.Bool.{◌||◌}
use mathlib.Core.List.{List}
use Prim.Native.Nat.{ℕ, ◌-◌, ◌≤◌}
use lib.Dec.{ltb}
use lib.ListN.{length}
use borrow.Author.Tests.{ltb-false}
use Rattle.refusal.specs.Answer.{gives, pass, ◌▷◌, guard}
use Rattle.refusal.proofs.Laws.{guard_passed, pass_both, writes_given}
use Rattle.ump.specs.Packet.{Shape}
use Rattle.ump.specs.Packing.{words_for}
use Rattle.ump.specs.Check.{check, payload_of}
use Rattle.ump.specs.Splice.{spliced, rewritten, growth_by, Spliced, splice, repack}
use Rattle.ump.proofs.Checks.{passes_valid, or_left, or_right}
use Rattle.ump.proofs.Message.{packing_has_room}

-- in range and with room, and the message written is the fewest-packet form of the new payload
pub record Known (shape : Shape) (words : List ℕ) (len from to : ℕ) (bytes : List ℕ) (change : Spliced) (left : List ℕ) : Type 0 where
  pub passes : check shape words len ≡ pass
  pub forward : from ≤ to
  pub inside : to ≤ length (payload_of shape words len)
  pub room : words_for shape (length (spliced (payload_of shape words len) from to bytes)) ≤ length words
  pub length_is : words_for shape (length (spliced (payload_of shape words len) from to bytes)) ≡ change.length
  pub left_is : rewritten shape words len (spliced (payload_of shape words len) from to bytes) ≡ left

pub known : (shape : Shape) (words : List ℕ) (len from to : ℕ) (bytes : List ℕ) (change : Spliced) (left : List ℕ)
    → splice shape words len from to bytes ≡ (gives change, left) → Known shape words len from to bytes change left
unfolding splice
known shape words len from to bytes change left e =
    let old = payload_of shape words len in
    let new = spliced old from to bytes in
    let w =
    writes_given
    (check shape words len
    ▷ guard (ltb to from || ltb (length old) to) 13 0
    ▷ guard (ltb (length words) (words_for shape (length new))) 14 0)
    words (rewritten shape words len new) (record { length = words_for shape (length new); growth = growth_by (length bytes) (to - from) }) e
    in
    let last = guard (ltb (length words) (words_for shape (length new))) 14 0 in
    let outside = guard (ltb to from || ltb (length old) to) 13 0 in
    let a = pass_both (check shape words len) (outside ▷ last) w.0 in
    let b = pass_both outside last a.1 in
    let range = guard_passed (ltb to from || ltb (length old) to) 13 0 b.0 in
    record {
      passes = a.0;
      forward = ltb-false to from (or_left (ltb to from) (ltb (length old) to) range);
      inside = ltb-false (length old) to (or_right (ltb to from) (ltb (length old) to) range);
      room = ltb-false (length words) (words_for shape (length new)) (guard_passed (ltb (length words) (words_for shape (length new))) 14 0 b.1);
      length_is = ap (λ (x : Spliced). x.length) w.1;
      left_is = w.2;
    }

-- a message packed: the fewest-packet form of its own payload
pub record Packing (shape : Shape) (words : List ℕ) (len new : ℕ) (left : List ℕ) : Type 0 where
  pub passes : check shape words len ≡ pass
  pub room : words_for shape (length (payload_of shape words len)) ≤ length words
  pub length_is : words_for shape (length (payload_of shape words len)) ≡ new
  pub left_is : rewritten shape words len (payload_of shape words len) ≡ left

pub packed : (shape : Shape) (words : List ℕ) (len new : ℕ) (left : List ℕ) → repack shape words len ≡ (gives new, left) → Packing shape words len new left
unfolding repack
packed shape words len new left e =
    let w = writes_given (check shape words len) words (rewritten shape words len (payload_of shape words len)) (words_for shape (length (payload_of shape words len))) e in
    record {
      passes = w.0;
      room = packing_has_room shape words len (passes_valid shape words len w.0);
      length_is = w.1;
      left_is = w.2;
    }
