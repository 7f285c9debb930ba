-- What is written to a message is the fewest-packet form of its new payload. Assumes nothing.
use mathlib.Core.Path.{◌≡◌, refl, ◌∙◌}
use mathlib.Core.List.{List, [], ◌∷◌}
use Prim.Native.Nat.{ℕ, zero, suc, ◌+◌, ◌-◌, ◌/◌, ◌≤◌, ◌<◌}
use native.Mathlib.Omega.{arith}
use lib.ListN.{length, take, drop, length-append, length-take, length-drop, length-replicate}
use lib.Seq.{take_at}
use borrow.Author.Tests.{le-ltb}
use Rattle.refusal.specs.Answer.{gives}
use Rattle.ump.specs.Word.{octet, octets, Below}
use Rattle.ump.specs.Packet.{Shape, header, first_word, size_at, group_at, id_at, packet, payload_at, joined, payload}
use Rattle.ump.specs.Packing.{words_for, pack}
use Rattle.ump.specs.Splice.{spliced, stored, rewritten, repack, growth_by, splice}
use Rattle.ump.specs.Holds.{Holds, Packed}
use Rattle.ump.proofs.Words.{below_append, below_take, below_drop, below_map}
use Rattle.ump.proofs.Sizes.{limit_pos}
use Rattle.ump.proofs.Packing.{length_pack}
use Rattle.ump.proofs.Checks.{valid_passes}
use Rattle.ump.proofs.Message.{payload_of_pack, group_of_pack, id_of_pack, pack_valid}

-- ---- what is read off a message fits where it is written

pub group_fits : (shape : Shape) (words : List ℕ) (p : ℕ) → group_at shape words p < 16
group_fits shape words p = omega arith

pub length_id : (shape : Shape) (words : List ℕ) (p : ℕ) → length (id_at shape words p) ≡ shape.ids
length_id shape words p = omega (arith, length-take shape.ids (octet (first_word shape words p) 2 ∷ octet (first_word shape words p) 3 ∷ []), shape.ids_fit)

pub below_id : (shape : Shape) (words : List ℕ) (p : ℕ) → Below 256 (id_at shape words p)
below_id shape words p = below_take 256 shape.ids _ (omega arith, (omega arith, tt))

pub below_payload_at : (shape : Shape) (words : List ℕ) (p : ℕ) → Below shape.limit (payload_at shape words p)
unfolding payload_at
below_payload_at shape words p = below_map shape.limit (take (size_at shape words p) (drop (header shape) (octets (packet shape words p)))) (limit_pos shape)

pub below_payload : (shape : Shape) (words : List ℕ) (n : ℕ) → Below shape.limit (payload shape words n)
unfolding payload joined
below_payload shape words zero = tt
below_payload shape words (suc n) = below_append shape.limit (joined (payload_at shape words) n) _ (below_payload shape words n) (below_payload_at shape words n)

-- ---- splicing

pub length-spliced : (p : List ℕ) (from to : ℕ) (r : List ℕ) → from ≤ to → to ≤ length p → length (spliced p from to r) ≡ length p - (to - from) + length r
length-spliced p from to r h k = simp (length-append, length-take, length-drop) (omega arith)

pub below_spliced : (m : ℕ) (p : List ℕ) (from to : ℕ) (r : List ℕ) → Below m p → Below m r → Below m (spliced p from to r)
below_spliced m p from to r h k = below_append m (take from p) _ (below_take m from p h) (below_append m r _ k (below_drop m to p h))

pub length-stored : (words : List ℕ) (len : ℕ) (m : List ℕ) → len ≤ length words → length m ≤ length words → length (stored words len m) ≡ length words
unfolding stored
length-stored words len m h k = simp (length-append, length-replicate, length-drop) (omega arith)

-- ---- a message that is rewritten with other bytes

module _ (shape : Shape) (group : ℕ) (id bytes : List ℕ) (size : ℕ) (words : List ℕ) (len : ℕ) (h : Holds shape group id bytes size words len)
    (new : List ℕ) (bb : Below shape.limit new) (room : words_for shape (length new) ≤ size) where
  abbrev m : List ℕ
  m = pack shape group id new

  hg : group < 16
  hg = rw h.group_is at (group_fits shape words 0)

  ht : length id ≡ shape.ids
  ht = rw h.id_is at (length_id shape words 0)

  bt : Below 256 id
  bt = rw h.id_is at (below_id shape words 0)

  lm : length m ≡ words_for shape (length new)
  lm = length_pack shape group id new ht

  rewritten_is : rewritten shape words len new ≡ stored words len m
  unfolding rewritten
  rewritten_is = rw (h.group_is, h.id_is)

  stored_holds : Holds shape group id new size (stored words len m) (words_for shape (length new))
  unfolding stored
  stored_holds =
      let l : length (stored words len m) ≡ length words = length-stored words len m h.valid.inside (omega (arith, lm, h.buffer)) in
      record {
        valid = pack_valid shape group id new hg ht bt bb _ (omega (arith, l, h.valid.short_enough));
        group_is = group_of_pack shape group id new hg ht bt bb _;
        id_is = id_of_pack shape group id new hg ht bt bb _;
        carries = payload_of_pack shape group id new hg ht bt bb _;
        buffer = l ∙ h.buffer;
      }

  pub rewritten_holds : Holds shape group id new size (rewritten shape words len new) (words_for shape (length new))
  rewritten_holds = rw rewritten_is stored_holds

  pub rewritten_fewest : take (words_for shape (length new)) (rewritten shape words len new) ≡ pack shape group id new
  unfolding stored
  rewritten_fewest = rw rewritten_is (take_at m _ (words_for shape (length new)) lm)

-- ---- packing: never refused, of a valid message

module _ (shape : Shape) (group : ℕ) (id bytes : List ℕ) (size : ℕ) (words : List ℕ) (len : ℕ) (h : Holds shape group id bytes size words len) where
  pub repack_done : repack shape words len ≡ (gives (words_for shape (length bytes)), rewritten shape words len bytes)
  unfolding repack
  repack_done = rw (h.carries, valid_passes shape words len h.valid)

  -- ---- one splice, of a range inside the payload, with room

  module _ (from to : ℕ) (r : List ℕ) (ft : from ≤ to) (tl : to ≤ length bytes) (br : Below shape.limit r)
      (room : words_for shape (length (spliced bytes from to r)) ≤ size) where
    pub splice_done : splice shape words len from to r
        ≡ (gives (record { length = words_for shape (length (spliced bytes from to r)); growth = growth_by (length r) (to - from) }), rewritten shape words len (spliced bytes from to r))
    unfolding splice
    splice_done =
        rw (
          h.carries,
          valid_passes shape words len h.valid,
          le-ltb to from ft,
          le-ltb (length bytes) to tl,
          le-ltb (length words) (words_for shape (length (spliced bytes from to r))) (omega (arith, h.buffer)),
        )

    below_new : Below shape.limit (spliced bytes from to r)
    below_new = below_spliced shape.limit bytes from to r (rw h.carries at (below_payload shape words (len / shape.words))) br

    pub splice_packs : Packed shape group id (spliced bytes from to r) size (splice shape words len from to r)
    splice_packs =
        rw splice_done
        (record {
          grew = growth_by (length r) (to - from);
          accepted = refl;
          holds = rewritten_holds shape group id bytes size words len h (spliced bytes from to r) below_new room;
          fewest = rewritten_fewest shape group id bytes size words len h (spliced bytes from to r) below_new room;
        })
