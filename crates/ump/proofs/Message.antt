-- Any packing, and so the fewest-packet form, is a valid message, whatever stands behind it. Assumes nothing.
use mathlib.Core.Path.{◌≡◌, refl, sym, ◌∙◌}
use mathlib.Core.List.{List, ◌++◌}
use Prim.Native.Nat.{ℕ, zero, suc, ◌-◌, ◌*◌, ◌/◌, ◌≤◌, ◌<◌, min}
use native.Mathlib.Nat.{le_trans, mul-suc, mul-div_right, mul-le-mul_left}
use native.Mathlib.Omega.{arith}
use lib.ListN.{length, length-append, length-map, length-take, length-drop}
use Rattle.refusal.specs.Answer.{gives}
use Rattle.ump.specs.Word.{Below}
use Rattle.ump.specs.Packet.{Shape, group_at, count_at, id_at, size_at, payload_at, joined, payload}
use Rattle.ump.specs.Packing.{packs_filled, LaidOut, zeros_after, packs, packets_for, words_for, chunk, pack}
use Rattle.ump.specs.Limits.{most_words}
use Rattle.ump.specs.Check.{payload_of, summary, checked, Valid}
use Rattle.ump.proofs.Sizes.{words_pos, size_small, packets_enough, packets_fewest, packets_least}
use Rattle.ump.proofs.Packing.{length_packs, type_packs, group_packs, status_packs, count_packs, size_packs, id_packs, payload_packs, joined_chunk, chunk_laid_out}
use Rattle.ump.proofs.Checks.{valid_passes}

-- what the check answers of a valid message
pub checked_valid : (shape : Shape) (words : List ℕ) (len : ℕ) → Valid shape words len
    → checked shape words len ≡ gives (summary (group_at shape words 0) (id_at shape words 0) (length (payload_of shape words len)) len)
unfolding checked
checked_valid shape words len v = rw (valid_passes shape words len v)

-- any packing, with any filler, is a valid message that carries its pieces
module _ (shape : Shape) (group : ℕ) (id : List ℕ) (n : ℕ) (c f : ℕ → List ℕ) (l : LaidOut shape group id n c f) (rest : List ℕ) where
  abbrev m : List ℕ
  m = packs_filled shape group id n c f ++ rest

  pub payload_of_packs : payload_of shape m (shape.words * n) ≡ joined c n
  payload_of_packs = rw (mul-div_right n (words_pos shape)) (payload_packs shape group id n c f l rest)

  pub group_of_packs : group_at shape m 0 ≡ group
  group_of_packs = group_packs shape group id n c f l 0 l.some_packet rest

  pub id_of_packs : id_at shape m 0 ≡ id
  id_of_packs = id_packs shape group id n c f l 0 l.some_packet rest

  pub packs_valid : length m ≤ most_words → Valid shape m (shape.words * n)
  packs_valid h =
      record {
        short_enough = h;
        inside = omega (arith, length-append (packs_filled shape group id n c f) rest, length_packs shape group id n c f l.id_is_long l.filled);
        packets = n;
        some_packet = l.some_packet;
        whole = refl;
        types = λ p k. type_packs shape group id n c f l p k rest;
        statuses = λ p k. status_packs shape group id n c f l p k rest;
        counts = λ p k. let e = count_packs shape group id n c f l p k rest in (omega arith, omega (arith, l.filled p k));
        groups = λ p k. group_packs shape group id n c f l p k rest ∙ sym group_of_packs;
        one_id = λ p k. id_packs shape group id n c f l p k rest ∙ sym id_of_packs;
      }

  pub checked_packs : length m ≤ most_words → checked shape m (shape.words * n) ≡ gives (summary group id (length (joined c n)) (shape.words * n))
  checked_packs h = checked_valid shape _ _ (packs_valid h) ∙ rw (group_of_packs, id_of_packs, payload_of_packs)

-- and so is the fewest-packet form
module _ (shape : Shape) (group : ℕ) (id bytes : List ℕ) (hg : group < 16) (ht : length id ≡ shape.ids) (bt : Below 256 id) (bb : Below shape.limit bytes) (rest : List ℕ) where
  abbrev packets : ℕ
  packets = packets_for shape (length bytes)

  laid_out : LaidOut shape group id packets (chunk shape bytes) (zeros_after shape (chunk shape bytes))
  laid_out = chunk_laid_out shape group id bytes hg ht bt bb

  pub payload_of_pack : payload_of shape (pack shape group id bytes ++ rest) (words_for shape (length bytes)) ≡ bytes
  unfolding pack packs
  payload_of_pack = payload_of_packs shape group id packets (chunk shape bytes) _ laid_out rest ∙ joined_chunk shape bytes

  pub group_of_pack : group_at shape (pack shape group id bytes ++ rest) 0 ≡ group
  unfolding pack packs
  group_of_pack = group_of_packs shape group id packets (chunk shape bytes) _ laid_out rest

  pub id_of_pack : id_at shape (pack shape group id bytes ++ rest) 0 ≡ id
  unfolding pack packs
  id_of_pack = id_of_packs shape group id packets (chunk shape bytes) _ laid_out rest

  pub pack_valid : length (pack shape group id bytes ++ rest) ≤ most_words → Valid shape (pack shape group id bytes ++ rest) (words_for shape (length bytes))
  unfolding pack packs
  pack_valid = packs_valid shape group id packets (chunk shape bytes) _ laid_out rest

  pub checked_pack : length (pack shape group id bytes ++ rest) ≤ most_words
      → checked shape (pack shape group id bytes ++ rest) (words_for shape (length bytes))
      ≡ gives (summary group id (length bytes) (words_for shape (length bytes)))
  checked_pack h = checked_valid shape _ _ (pack_valid h) ∙ rw (group_of_pack, id_of_pack, payload_of_pack)

  -- every packet but the last is full, and the last carries what is left
  size_of_pack : (p : ℕ) → p < packets → size_at shape (pack shape group id bytes ++ rest) p ≡ min shape.room (length bytes - shape.room * p)
  unfolding pack packs
  size_of_pack p h = size_packs shape group id packets (chunk shape bytes) _ laid_out p h rest ∙ simp (length-take, length-drop)

  pub full_of_pack : (p : ℕ) → suc p < packets → size_at shape (pack shape group id bytes ++ rest) p ≡ shape.room
  full_of_pack p h = size_of_pack p (omega arith) ∙ omega (arith, packets_fewest shape (length bytes) p h, mul-suc shape.room p)

  pub last_of_pack : (p : ℕ) → suc p ≡ packets → size_at shape (pack shape group id bytes ++ rest) p ≡ length bytes - shape.room * p
  last_of_pack p h = size_of_pack p (omega arith) ∙ omega (arith, rw (← h) at (packets_enough shape (length bytes)), mul-suc shape.room p)

-- ---- the packing of a valid message never needs more words than it has

pub length-payload : (shape : Shape) (words : List ℕ) (n : ℕ) → length (payload shape words n) ≤ shape.room * n
unfolding payload joined payload_at
length-payload shape words zero = omega arith
length-payload shape words (suc n) =
    simp (length-append, length-map, length-take) (omega (arith, length-payload shape words n, size_small shape (count_at shape words n)))

pub packing_fits : (shape : Shape) (words : List ℕ) (len : ℕ) → Valid shape words len → words_for shape (length (payload_of shape words len)) ≤ len
packing_fits shape words len v =
    let q : len / shape.words ≡ v.packets = rw v.whole (mul-div_right v.packets (words_pos shape)) in
    rw (q, v.whole)
    (mul-le-mul_left shape.words
    (packets_least shape (length (payload shape words v.packets)) v.packets v.some_packet (length-payload shape words v.packets)))

-- nor than are lent
pub packing_has_room : (shape : Shape) (words : List ℕ) (len : ℕ) → Valid shape words len → words_for shape (length (payload_of shape words len)) ≤ length words
packing_has_room shape words len v = le_trans (packing_fits shape words len v) v.inside
