-- A valid message whose payload bytes are whole octets is a packing by the layout rules, with the filler that it has. Assumes nothing.
use mathlib.Core.Path.{◌≡◌, sym, ap, ap₂, ◌∙◌}
use mathlib.Core.List.{List, [], ◌∷◌, ◌++◌}
use Prim.Native.Nat.{ℕ, ◌+◌, ◌*◌, ◌^◌, ◌≤◌, ◌<◌}
use native.Mathlib.Nat.{le_trans, mul-suc, mul-le-mul_left}
use native.Mathlib.Omega.{arith}
use lib.ListN.{length, get_or, take, drop, length-drop, take-append-drop}
use lib.Seq.{get_or-take, get_or-drop, take-take, drop-drop}
use Rattle.ump.specs.Word.{nibble, octet, octets, words_of, Below}
use Rattle.ump.specs.Packet.{Shape, header, first_word, group_at, count_at, id_at, size_at, packet, payload_at, filler_at}
use Rattle.ump.specs.Packing.{status_for, frame, packs_at, packs_filled, LaidOut}
use Rattle.ump.specs.Check.{Valid}
use Rattle.ump.proofs.Sizes.{words_pos, size_of_count, size_small}
use Rattle.ump.proofs.Words.{octet_fits, words_of_octets, length-octets, below_take, below_drop, below_weaken, map_mod}
use Rattle.ump.proofs.Joined.{joined_cong, joined_chunks}
use Rattle.ump.proofs.Bytes.{length_packet, length-payload_at}
use Rattle.ump.proofs.Splicing.{group_fits, length_id, below_id, below_payload_at}

pub below_octets : (words : List ℕ) → Below 256 (octets words)
unfolding octets
below_octets [] = tt
below_octets (x ∷ words) = (octet_fits x 0, (octet_fits x 1, (octet_fits x 2, (octet_fits x 3, below_octets words))))

-- the first two octets of some words, by the nibbles of the first
octets_head : (words : List ℕ) → 0 < length words
    → octets words ≡ (nibble (get_or words 0 0) 0 * 16 + nibble (get_or words 0 0) 1) ∷ (nibble (get_or words 0 0) 2 * 16 + nibble (get_or words 0 0) 3) ∷ drop 2 (octets words)
unfolding octets
octets_head [] h = absurd (omega arith)
octets_head (x ∷ words) h =
    let a : octet x 0 ≡ nibble x 0 * 16 + nibble x 1 = omega arith in
    let b : octet x 1 ≡ nibble x 2 * 16 + nibble x 3 = omega arith in
    ap₂ (λ (i j : ℕ). i ∷ j ∷ octet x 2 ∷ octet x 3 ∷ octets words) a b

-- the octets behind them begin with the stream id
id_octets : (k : ℕ) (words : List ℕ) → 0 < length words → k ≤ 2 → take k (drop 2 (octets words)) ≡ take k (octet (get_or words 0 0) 2 ∷ octet (get_or words 0 0) 3 ∷ [])
unfolding octets
id_octets k [] h l = absurd (omega arith)
id_octets k (x ∷ words) h l = sym (take-take k 2 (octet x 2 ∷ octet x 3 ∷ octets words) l)

module _ (shape : Shape) (words : List ℕ) (len : ℕ) (v : Valid shape words len) where
  module _ (p : ℕ) (h : p < v.packets) where
    there : shape.words * p + shape.words ≤ length words
    there = le_trans (rw (mul-suc, ← v.whole) at (mul-le-mul_left shape.words h)) v.inside

    abbrev os : List ℕ
    os = octets (packet shape words p)

    long : length os ≡ 4 * shape.words
    long = rw (length-octets (packet shape words p), length_packet shape words p there)

    some : 0 < length (packet shape words p)
    some = rw (length_packet shape words p there) (words_pos shape)

    head_is : get_or (packet shape words p) 0 0 ≡ first_word shape words p
    head_is =
        let e : shape.words * p + 0 ≡ shape.words * p = omega arith in
        get_or-take shape.words (drop (shape.words * p) words) 0 0 (words_pos shape)
        ∙ get_or-drop (shape.words * p) words 0 0
        ∙ ap (λ (k : ℕ). get_or words k 0) e

    count_is : count_at shape words p ≡ length (payload_at shape words p) + shape.bias
    count_is =
        omega (
          arith,
          length-payload_at shape words p there,
          size_of_count shape (count_at shape words p) (v.counts p h).1,
          (v.counts p h).0,
        )

    filled : length (payload_at shape words p) + length (filler_at shape words p) ≡ shape.room
    unfolding filler_at
    filled =
        omega (
          arith,
          length-payload_at shape words p there,
          length-drop (header shape + size_at shape words p) os,
          long,
          shape.full,
          size_small shape (count_at shape words p),
        )

    module _ (wide : shape.limit ≡ 256) where
      bytes_are : take (size_at shape words p) (drop (header shape) os) ≡ payload_at shape words p
      unfolding payload_at
      bytes_are =
          let bytes : List ℕ = take (size_at shape words p) (drop (header shape) os) in
          let below : Below 256 bytes = below_take 256 (size_at shape words p) (drop (header shape) os) (below_drop 256 (header shape) os (below_octets (packet shape words p))) in
          sym (map_mod shape.limit bytes (below_weaken 256 shape.limit bytes (omega arith) below))

      behind_id : drop (header shape) os ≡ payload_at shape words p ++ filler_at shape words p
      unfolding filler_at
      behind_id =
          sym (take-append-drop (size_at shape words p) (drop (header shape) os))
          ∙ ap₂ (λ (a b : List ℕ). a ++ b) bytes_are (drop-drop (size_at shape words p) (header shape) os)

      behind_two : drop 2 os ≡ id_at shape words 0 ++ (payload_at shape words p ++ filler_at shape words p)
      behind_two =
          let id : take shape.ids (drop 2 os) ≡ id_at shape words 0 = id_octets shape.ids (packet shape words p) some shape.ids_fit ∙ rw head_is (v.one_id p h) in
          sym (take-append-drop shape.ids (drop 2 os)) ∙ ap₂ (λ (a b : List ℕ). a ++ b) id (drop-drop shape.ids 2 os ∙ behind_id)

      framed : os ≡ frame shape (status_for v.packets p) (group_at shape words 0) (id_at shape words 0) (payload_at shape words p) (filler_at shape words p)
      unfolding frame
      framed =
          octets_head (packet shape words p) some
          ∙ rw (head_is, v.types p h, v.groups p h, v.statuses p h, count_is, behind_two)

      -- a packet is what its fields, its payload and its filler make
      packet_is : Below (2 ^ 32) words
          → packet shape words p ≡ packs_at shape (group_at shape words 0) (id_at shape words 0) v.packets (payload_at shape words) (filler_at shape words) p
      unfolding packs_at
      packet_is b =
          sym
          (words_of_octets (packet shape words p)
          (below_take (2 ^ 32) shape.words (drop (shape.words * p) words) (below_drop (2 ^ 32) (shape.words * p) words b)))
          ∙ ap words_of framed

  pub valid_laid_out : LaidOut shape (group_at shape words 0) (id_at shape words 0) v.packets (payload_at shape words) (filler_at shape words)
  unfolding filler_at
  valid_laid_out =
      record {
        group_fits = group_fits shape words 0;
        id_is_long = length_id shape words 0;
        id_fits = below_id shape words 0;
        some_packet = v.some_packet;
        filled = filled;
        bytes_fit = λ p h. below_payload_at shape words p;
        filler_fits = λ p h. below_drop 256 (header shape + size_at shape words p) (octets (packet shape words p)) (below_octets (packet shape words p));
      }

  pub valid_packs : shape.limit ≡ 256 → Below (2 ^ 32) words
      → take len words ≡ packs_filled shape (group_at shape words 0) (id_at shape words 0) v.packets (payload_at shape words) (filler_at shape words)
  valid_packs wide b =
      ap (λ (k : ℕ). take k words) v.whole
      ∙ sym (joined_chunks words shape.words v.packets)
      ∙ joined_cong (packet shape words) _ v.packets (λ p h. packet_is p h wide b)
