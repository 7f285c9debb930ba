-- A packing with any filler, and so the fewest-packet form, is read back as what it was made of. Assumes nothing.
use mathlib.Core.Path.{◌≡◌, refl, sym, ap, ◌∙◌}
use mathlib.Core.List.{List, ◌∷◌, ◌++◌}
use Prim.Native.Nat.{ℕ, ◌+◌, ◌-◌, ◌*◌, ◌≤◌, ◌<◌}
use native.Mathlib.Omega.{arith}
use lib.ListN.{length, get_or, drop, length-append, length-take, length-drop, length-replicate}
use lib.Seq.{take_at, drop_at, take_all, get_or-drop, get_or-take, take-take, drop-drop}
use Rattle.ump.specs.Word.{word, octets, words_of, Below}
use Rattle.ump.specs.Packet.{joined, Shape, header, first_word, type_at, group_at, status_at, count_at, id_at, size_at, packet, payload_at, filler_at, payload}
use Rattle.ump.specs.Packing.{status_for, frame, packs_at, packs_filled, LaidOut, zeros_after, packs, packets_for, words_for, chunk, pack}
use Rattle.ump.proofs.Sizes.{words_pos, limit_fits, size_of_count, packets_pos, packets_enough, status_small}
use Rattle.ump.proofs.Words.{octets_words_of, length-words_of, head-words_of, two, nibble0, nibble1, nibble2, nibble3, octet2, octet3, below_append, below_take, below_drop, below_zeros, below_weaken, below_get_d, map_mod}
use Rattle.ump.proofs.Joined.{joined_cong, length_joined, part_joined, joined_chunks}

-- ---- one packet

pub length-frame : (shape : Shape) (status group : ℕ) (id bytes filler : List ℕ) → length id ≡ shape.ids → length bytes + length filler ≡ shape.room
    → length (frame shape status group id bytes filler) ≡ 4 * shape.words
unfolding frame
length-frame shape status group id bytes filler ht hb = omega (arith, length-append id (bytes ++ filler), length-append bytes filler, shape.full)

pub length-packs_at : (shape : Shape) (group : ℕ) (id : List ℕ) (n : ℕ) (c f : ℕ → List ℕ) → length id ≡ shape.ids → (p : ℕ) → length (c p) + length (f p) ≡ shape.room
    → length (packs_at shape group id n c f p) ≡ shape.words
unfolding packs_at
length-packs_at shape group id n c f ht p hb = length-words_of _ shape.words (length-frame shape (status_for n p) group id (c p) (f p) ht hb)

-- ---- any packing, with any filler

module _ (shape : Shape) (group : ℕ) (id : List ℕ) (n : ℕ) (c f : ℕ → List ℕ) (ht : length id ≡ shape.ids)
    (hb : (p : ℕ) → p < n → length (c p) + length (f p) ≡ shape.room) where
  pub length_packs : length (packs_filled shape group id n c f) ≡ shape.words * n
  length_packs = length_joined (packs_at shape group id n c f) shape.words n (λ p h. length-packs_at shape group id n c f ht p (hb p h))

  pub packet_packs : (rest : List ℕ) (p : ℕ) → p < n → packet shape (packs_filled shape group id n c f ++ rest) p ≡ packs_at shape group id n c f p
  packet_packs rest p hp = part_joined (packs_at shape group id n c f) shape.words n p rest (λ q h. length-packs_at shape group id n c f ht q (hb q h)) hp

module _ (shape : Shape) (group : ℕ) (id : List ℕ) (n : ℕ) (c f : ℕ → List ℕ) (l : LaidOut shape group id n c f) (p : ℕ) (hp : p < n) where
  abbrev tail : List ℕ
  tail = id ++ (c p ++ f p)

  abbrev first : ℕ
  first = shape.type * 16 + group

  abbrev second : ℕ
  second = status_for n p * 16 + (length (c p) + shape.bias)

  abbrev framed : List ℕ
  framed = frame shape (status_for n p) group id (c p) (f p)

  a0 : first < 256
  a0 = omega (arith, shape.type_fits, l.group_fits)

  a1 : second < 256
  a1 = omega (arith, status_small n p, shape.count_fits, l.filled p hp)

  below_tail : Below 256 tail
  below_tail =
      below_append 256 id _ l.id_fits
      (below_append 256 (c p) (f p) (below_weaken shape.limit 256 (c p) (limit_fits shape) (l.bytes_fit p hp)) (l.filler_fits p hp))

  c0 : get_or tail 0 0 < 256
  c0 = below_get_d 256 tail 0 (omega arith) below_tail

  c1 : get_or tail 1 0 < 256
  c1 = below_get_d 256 tail 1 (omega arith) below_tail

  long : 2 ≤ length tail
  long = omega (arith, length-append id (c p ++ f p), length-append (c p) (f p), l.id_is_long, l.filled p hp, shape.full)

  pub octets-frame : octets (words_of framed) ≡ framed
  unfolding frame
  octets-frame = octets_words_of framed shape.words (length-frame shape (status_for n p) group id (c p) (f p) l.id_is_long (l.filled p hp)) (a0, (a1, below_tail))

  frame-body : drop (header shape) framed ≡ c p ++ f p
  unfolding frame
  frame-body = drop_at (first ∷ second ∷ id) (c p ++ f p) (header shape) (omega (arith, l.id_is_long))

  module _ (rest : List ℕ) where
    abbrev m : List ℕ
    m = packs_filled shape group id n c f ++ rest

    octets_packs : octets (packet shape m p) ≡ framed
    unfolding packs_at
    octets_packs = ap octets (packet_packs shape group id n c f l.id_is_long l.filled rest p hp) ∙ octets-frame

    word_packs : first_word shape m p ≡ word first second (get_or tail 0 0) (get_or tail 1 0)
    unfolding packs_at frame
    word_packs =
        let e : shape.words * p + 0 ≡ shape.words * p = omega arith in
        ap (λ (k : ℕ). get_or m k 0) (sym e)
        ∙ sym (get_or-take shape.words (drop (shape.words * p) m) 0 0 (words_pos shape) ∙ get_or-drop (shape.words * p) m 0 0)
        ∙ ap (λ (x : List ℕ). get_or x 0 0) (packet_packs shape group id n c f l.id_is_long l.filled rest p hp)
        ∙ head-words_of first second tail long

    pub type_packs : type_at shape m p ≡ shape.type
    type_packs = rw word_packs (nibble0 _ _ _ _ a0 a1 c0 c1 ∙ omega (arith, l.group_fits))

    pub group_packs : group_at shape m p ≡ group
    group_packs = rw word_packs (nibble1 _ _ _ _ a0 a1 c0 c1 ∙ omega (arith, l.group_fits))

    pub status_packs : status_at shape m p ≡ status_for n p
    status_packs = rw word_packs (nibble2 _ _ _ _ a0 a1 c0 c1 ∙ omega (arith, shape.count_fits, l.filled p hp))

    pub count_packs : count_at shape m p ≡ length (c p) + shape.bias
    count_packs = rw word_packs (nibble3 _ _ _ _ a0 a1 c0 c1 ∙ omega (arith, shape.count_fits, l.filled p hp))

    pub size_packs : size_at shape m p ≡ length (c p)
    size_packs = rw count_packs (size_of_count shape (length (c p) + shape.bias) (omega (arith, l.filled p hp)) ∙ omega arith)

    pub id_packs : id_at shape m p ≡ id
    id_packs =
        rw (word_packs, octet2 _ _ _ _ a0 a1 c0 c1, octet3 _ _ _ _ a0 a1 c0 c1, two tail long, take-take shape.ids 2 tail shape.ids_fit)
        (take_at id (c p ++ f p) shape.ids l.id_is_long)

    payload_at_packs : payload_at shape m p ≡ c p
    unfolding payload_at
    payload_at_packs = rw (size_packs, octets_packs, frame-body, take_at (c p) (f p) (length (c p)) refl) (map_mod shape.limit (c p) (l.bytes_fit p hp))

    -- and is filled up with its filler
    filler_packs : filler_at shape m p ≡ f p
    unfolding filler_at
    filler_packs = rw (size_packs, octets_packs, ← (drop-drop (length (c p)) (header shape) framed), frame-body) (drop_at (c p) (f p) (length (c p)) refl)

pub payload_packs : (shape : Shape) (group : ℕ) (id : List ℕ) (n : ℕ) (c f : ℕ → List ℕ) → LaidOut shape group id n c f → (rest : List ℕ)
    → payload shape (packs_filled shape group id n c f ++ rest) n ≡ joined c n
unfolding payload
payload_packs shape group id n c f l rest = joined_cong _ c n (λ p h. payload_at_packs shape group id n c f l p h rest)

-- ---- the fewest-packet form is one of them

pub length-chunk : (shape : Shape) (bytes : List ℕ) (p : ℕ) → length (chunk shape bytes p) ≤ shape.room
length-chunk shape bytes p = simp (length-take, length-drop) (omega arith)

pub below_chunk : (shape : Shape) (bytes : List ℕ) → Below shape.limit bytes → (p : ℕ) → Below shape.limit (chunk shape bytes p)
below_chunk shape bytes bb p = below_take shape.limit shape.room (drop (shape.room * p) bytes) (below_drop shape.limit (shape.room * p) bytes bb)

pub joined_chunk : (shape : Shape) (bytes : List ℕ) → joined (chunk shape bytes) (packets_for shape (length bytes)) ≡ bytes
joined_chunk shape bytes =
    joined_chunks bytes shape.room (packets_for shape (length bytes))
    ∙ take_all (shape.room * packets_for shape (length bytes)) bytes (packets_enough shape (length bytes))

-- its unused octets are zero
pub chunk_filled : (shape : Shape) (bytes : List ℕ) (p : ℕ) → length (chunk shape bytes p) + length (zeros_after shape (chunk shape bytes) p) ≡ shape.room
chunk_filled shape bytes p =
    omega (arith, length-chunk shape bytes p, length-replicate {A = ℕ} (shape.room - length (chunk shape bytes p)) 0)

pub chunk_laid_out : (shape : Shape) (group : ℕ) (id bytes : List ℕ) → group < 16 → length id ≡ shape.ids → Below 256 id → Below shape.limit bytes
    → LaidOut shape group id (packets_for shape (length bytes)) (chunk shape bytes) (zeros_after shape (chunk shape bytes))
chunk_laid_out shape group id bytes hg ht bt bb =
    record {
      group_fits = hg;
      id_is_long = ht;
      id_fits = bt;
      some_packet = packets_pos shape (length bytes);
      filled = λ p h. chunk_filled shape bytes p;
      bytes_fit = λ p h. below_chunk shape bytes bb p;
      filler_fits = λ p h. below_zeros 256 (shape.room - length (chunk shape bytes p)) (omega arith);
    }

pub length_pack : (shape : Shape) (group : ℕ) (id bytes : List ℕ) → length id ≡ shape.ids → length (pack shape group id bytes) ≡ words_for shape (length bytes)
unfolding pack packs
length_pack shape group id bytes ht =
    length_packs shape group id (packets_for shape (length bytes)) (chunk shape bytes) (zeros_after shape (chunk shape bytes)) ht
    (λ p h. chunk_filled shape bytes p)
