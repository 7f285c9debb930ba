-- The payload of a message depends on its own words alone, and so does what the check says of it, but for the number of words lent.
-- Assumes nothing.
use mathlib.Core.Path.{◌≡◌, refl, sym, ap, ◌∙◌}
use mathlib.Core.List.{List, ◌++◌}
use Prim.Native.Nat.{ℕ, ◌+◌, ◌*◌, ◌/◌, ◌≤◌, ◌<◌}
use native.Mathlib.Nat.{le_trans, mul-suc, mul-le-mul_left, mul-div-le, mul-zero, mul-pos}
use native.Mathlib.Omega.{arith}
use lib.ListN.{length, get_or, take, drop, length-append}
use lib.Seq.{get_or-take, length-take-le, take_at}
use Rattle.refusal.specs.Answer.{gives, refused, Verdict, pass, ◌▷◌}
use Rattle.ump.specs.Packet.{Shape, first_word, group_at, id_at, packet, payload_at, payload}
use Rattle.ump.specs.Check.{bad_type, bad_status, bad_count, bad_group, bad_id, check_packets, check, payload_of, Summary, summary, checked}
use Rattle.ump.proofs.Fronts.{part_of_front}
use Rattle.ump.proofs.Joined.{joined_cong}
use Rattle.ump.proofs.First.{first_cong}
use Rattle.ump.proofs.Sizes.{words_pos}
use Rattle.ump.proofs.Checks.{passes_valid}

module _ (shape : Shape) (words others : List ℕ) (len : ℕ) (same : take len words ≡ take len others) where
  word_same : (i : ℕ) → i < len → get_or words i 0 ≡ get_or others i 0
  word_same i h = sym (get_or-take len words i 0 h) ∙ ap (λ (l : List ℕ). get_or l i 0) same ∙ get_or-take len others i 0 h

  packet_ends : (p : ℕ) → p < len / shape.words → shape.words * p + shape.words ≤ len
  packet_ends p h = rw mul-suc at (le_trans (mul-le-mul_left shape.words h) (mul-div-le len shape.words))

  first_word_same : (p : ℕ) → p < len / shape.words → first_word shape words p ≡ first_word shape others p
  first_word_same p h = word_same (shape.words * p) (omega (arith, packet_ends p h, words_pos shape))

  packet_same : (p : ℕ) → p < len / shape.words → packet shape words p ≡ packet shape others p
  packet_same p h =
      sym (part_of_front (shape.words * p) shape.words len words (packet_ends p h))
      ∙ ap (λ (l : List ℕ). take shape.words (drop (shape.words * p) l)) same
      ∙ part_of_front (shape.words * p) shape.words len others (packet_ends p h)

  -- ---- the payload

  pub payload_same : payload_of shape words len ≡ payload_of shape others len
  unfolding payload payload_at
  payload_same =
      joined_cong (payload_at shape words) (payload_at shape others) (len / shape.words) (λ p h. rw (first_word_same p h, packet_same p h))

  -- ---- group and stream id of the first packet

  module _ (some : 0 < len) where
    head_same : first_word shape words 0 ≡ first_word shape others 0
    head_same = word_same (shape.words * 0) (rw (mul-zero shape.words) some)

    pub group_same : group_at shape words 0 ≡ group_at shape others 0
    group_same = rw head_same

    pub id_same : id_at shape words 0 ≡ id_at shape others 0
    id_same = rw head_same

  -- ---- the check

  abbrev n : ℕ
  n = len / shape.words

  types : (p : ℕ) → p < n → bad_type shape words p ≡ bad_type shape others p
  unfolding bad_type
  types p h = rw (first_word_same p h)

  statuses : (p : ℕ) → p < n → bad_status shape words n p ≡ bad_status shape others n p
  unfolding bad_status
  statuses p h = rw (first_word_same p h)

  counts : (p : ℕ) → p < n → bad_count shape words p ≡ bad_count shape others p
  unfolding bad_count
  counts p h = rw (first_word_same p h)

  groups : (p : ℕ) → p < n → bad_group shape words p ≡ bad_group shape others p
  unfolding bad_group
  groups p h = rw (first_word_same p h, first_word_same 0 (omega arith))

  ids : (p : ℕ) → p < n → bad_id shape words p ≡ bad_id shape others p
  unfolding bad_id
  ids p h = rw (first_word_same p h, first_word_same 0 (omega arith))

  packets_same : check_packets shape words (len / shape.words) ≡ check_packets shape others (len / shape.words)
  unfolding check_packets
  packets_same =
      rw (
        first_cong (bad_type shape words) (bad_type shape others) n types,
        first_cong (bad_status shape words n) (bad_status shape others n) n statuses,
        first_cong (bad_count shape words) (bad_count shape others) n counts,
        first_cong (bad_group shape words) (bad_group shape others) n groups,
        first_cong (bad_id shape words) (bad_id shape others) n ids,
      )

  module _ (lent : length words ≡ length others) where
    pub check-same : check shape words len ≡ check shape others len
    unfolding check
    check-same = rw (lent, packets_same)

    pub checked_same : checked shape words len ≡ checked shape others len
    unfolding checked
    checked_same = rw (check-same, payload_same) (go (check shape others len) refl)
      where
        answer : List ℕ → Summary
        answer l = summary (group_at shape l 0) (id_at shape l 0) (length (payload_of shape others len)) len

        some : check shape others len ≡ pass → 0 < len
        some e = let v = passes_valid shape others len e in omega (arith, v.whole, mul-pos (words_pos shape) v.some_packet)

        go : (v : Verdict) → check shape others len ≡ v → v ▷ gives (answer words) ≡ v ▷ gives (answer others)
        go (refused number place) e = refl
        go (gives u) e = rw (group_same (some e), id_same (some e))

-- ---- the same message, with other words behind it

module _ (shape : Shape) (words behind : List ℕ) (len : ℕ) (inside : len ≤ length words) where
  front_same : take len (take len words ++ behind) ≡ take len words
  front_same = take_at (take len words) behind len (length-take-le len words inside)

  pub payload_before : payload_of shape (take len words ++ behind) len ≡ payload_of shape words len
  payload_before = payload_same shape (take len words ++ behind) words len front_same

  module _ (lent : len + length behind ≡ length words) where
    lent_same : length (take len words ++ behind) ≡ length words
    lent_same = omega (arith, length-append (take len words) behind, length-take-le len words inside)

    pub check_before : check shape (take len words ++ behind) len ≡ check shape words len
    check_before = check-same shape (take len words ++ behind) words len front_same lent_same

    pub checked_before : checked shape (take len words ++ behind) len ≡ checked shape words len
    checked_before = checked_same shape (take len words ++ behind) words len front_same lent_same
