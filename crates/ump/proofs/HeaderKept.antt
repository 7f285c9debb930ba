-- One first word of which the group, the stream id or a payload byte is set keeps all else, and a message whose first words do so stays
-- valid. Assumes nothing.
use mathlib.Core.Path.{◌≡◌, refl, sym, ap, ◌∙◌}
use mathlib.Core.List.{List, [], ◌∷◌}
use Prim.Native.Nat.{ℕ, zero, suc, ◌+◌, ◌*◌, ◌/◌, ◌^◌, ◌≤◌, ◌<◌}
use native.Mathlib.Nat.{mul-div_right}
use native.Mathlib.Omega.{arith}
use lib.ListN.{length, take}
use Rattle.refusal.specs.Answer.{gives}
use Rattle.ump.specs.Word.{nibble_field, octet_field, shift, part, with_part, nibble, octet}
use Rattle.ump.specs.Packet.{Shape, sysex8, header, group_at, id_in, id_at}
use Rattle.ump.specs.Check.{payload_of, summary, checked, Valid}
use Rattle.ump.specs.Single.{with_group}
use Rattle.ump.specs.Setters.{with_id}
use Rattle.ump.specs.Setting.{Headed, HeadedAt, Keeps}
use Rattle.ump.proofs.Fields.{part-set, part_below, part_past}
use Rattle.ump.proofs.Sizes.{words_pos}
use Rattle.ump.proofs.Message.{checked_valid}

-- ---- one first word

id_stays : (shape : Shape) (x y : ℕ) → ((q : ℕ) → 2 ≤ q → q < header shape → octet y q ≡ octet x q) → id_in shape y ≡ id_in shape x
id_stays shape x y same = go shape.ids same
  where
    go : (ids : ℕ) → ((q : ℕ) → 2 ≤ q → q < 2 + ids → octet y q ≡ octet x q)
        → take ids (octet y 2 ∷ octet y 3 ∷ []) ≡ take ids (octet x 2 ∷ octet x 3 ∷ [])
    go zero h = refl
    go (suc zero) h = rw (h 2 (omega arith) (omega arith))
    go (suc (suc ids)) h = rw (h 2 (omega arith) (omega arith), h 3 (omega arith) (omega arith))

pub unchanged : (shape : Shape) (x : ℕ) → Headed shape x x (nibble x 1) (id_in shape x)
unchanged shape x = record { type_stays = refl; group_is = refl; status_stays = refl; count_stays = refl; id_is = refl }

-- a payload byte in the first word is set: the header stays
pub byte_headed : (shape : Shape) (x q value : ℕ) → header shape ≤ q → q < 4 → value < 2 ^ shape.width
    → Headed shape x (with_part x (shift octet_field q) shape.width value) (nibble x 1) (id_in shape x)
byte_headed shape x q value from below fits =
    record {
      type_stays = nibbles 0 (omega arith);
      group_is = nibbles 1 (omega arith);
      status_stays = nibbles 2 (omega arith);
      count_stays = nibbles 3 (omega arith);
      id_is = id_stays shape x _ (λ o h k. above (shift octet_field o) 8 (omega arith));
    }
  where
    above : (at size : ℕ) → shift octet_field q + 8 ≤ at
        → part (with_part x (shift octet_field q) shape.width value) at size ≡ part x at size
    above at size h = part_past x (shift octet_field q) shape.width value fits at size (omega (arith, shape.width_fits))

    nibbles : (k : ℕ) → k < 4 → nibble (with_part x (shift octet_field q) shape.width value) k ≡ nibble x k
    nibbles k h = above (shift nibble_field k) 4 (omega arith)

-- the group is set: all else of the first word stays
pub group_keeps : (shape : Shape) (x group : ℕ) → group < 16 → Keeps shape x (with_group x group) group (id_in shape x)
group_keeps shape x group fits =
    record {
      headed = record {
        type_stays = part_past x 24 4 group fits (shift nibble_field 0) 4 (omega arith);
        group_is = part-set x 24 4 group fits;
        status_stays = below (shift nibble_field 2) 4 (omega arith);
        count_stays = below (shift nibble_field 3) 4 (omega arith);
        id_is = id_stays shape x _ (λ q h k. below (shift octet_field q) 8 (omega arith));
      };
      bytes_stay = λ q h k. below (shift octet_field q) shape.width (omega (arith, shape.width_fits));
    }
  where
    below : (at size : ℕ) → at + size ≤ 24 → part (with_group x group) at size ≡ part x at size
    below = part_below x 24 4 group fits

-- the stream id is set: all else of the first word stays, its payload byte too
pub id_keeps : (x id : ℕ) → id < 256 → Keeps sysex8 x (with_id x id) (nibble x 1) (id ∷ [])
id_keeps x id fits =
    record {
      headed = record {
        type_stays = nibbles 0 (omega arith);
        group_is = nibbles 1 (omega arith);
        status_stays = nibbles 2 (omega arith);
        count_stays = nibbles 3 (omega arith);
        id_is = ap (λ (o : ℕ). o ∷ []) (part-set x 8 8 id fits);
      };
      bytes_stay = λ q h k. part_below x 8 8 id fits (shift octet_field q) 8 (omega arith);
    }
  where
    nibbles : (k : ℕ) → k < 4 → nibble (with_id x id) k ≡ nibble x k
    nibbles k h = part_past x 8 8 id fits (shift nibble_field k) 4 (omega arith)

-- ---- a valid message whose packets keep type, status and count

module _ (shape : Shape) (words : List ℕ) (len : ℕ) (valid : Valid shape words len) where
  packets-of : len / shape.words ≡ valid.packets
  packets-of = rw valid.whole (mul-div_right valid.packets (words_pos shape))

  -- its packets end where it ends, inside the words, and share one group and one stream id
  pub message_ends : shape.words * (len / shape.words) ≡ len
  message_ends = rw packets-of (sym valid.whole)

  pub message_inside : shape.words * (len / shape.words) ≤ length words
  message_inside = rw message_ends valid.inside

  pub message_group : (p : ℕ) → p < len / shape.words → group_at shape words p ≡ group_at shape words 0
  message_group p below = valid.groups p (rw packets-of at below)

  pub message_id : (p : ℕ) → p < len / shape.words → id_at shape words p ≡ id_at shape words 0
  message_id p below = valid.one_id p (rw packets-of at below)

module _ (shape : Shape) (words after : List ℕ) (len : ℕ) (groups : ℕ → ℕ) (ids : ℕ → List ℕ) (valid : Valid shape words len)
    (as_long : length after ≡ length words)
    (headed : (p : ℕ) → p < len / shape.words → HeadedAt shape words after p (groups p) (ids p))
    (one_group : (p : ℕ) → p < len / shape.words → groups p ≡ groups 0)
    (one_id : (p : ℕ) → p < len / shape.words → ids p ≡ ids 0) where
  headed_at : (p : ℕ) → p < valid.packets → HeadedAt shape words after p (groups 0) (ids 0)
  headed_at p below =
      let h : p < len / shape.words = rw (packets-of shape words len valid) below in
      rw (← (one_group p h), ← (one_id p h)) (headed p h)

  -- it stays valid, if they share one group and one stream id
  pub valid_after : Valid shape after len
  valid_after =
      let first = headed_at 0 valid.some_packet in
      record {
        short_enough = rw as_long valid.short_enough;
        inside = rw as_long valid.inside;
        packets = valid.packets;
        some_packet = valid.some_packet;
        whole = valid.whole;
        types = λ p h. (headed_at p h).type_stays ∙ valid.types p h;
        statuses = λ p h. (headed_at p h).status_stays ∙ valid.statuses p h;
        counts = λ p h. rw (headed_at p h).count_stays (valid.counts p h);
        groups = λ p h. (headed_at p h).group_is ∙ sym first.group_is;
        one_id = λ p h. (headed_at p h).id_is ∙ sym first.id_is;
      }

  -- and the check answers that group and that id
  pub checked_after : checked shape after len
      ≡ gives (summary (groups 0) (ids 0) (length (payload_of shape after len)) len)
  checked_after =
      let first = headed_at 0 valid.some_packet in
      checked_valid shape after len valid_after ∙ rw (first.group_is, first.id_is)
