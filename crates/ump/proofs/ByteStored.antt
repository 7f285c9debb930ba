-- One payload byte is stored: nothing else of the message changes. Assumes nothing.
use mathlib.Core.Path.{◌≡◌, sym, ap, ◌∙◌}
use mathlib.Core.Logic.{◌≢◌}
use mathlib.Core.List.{List}
use Prim.Native.Nat.{ℕ, ◌+◌, ◌-◌, ◌*◌, ◌/◌, ◌^◌, ◌≤◌, ◌<◌}
use native.Mathlib.Decide.{ℕ_discrete}
use native.Mathlib.Omega.{arith}
use lib.ListN.{length, get_or, drop, set, length-set}
use lib.Seq.{take-set-le, drop-set-add, drop-set-lt, get_or-set_other, get_or-set_same}
use Rattle.ump.specs.Word.{octet_field, shift, part, with_part}
use Rattle.ump.specs.Packet.{Shape, header, first_word, group_at, count_at, id_at, size_at, packet, payload_at, place_word, place_octet, byte_at, payload}
use Rattle.ump.specs.Check.{checked, Valid}
use Rattle.ump.specs.Setters.{packet_of, byte_in, store_byte}
use Rattle.ump.specs.Setting.{HeadedAt}
use Rattle.ump.proofs.Fields.{part-set, part_below, part_past}
use Rattle.ump.proofs.Joined.{joined_cong, joined_set}
use Rattle.ump.proofs.Sizes.{size_small}
use Rattle.ump.proofs.First.{Side, under, over, side}
use Rattle.ump.proofs.Message.{checked_valid}
use Rattle.ump.proofs.Bytes.{length-payload_at, get_d_payload_at}
use Rattle.ump.proofs.HeaderKept.{unchanged, byte_headed, message_group, message_id, valid_after}
use Rattle.ump.proofs.BytePlaces.{first_of_packet, packet_ends, byte_inside, payload_at_is, packet_of_below, place_is, holder_inside, byte_in_below}

-- ---- one payload byte is stored

module _ (shape : Shape) (words : List ℕ) (p i value : ℕ) (there : shape.words * p + shape.words ≤ length words)
    (inside : i < size_at shape words p) (fits : value < shape.limit) where
  abbrev after : List ℕ
  after = store_byte shape words p i value

  abbrev at : ℕ
  at = place_word shape p i

  in_room : i < shape.room
  in_room = omega (arith, size_small shape (count_at shape words p))

  at_inside : at < length words
  at_inside = omega (arith, byte_inside shape i in_room)

  value_fits : value < 2 ^ shape.width
  value_fits = rw shape.limit_is fits

  -- the length stays
  pub store_length : length after ≡ length words
  unfolding store_byte
  store_length = simp length-set

  -- its word takes the value, in the low bits of its octet
  pub stored : get_or after (place_word shape p i) 0
      ≡ with_part (get_or words (place_word shape p i) 0) (shift octet_field (place_octet shape i)) shape.width value
  unfolding store_byte
  stored = get_or-set_same words at _ 0 at_inside

  -- every other word stays
  pub store_elsewhere : (k : ℕ) → k ≢ place_word shape p i → get_or after k 0 ≡ get_or words k 0
  unfolding store_byte
  store_elsewhere k other = get_or-set_other words at k _ 0 other

  -- what stands behind the packet stays
  pub store_behind : (k : ℕ) → shape.words * p + shape.words ≤ k → drop k after ≡ drop k words
  unfolding store_byte
  store_behind k behind = drop-set-lt k words at _ (omega (arith, byte_inside shape i in_room))

  -- every packet keeps its type, group, status, count and stream id
  pub store_headed : (q : ℕ)
      → HeadedAt shape words after q (group_at shape words q) (id_at shape words q)
  store_headed q = go (ℕ_discrete (shape.words * q) at)
    where
      go : Dec (shape.words * q ≡ at)
          → HeadedAt shape words after q (group_at shape words q) (id_at shape words q)
      go (no other) = rw (store_elsewhere (shape.words * q) other) (unchanged shape (first_word shape words q))
      go (yes e) =
          let j : (i + header shape) / 4 ≡ 0 = first_of_packet shape.words p _ q (byte_inside shape i in_room) (sym e) in
          rw (e, stored) (byte_headed shape (get_or words at 0) (place_octet shape i) value (omega arith) (omega arith) value_fits)

  -- the stored byte reads as the value, every other byte of the packet as before
  pub store_byte_lem : byte_at shape after p i ≡ value
  store_byte_lem = rw stored (part-set (get_or words at 0) (shift octet_field (place_octet shape i)) shape.width value value_fits)

  pub store_other_byte : (k : ℕ) → k ≢ i → byte_at shape after p k ≡ byte_at shape words p k
  store_other_byte k other = go (ℕ_discrete (place_word shape p k) at)
    where
      apart : place_octet shape k ≢ place_octet shape i → Side (place_octet shape k) (place_octet shape i)
          → part (get_or after at 0) (shift octet_field (place_octet shape k)) shape.width
          ≡ part (get_or words at 0) (shift octet_field (place_octet shape k)) shape.width
      apart d (under h e) =
          rw stored (part_past (get_or words at 0) _ shape.width value value_fits _ shape.width (omega (arith, shape.width_fits)))
      apart d (over h e) =
          rw stored (part_below (get_or words at 0) _ shape.width value value_fits _ shape.width (omega (arith, shape.width_fits)))

      go : Dec (place_word shape p k ≡ at) → byte_at shape after p k ≡ byte_at shape words p k
      go (no f) = ap (λ (x : ℕ). part x (shift octet_field (place_octet shape k)) shape.width) (store_elsewhere _ f)
      go (yes e) =
          let j : (k + header shape) / 4 ≡ (i + header shape) / 4 = omega arith in
          rw e (apart (λ o. omega arith) (side (place_octet shape k) (place_octet shape i)))

  size-after : size_at shape after p ≡ size_at shape words p
  size-after = rw (store_headed p).count_stays

  -- byte i of the packet's payload is the value
  pub store_payload_at : payload_at shape after p ≡ set (payload_at shape words p) i value
  store_payload_at =
      payload_at_is shape after p (rw store_length there) _
      (length-set (payload_at shape words p) i value ∙ length-payload_at shape words p there ∙ sym size-after)
      (λ k h. go k (rw size-after at h) (ℕ_discrete k i))
    where
      go : (k : ℕ) → k < size_at shape words p → Dec (k ≡ i)
          → byte_at shape after p k ≡ get_or (set (payload_at shape words p) i value) k 0
      go k h (yes e) =
          rw (e, get_or-set_same (payload_at shape words p) i value 0 (rw (length-payload_at shape words p there) inside)) store_byte_lem
      go k h (no f) =
          store_other_byte k f
          ∙ sym (get_or-set_other (payload_at shape words p) i k value 0 f ∙ get_d_payload_at shape words p there k h)

  -- every other packet stays, and carries what it did
  pub store_other_packet : (q : ℕ) → q ≢ p → packet shape after q ≡ packet shape words q
  unfolding store_byte
  store_other_packet q other = go (side p q)
    where
      go : Side p q → packet shape after q ≡ packet shape words q
      go (under h e) =
          rw (store_behind (shape.words * q) (packet_ends shape p q h))
      go (over h e) =
          let ends = packet_ends shape q p (omega arith) in
          let d : at ≡ shape.words * q + (at - shape.words * q) = omega arith in
          rw (d, drop-set-add (shape.words * q) words (at - shape.words * q) _)
          (take-set-le shape.words (drop (shape.words * q) words) _ _ (omega arith))

  pub store_other_payload_at : (q : ℕ) → q ≢ p → payload_at shape after q ≡ payload_at shape words q
  unfolding payload_at
  store_other_payload_at q other = rw ((store_headed q).count_stays, store_other_packet q other)

  -- of n packets, it is the byte at the sizes of the packets before it plus i
  pub store_payload : (n : ℕ) → p < n
      → payload shape after n ≡ set (payload shape words n) (length (payload shape words p) + i) value
  unfolding payload
  store_payload n h =
      joined_set (payload_at shape words) (payload_at shape after) n p i value h (rw (length-payload_at shape words p there) inside)
      store_payload_at store_other_payload_at

  -- no payload changes its size
  pub store_size : (n : ℕ) → length (payload shape after n) ≡ length (payload shape words n)
  unfolding payload
  store_size n = go (side p n)
    where
      go : Side p n → length (payload shape after n) ≡ length (payload shape words n)
      go (under h e) = ap length (store_payload n h) ∙ simp length-set
      go (over h e) = ap length (joined_cong _ _ n (λ q k. store_other_payload_at q (omega arith)))

  -- a valid message stays valid, of the same group, stream id and size
  module _ (len : ℕ) (valid : Valid shape words len) where
    pub store_valid : Valid shape after len
    store_valid =
        valid_after shape words after len (group_at shape words) (id_at shape words) valid store_length (λ q h. store_headed q)
        (message_group shape words len valid) (message_id shape words len valid)

    pub store_checked : checked shape after len ≡ checked shape words len
    store_checked = checked_valid shape after len store_valid
        ∙ rw ((store_headed 0).group_is, (store_headed 0).id_is, store_size (len / shape.words))
        (sym (checked_valid shape words len valid))

-- stored where byte i of a message stands, it is stored to that byte
pub stored-payload : (shape : Shape) (words : List ℕ) (n i : ℕ) → (inside : i < length (payload shape words n)) → shape.words * n ≤ length words
    → (value : ℕ) → value < shape.limit
    → payload shape (store_byte shape words (packet_of shape words n i) (byte_in shape words n i) value) n
    ≡ set (payload shape words n) i value
stored-payload shape words n i inside whole value fits =
    store_payload shape words (packet_of shape words n i) (byte_in shape words n i) value (holder_inside shape words n i inside whole)
    (byte_in_below shape words n i inside whole) fits n (packet_of_below shape words n i inside)
    ∙ ap (λ (k : ℕ). set (payload shape words n) k value) (sym (place_is shape words n i inside))
