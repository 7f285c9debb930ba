-- Where packets, their payload bytes and byte i of a message stand. Assumes nothing.
use mathlib.Core.Path.{◌≡◌, sym, ap, ◌∙◌}
use mathlib.Core.List.{List, ◌++◌}
use Prim.Native.Nat.{ℕ, zero, suc, ◌+◌, ◌-◌, ◌*◌, ◌/◌, ◌%◌, ◌≤◌, ◌<◌}
use native.Mathlib.Nat.{mul-suc, mul-le-mul_left, mod-eq_of_lt, mul-add-mod_self_left, mul-mod_right}
use native.Mathlib.Omega.{arith}
use lib.Dec.{ltb}
use lib.ListN.{length, get_or, length-append, get_or-append}
use lib.Seq.{get_or-append-add, ext_get_or}
use borrow.Author.Tests.{ltb-true, ltb-false}
use Rattle.ump.specs.Packet.{Shape, header, size_at, payload_at, byte_at, joined, payload}
use Rattle.ump.specs.Setters.{packet_of, byte_in}
use Rattle.ump.proofs.Joined.{joined_around}
use Rattle.ump.proofs.First.{Side, under, over, side, first_at, first_before}
use Rattle.ump.proofs.Bytes.{length-payload_at, get_d_payload_at}

-- ---- places

-- word j of a packet is the first of a packet only if j is 0
pub first_of_packet : (w p j q : ℕ) → j < w → w * p + j ≡ w * q → j ≡ 0
first_of_packet w p j q h e =
    sym (mod-eq_of_lt h) ∙ sym (mul-add-mod_self_left w p j) ∙ ap (λ (k : ℕ). k % w) e ∙ mul-mod_right w q

-- a packet ends where a later one begins, or before
pub packet_ends : (shape : Shape) (p q : ℕ) → p < q → shape.words * p + shape.words ≤ shape.words * q
packet_ends shape p q later = rw mul-suc at (mul-le-mul_left shape.words later)

-- a payload byte stands inside its packet
pub byte_inside : (shape : Shape) (i : ℕ) → i < shape.room → (i + header shape) / 4 < shape.words
byte_inside shape i h = omega (arith, shape.full)

-- the payload of a packet is the list of its bytes
pub payload_at_is : (shape : Shape) (words : List ℕ) (p : ℕ) → shape.words * p + shape.words ≤ length words → (bytes : List ℕ)
    → length bytes ≡ size_at shape words p → ((k : ℕ) → k < size_at shape words p → byte_at shape words p k ≡ get_or bytes k 0)
    → payload_at shape words p ≡ bytes
payload_at_is shape words p there bytes size same =
    ext_get_or 0 _ _ (length-payload_at shape words p there ∙ sym size)
    (λ k h.
    let below : k < size_at shape words p = rw (length-payload_at shape words p there) at h in
    get_d_payload_at shape words p there k below ∙ same k below)

-- ---- where byte i of a message stands

-- n packets inside the words: each of them is
pub inside_words : (shape : Shape) (words : List ℕ) (n p : ℕ) → shape.words * n ≤ length words → p < n
    → shape.words * p + shape.words ≤ length words
inside_words shape words n p whole below = omega (arith, packet_ends shape p n below)

pub length_payload_suc : (shape : Shape) (words : List ℕ) (p : ℕ)
    → length (payload shape words (suc p)) ≡ length (payload shape words p) + length (payload_at shape words p)
unfolding payload joined
length_payload_suc shape words p = simp length-append

module _ (shape : Shape) (words : List ℕ) (n i : ℕ) (inside : i < length (payload shape words n)) where
  abbrev holder : ℕ
  holder = packet_of shape words n i

  abbrev number : ℕ
  number = byte_in shape words n i

  -- the packets before it do not reach the byte
  not_before : (q : ℕ) → q ≤ holder → length (payload shape words q) ≤ i
  unfolding packet_of payload joined
  not_before zero h = omega arith
  not_before (suc q) h = ltb-false _ _ (first_before (λ p. ltb i (length (payload shape words (suc p)))) n q h)

  -- it stands in a packet of the message
  pub packet_of_below : packet_of shape words n i < n
  packet_of_below = go (side holder n)
    where
      go : Side holder n → holder < n
      go (under h e) = h
      go (over h e) = absurd (omega (arith, not_before n h))

  not_after : i < length (payload shape words (suc holder))
  unfolding packet_of
  not_after = ltb-true _ _ (first_at (λ p. ltb i (length (payload shape words (suc p)))) n packet_of_below)

  -- behind the bytes of the packets before that one
  pub place_is : i ≡ length (payload shape words (packet_of shape words n i)) + byte_in shape words n i
  unfolding byte_in
  place_is = omega (arith, not_before holder (omega arith))

  module _ (whole : shape.words * n ≤ length words) where
    pub holder_inside : shape.words * holder + shape.words ≤ length words
    holder_inside = inside_words shape words n holder whole packet_of_below

    -- and is a byte of that packet
    pub byte_in_below : byte_in shape words n i < size_at shape words (packet_of shape words n i)
    byte_in_below = omega (arith, place_is, not_after, length_payload_suc shape words holder, length-payload_at shape words holder holder_inside)

    -- what is read there is byte i of the message
    pub get_d_payload : get_or (payload shape words n) i 0 ≡ byte_at shape words (packet_of shape words n i) (byte_in shape words n i)
    unfolding payload
    get_d_payload =
        let bytes = payload_at shape words in
        let rest = joined (λ q. bytes (suc holder + q)) (n - suc holder) in
        ap (λ (k : ℕ). get_or (joined bytes n) k 0) place_is
        ∙ ap (λ (l : List ℕ). get_or l (length (joined bytes holder) + number) 0) (joined_around bytes n holder packet_of_below)
        ∙ get_or-append-add (joined bytes holder) (bytes holder ++ rest) number 0
        ∙ get_or-append (bytes holder) rest 0 number (rw (length-payload_at shape words holder holder_inside) byte_in_below)
        ∙ get_d_payload_at shape words holder holder_inside number byte_in_below
