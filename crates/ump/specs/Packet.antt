-- Packets in words: their header, their payload, and where each payload byte stands; SysEx8 and SysEx7 alike.
-- Assumes nothing.
use Rattle.std.specs.Prelude.{◌≡◌, refl, cond, List, [], ◌∷◌, ◌++◌, map, ℕ, zero, suc, ◌+◌, ◌-◌, ◌*◌, ◌/◌, ◌%◌, ◌^◌, ◌≤◌, ◌<◌, leb, get_or, take, drop}
use Rattle.std.proofs.Common.{lit<, lit≤}
use Rattle.ump.specs.Word.{shift, part, nibble, octet, octet_field, octets}

-- ---- the shape of a packet

pub record Shape : Type 0 where
  pub type : ℕ  -- the message type, nibble 0 of the first word
  pub words : ℕ  -- words in a packet
  pub ids : ℕ  -- octets of stream id, after the two octets of type, group, status and count
  pub room : ℕ  -- payload bytes that a packet can carry
  pub bias : ℕ  -- the count is the payload size plus this
  pub width : ℕ  -- a payload byte is so many low bits of its octet
  pub limit : ℕ  -- and so is below this
  pub full : 2 + (ids + room) ≡ 4 * words
  pub type_fits : type < 16
  pub count_fits : room + bias < 16
  pub ids_fit : ids ≤ 2
  pub some_room : 0 < room
  pub limit_is : 2 ^ width ≡ limit
  pub width_fits : width ≤ 8

abbrev pub sysex8 : Shape
sysex8 = record {
  type = 5;
  words = 4;
  ids = 1;
  room = 13;
  bias = 1;
  width = 8;
  limit = 256;
  full = refl;
  type_fits = lit< tt;
  count_fits = lit< tt;
  ids_fit = lit≤ tt;
  some_room = lit< tt;
  limit_is = refl;
  width_fits = lit≤ tt;
}

abbrev pub sysex7 : Shape
sysex7 = record {
  type = 3;
  words = 2;
  ids = 0;
  room = 6;
  bias = 0;
  width = 7;
  limit = 128;
  full = refl;
  type_fits = lit< tt;
  count_fits = lit< tt;
  ids_fit = lit≤ tt;
  some_room = lit< tt;
  limit_is = refl;
  width_fits = lit≤ tt;
}

-- ---- packet p of a list of words: its fields

abbrev pub header : Shape → ℕ
header shape = 2 + shape.ids

abbrev pub first_word : Shape → List ℕ → ℕ → ℕ
first_word shape words p = get_or words (shape.words * p) 0

abbrev pub type_at : Shape → List ℕ → ℕ → ℕ
type_at shape words p = nibble (first_word shape words p) 0

abbrev pub group_at : Shape → List ℕ → ℕ → ℕ
group_at shape words p = nibble (first_word shape words p) 1

abbrev pub status_at : Shape → List ℕ → ℕ → ℕ
status_at shape words p = nibble (first_word shape words p) 2

abbrev pub count_at : Shape → List ℕ → ℕ → ℕ
count_at shape words p = nibble (first_word shape words p) 3

-- the stream id in a first word: a list of one for SysEx8, of none for SysEx7
abbrev pub id_in : Shape → ℕ → List ℕ
id_in shape word = take shape.ids (octet word 2 ∷ octet word 3 ∷ [])

abbrev pub id_at : Shape → List ℕ → ℕ → List ℕ
id_at shape words p = id_in shape (first_word shape words p)

-- the payload size that a count says: nothing where it is too small or too big
unfoldable pub size_of : Shape → ℕ → ℕ
size_of shape count = cond (leb count (shape.room + shape.bias)) (count - shape.bias) 0

abbrev pub size_at : Shape → List ℕ → ℕ → ℕ
size_at shape words p = size_of shape (count_at shape words p)

-- ---- its payload

abbrev pub packet : Shape → List ℕ → ℕ → List ℕ
packet shape words p = take shape.words (drop (shape.words * p) words)

unfoldable pub payload_at : Shape → List ℕ → ℕ → List ℕ
payload_at shape words p =
    map (λ b. b % shape.limit) (take (size_at shape words p) (drop (header shape) (octets (packet shape words p))))

-- the octets of a packet that carry nothing
unfoldable pub filler_at : Shape → List ℕ → ℕ → List ℕ
filler_at shape words p = drop (header shape + size_at shape words p) (octets (packet shape words p))

-- payload byte i of packet p stands in octet (i + header) mod 4 of word (i + header) / 4 of the packet
abbrev pub place_word : Shape → ℕ → ℕ → ℕ
place_word shape p i = shape.words * p + (i + header shape) / 4

abbrev pub place_octet : Shape → ℕ → ℕ
place_octet shape i = (i + header shape) % 4

abbrev pub byte_at : Shape → List ℕ → ℕ → ℕ → ℕ
byte_at shape words p i = part (get_or words (place_word shape p i) 0) (shift octet_field (place_octet shape i)) shape.width

-- ---- a message: packets one after the other

-- part 0, part 1, .. part n - 1, joined
unfoldable pub joined : {A : Type 0} → (ℕ → List A) → ℕ → List A
joined f zero = []
joined f (suc n) = joined f n ++ f n

-- the payload of the first n packets
unfoldable pub payload : Shape → List ℕ → ℕ → List ℕ
payload shape words n = joined (payload_at shape words) n
