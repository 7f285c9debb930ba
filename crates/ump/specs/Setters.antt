-- One payload byte of a message, the payload copied out, and the setters. All other bits lent stay.
-- Assumes nothing.
use Rattle.std.specs.Prelude.{List, ◌++◌, ℕ, zero, suc, ◌-◌, ◌*◌, ◌/◌, ltb, leb, length, get_or, drop, set}
use Rattle.refusal.specs.Answer.{Answer, gives, Verdict, ◌▷◌, guard, writes}
use Rattle.ump.specs.Word.{octet_field, shift, with_part}
use Rattle.ump.specs.Packet.{Shape, sysex8, first_word, place_word, place_octet, payload}
use Rattle.ump.specs.Check.{first_where, check, payload_of}
use Rattle.ump.specs.Single.{with_group}

-- ---- payload bytes

-- byte i of a payload: Range
abbrev pub nth_byte : List ℕ → ℕ → Answer ℕ
nth_byte bytes i = guard (leb (length bytes) i) 13 0 ▷ gives (get_or bytes i 0)

-- byte i of the message: 1 to 12, then Range
unfoldable pub get_byte : Shape → List ℕ → ℕ → ℕ → Answer ℕ
get_byte shape words len i = check shape words len ▷ nth_byte (payload_of shape words len) i

-- the payload copied to lent bytes: 1 to 12, then Room; answers its size; bytes past it stay
unfoldable pub copy_payload : Shape → List ℕ → ℕ → List ℕ → Answer ℕ × List ℕ
copy_payload shape words len bytes =
    let size = length (payload_of shape words len) in
    writes (check shape words len ▷ guard (ltb (length bytes) size) 14 0) bytes size
    (payload_of shape words len ++ drop size bytes)

-- the packet, of n, that holds byte i: the first whose bytes, with all before it, are more than i; and the byte's number in it
unfoldable pub packet_of : Shape → List ℕ → ℕ → ℕ → ℕ
packet_of shape words n i = first_where (λ p. ltb i (length (payload shape words (suc p)))) n

unfoldable pub byte_in : Shape → List ℕ → ℕ → ℕ → ℕ
byte_in shape words n i = i - length (payload shape words (packet_of shape words n i))

-- the words with payload byte i of packet p set
unfoldable pub store_byte : Shape → List ℕ → ℕ → ℕ → ℕ → List ℕ
store_byte shape words p i value =
    set words (place_word shape p i)
    (with_part (get_or words (place_word shape p i) 0) (shift octet_field (place_octet shape i)) shape.width value)

-- byte i of the message set: 1 to 12, then Range
unfoldable pub set_byte : Shape → List ℕ → ℕ → ℕ → ℕ → Verdict × List ℕ
set_byte shape words len i value =
    let n = len / shape.words in
    writes (check shape words len ▷ guard (leb (length (payload_of shape words len)) i) 13 0) words tt
    (store_byte shape words (packet_of shape words n i) (byte_in shape words n i) value)

-- ---- group and stream id

-- f applied to the first word of each of the first n packets
unfoldable pub on_heads : Shape → (ℕ → ℕ) → List ℕ → ℕ → List ℕ
on_heads shape f words zero = words
on_heads shape f words (suc n) = set (on_heads shape f words n) (shape.words * n) (f (first_word shape words n))

-- 1 to 12, then Field
unfoldable pub set_group : Shape → List ℕ → ℕ → ℕ → Verdict × List ℕ
set_group shape words len group =
    writes (check shape words len ▷ guard (ltb 15 group) 16 0) words tt
    (on_heads shape (λ x. with_group x group) words (len / shape.words))

-- the stream id of SysEx8 is octet 2, never octet 3
abbrev pub with_id : ℕ → ℕ → ℕ
with_id x id = with_part x (shift octet_field 2) 8 id

unfoldable pub set_id : List ℕ → ℕ → ℕ → Verdict × List ℕ
set_id words len id =
    writes (check sysex8 words len) words tt (on_heads sysex8 (λ x. with_id x id) words (len / sysex8.words))
