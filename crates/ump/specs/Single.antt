-- Single packets: reading one, a byte of it, setting its group. Only the first packet's words are looked at.
-- Assumes nothing.
use Rattle.std.specs.Prelude.{Bool, true, not, cond, ◌&&◌, ◌||◌, List, [], ◌∷◌, ℕ, zero, suc, ◌*◌, eqb, ltb, leb, length, get_or, drop, set}
use Rattle.refusal.specs.Answer.{Answer, gives, refused, Verdict, ◌▷◌, guard, verdict, writes}
use Rattle.ump.specs.Word.{nibble_field, shift, with_part, octets}
use Rattle.ump.specs.Packet.{Shape, sysex8, sysex7, header, group_at, status_at, count_at, id_at, size_at, packet, byte_at}
use Rattle.ump.specs.Check.{bad_type, bad_count}

-- what a packet is; of an unexpected end, whether the earlier data is valid
pub data Kind : Type 0 where
  complete : Kind
  start : Kind
  continue : Kind
  end : Kind
  unexpected_end : Bool → Kind

-- status 0, 1, 2, 3
abbrev pub kind_of : ℕ → Kind
kind_of zero = complete
kind_of (suc zero) = start
kind_of (suc (suc zero)) = continue
kind_of (suc (suc (suc n))) = end

pub record Packet : Type 0 where
  pub kind : Kind
  pub group : ℕ
  pub id : List ℕ
  pub size : ℕ

abbrev pub single_packet : Kind → ℕ → List ℕ → ℕ → Packet
single_packet kind group id size = record { kind = kind; group = group; id = id; size = size }

abbrev pub zeros : List ℕ → Bool
zeros [] = true
zeros (x ∷ xs) = eqb x 0 && zeros xs

-- octet 3 and words 1 to 3 are zero
unfoldable pub blank : List ℕ → Bool
blank words = zeros (drop (header sysex8) (octets (packet sysex8 words 0)))

-- an end packet of zeros: count 1, unexpected and earlier data valid; count 15, unexpected and invalid
abbrev pub unexpected : ℕ → ℕ → Bool → Bool
unexpected status count zeroed = eqb status 3 && (zeroed && (eqb count 1 || eqb count 15))

abbrev pub kind_for : ℕ → ℕ → Bool → Kind
kind_for status count zeroed = cond (unexpected status count zeroed) (unexpected_end (eqb count 1)) (kind_of status)

-- Short, Type, Status, Count; count 15 is taken only as the unexpected end
unfoldable pub read_packet8 : List ℕ → Answer Packet
read_packet8 words =
    let status = status_at sysex8 words 0 in
    let count = count_at sysex8 words 0 in
    guard (ltb (length words) sysex8.words) 3 0
    ▷ guard (bad_type sysex8 words 0) 5 0
    ▷ guard (ltb 3 status) 15 0
    ▷ guard (bad_count sysex8 words 0 && not (unexpected status count (blank words))) 10 0
    ▷ gives
    (single_packet (kind_for status count (blank words)) (group_at sysex8 words 0) (id_at sysex8 words 0) (size_at sysex8 words 0))

-- Short, Type, Count, Status
unfoldable pub read_packet7 : List ℕ → Answer Packet
read_packet7 words =
    guard (ltb (length words) sysex7.words) 3 0
    ▷ guard (bad_type sysex7 words 0) 5 0
    ▷ guard (bad_count sysex7 words 0) 10 0
    ▷ guard (ltb 3 (status_at sysex7 words 0)) 15 0
    ▷ gives
    (single_packet (kind_of (status_at sysex7 words 0)) (group_at sysex7 words 0) (id_at sysex7 words 0) (size_at sysex7 words 0))

-- what the SysEx8 reader says of packet p of a valid message
abbrev pub packet_at : List ℕ → ℕ → Packet
packet_at words p =
    single_packet (kind_for (status_at sysex8 words p) (count_at sysex8 words p) (blank (drop (sysex8.words * p) words)))
    (group_at sysex8 words p)
    (id_at sysex8 words p)
    (size_at sysex8 words p)

-- payload byte i of a packet that was read: the reader's refusals, then Range
unfoldable pub packet_byte : Shape → Answer Packet → List ℕ → ℕ → Answer ℕ
packet_byte shape (refused number place) words i = refused number place
packet_byte shape (gives p) words i = guard (leb p.size i) 13 0 ▷ gives (byte_at shape words 0 i)

-- a first word with another group
abbrev pub with_group : ℕ → ℕ → ℕ
with_group x group = with_part x (shift nibble_field 1) 4 group

-- setting the group of a packet that was read: the reader's refusals, then Field
unfoldable pub set_packet_group : Answer Packet → List ℕ → ℕ → Verdict × List ℕ
set_packet_group read words group =
    writes (verdict read ▷ guard (ltb 15 group) 16 0) words tt (set words 0 (with_group (get_or words 0 0) group))
