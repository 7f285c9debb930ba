-- What the steps of reading a packet answer, over plain numbers.
-- Assumes nothing.
use Rattle.std.specs.Prelude.{Bool, not, ◌&&◌, ◌||◌, List, ℕ, ◌+◌, ltb, length}
use Rattle.refusal.specs.Answer.{Answer, gives, refused, map_answer, ◌▷◌, guard}
use Rattle.ump.specs.Packet.{Shape, sysex8, sysex7, size_of, group_at, status_at, count_at, id_at}
use Rattle.ump.specs.Check.{bad_type}
use Rattle.ump.specs.Single.{Kind, Packet, kind_of, kind_for, unexpected, blank, single_packet}

-- what the status says: a kind, and the same with a payload size
abbrev pub status_kind : ℕ → Answer Kind
status_kind status = guard (ltb 3 status) 15 0 ▷ gives (kind_of status)

abbrev pub plain : ℕ → ℕ → Answer (Kind × ℕ)
plain status size = map_answer (λ kind. (kind, size)) (status_kind status)

-- the count is not that of a payload size
abbrev pub outside : Shape → ℕ → Bool
outside shape count = ltb count shape.bias || ltb (shape.room + shape.bias) count

-- Count, Status
unfoldable pub counted : Shape → ℕ → ℕ → Answer (Kind × ℕ)
counted shape status count = guard (outside shape count) 10 0 ▷ plain status (size_of shape count)

-- SysEx8: Status, Count
unfoldable pub decide8 : ℕ → ℕ → Bool → Answer (Kind × ℕ)
decide8 status count zeroed =
    guard (ltb 3 status) 15 0
    ▷ guard (outside sysex8 count && not (unexpected status count zeroed)) 10 0
    ▷ gives (kind_for status count zeroed, size_of sysex8 count)

-- what a first packet's status and count, and SysEx8's zero octets, decide
abbrev pub decision8 : List ℕ → Answer (Kind × ℕ)
decision8 words = decide8 (status_at sysex8 words 0) (count_at sysex8 words 0) (blank words)

abbrev pub decision7 : List ℕ → Answer (Kind × ℕ)
decision7 words = counted sysex7 (status_at sysex7 words 0) (count_at sysex7 words 0)

-- a decision with the fields of the packet's first word
abbrev pub packet_from : Shape → List ℕ → Answer (Kind × ℕ) → Answer Packet
packet_from shape words (gives decision) =
    gives (single_packet decision.0 (group_at shape words 0) (id_at shape words 0) decision.1)
packet_from shape words (refused number place) = refused number place

-- what both readers do: Short, Type, and then the decision
unfoldable pub framed : Shape → List ℕ → Answer (Kind × ℕ) → Answer Packet
framed shape words decision =
    guard (ltb (length words) shape.words) 3 0 ▷ guard (bad_type shape words 0) 5 0 ▷ packet_from shape words decision
