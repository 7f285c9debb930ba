-- Packing, and splicing the payload of a message that is lent in a buffer of words.
-- Assumes nothing.
use Rattle.std.specs.Prelude.{◌||◌, List, ◌++◌, ℕ, ◌-◌, max, ltb, ℤ, pos, ◌-ℤ◌, length, take, drop, replicate}
use Rattle.refusal.specs.Answer.{Answer, ◌▷◌, guard, writes}
use Rattle.ump.specs.Packet.{Shape, group_at, id_at}
use Rattle.ump.specs.Packing.{pack, words_for}
use Rattle.ump.specs.Check.{check, payload_of}

-- the bytes from..to replaced
abbrev pub spliced : List ℕ → ℕ → ℕ → List ℕ → List ℕ
spliced bytes from to replacement = take from bytes ++ (replacement ++ drop to bytes)

-- the buffer with another message in place of the one in its first len words: words past the new end that belonged to the old
-- message are zero, all others past it stay
unfoldable pub stored : List ℕ → ℕ → List ℕ → List ℕ
stored words len message = message ++ (replicate (len - length message) 0 ++ drop (max len (length message)) words)

-- the same, of the fewest-packet form of these bytes, with group and id of the old first packet
unfoldable pub rewritten : Shape → List ℕ → ℕ → List ℕ → List ℕ
rewritten shape words len bytes = stored words len (pack shape (group_at shape words 0) (id_at shape words 0) bytes)

-- packing: 1 to 12 alone, as that of a valid message never needs more words than it has (proofs/Message.packing_fits); answers the new
-- length
unfoldable pub repack : Shape → List ℕ → ℕ → Answer ℕ × List ℕ
repack shape words len =
    let bytes = payload_of shape words len in
    writes (check shape words len) words (words_for shape (length bytes)) (rewritten shape words len bytes)

-- growth, replacement length minus range length, may be below zero
abbrev pub growth_by : ℕ → ℕ → ℤ
growth_by replacement range = pos replacement -ℤ pos range

-- what a splice answers: the new length in words, and the growth
pub record Spliced : Type 0 where
  pub length : ℕ
  pub growth : ℤ

-- splice: 1 to 12, Range, Room
unfoldable pub splice : Shape → List ℕ → ℕ → ℕ → ℕ → List ℕ → Answer Spliced × List ℕ
splice shape words len from to replacement =
    let bytes = payload_of shape words len in
    let new = spliced bytes from to replacement in
    writes
    (check shape words len
    ▷ guard (ltb to from || ltb (length bytes) to) 13 0
    ▷ guard (ltb (length words) (words_for shape (length new))) 14 0)
    words
    (record { length = words_for shape (length new); growth = growth_by (length replacement) (to - from) })
    (rewritten shape words len new)

-- setting the payload is a splice of the whole
abbrev pub set_payload : Shape → List ℕ → ℕ → List ℕ → Answer Spliced × List ℕ
set_payload shape words len bytes = splice shape words len 0 (length (payload_of shape words len)) bytes
