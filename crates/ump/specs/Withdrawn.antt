-- What document 02 took out. No call is described by it; it is here so that proofs/Withdrawn can say that every input is answered as before.
-- Assumes nothing.
use Rattle.std.specs.Prelude.{cond, ◌||◌, List, ℕ, ◌+◌, ◌-◌, ◌*◌, ◌/◌, ◌%◌, eqb, ltb, length}
use Rattle.refusal.specs.Answer.{Answer, ◌▷◌, guard, writes}
use Rattle.ump.specs.Packet.{Shape}
use Rattle.ump.specs.Packing.{words_for}
use Rattle.ump.specs.Check.{check, payload_of}
use Rattle.ump.specs.Splice.{spliced, rewritten, growth_by, Spliced}

-- ---- T-03: the words needed by three branches, as the original's `buffer_size_from_payload_size` has them, in plain numbers

unfoldable pub words_before : Shape → ℕ → ℕ
words_before shape n =
    cond (eqb (n % shape.room) 0) (cond (eqb n 0) shape.words (n * shape.words / shape.room)) (shape.words * (n / shape.room + 1))

-- ---- T-12: packing and splice with the tests that it took out, word for word: 19 was refused, by the name of Spread, if the packing would
-- need more words than the message has

-- packing: 1 to 12, 19, Room
unfoldable pub repack_before : Shape → List ℕ → ℕ → Answer ℕ × List ℕ
repack_before shape words len =
    let bytes = payload_of shape words len in
    let needed = words_for shape (length bytes) in
    writes (check shape words len ▷ guard (ltb len needed) 19 0 ▷ guard (ltb (length words) needed) 14 0) words needed
    (rewritten shape words len bytes)

-- splice: 1 to 12, Range, 19, Room
unfoldable pub splice_before : Shape → List ℕ → ℕ → ℕ → ℕ → List ℕ → Answer Spliced × List ℕ
splice_before shape words len from to replacement =
    let bytes = payload_of shape words len in
    let new = spliced bytes from to replacement in
    writes
    (check shape words len
    ▷ guard (ltb to from || ltb (length bytes) to) 13 0
    ▷ guard (ltb len (words_for shape (length bytes))) 19 0
    ▷ guard (ltb (length words) (words_for shape (length new))) 14 0)
    words
    (record { length = words_for shape (length new); growth = growth_by (length replacement) (to - from) })
    (rewritten shape words len new)
