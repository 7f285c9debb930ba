-- What the steps of writing a listing answer.
-- Assumes nothing.
use Rattle.std.specs.Prelude.{◌≡◌, List, ◌++◌, ℕ, ltb, length, drop}
use Rattle.refusal.specs.Answer.{Answer, gives, refused, pass, guard, writes}
use Rattle.ump.specs.Packet.{sysex8}
use Rattle.ump.specs.Check.{Summary, check}
use Rattle.ump.specs.Single.{Kind, complete, start, continue, end, unexpected_end}
use Rattle.packet.specs.Meaning.{kind_meaning}
use Rattle.packet.specs.declared.sysex8.Packet.{Packet}
use Rattle.listing.specs.Listing.{line, words_in, checked_in}

-- the status of a kind; an unexpected end is an end
abbrev pub status_of : Kind → ℕ
status_of complete = 0
status_of start = 1
status_of continue = 2
status_of end = 3
status_of (unexpected_end valid) = 3

-- the line of a packet that was read at a word index
abbrev pub line_of : ℕ → Packet → List ℕ
line_of index packet = line index packet.group (status_of (kind_meaning packet.kind)) packet.size packet.id

-- these words are a message that passes the check
abbrev pub Passed : List ℕ → Type 0
Passed words = check sysex8 words (length words) ≡ pass

-- numbers at the front of what is lent; the rest stays
abbrev pub over : List ℕ → List ℕ → List ℕ
over new old = new ++ drop (length new) old

-- the words lent, after the words of the bytes were stored
unfoldable pub words_after : Answer (List ℕ) → List ℕ → List ℕ
words_after (gives words) old = over words old
words_after (refused number place) old = old

-- the words stored, unless they are refused: what the check says, and the words lent after
unfoldable pub load : List ℕ → List ℕ → Answer Summary × List ℕ
load bytes words = (checked_in (words_in bytes), words_after (words_in bytes) words)

-- a piece of text handed over: Room where it does not fit; else its size, and the text lent after
unfoldable pub handed : List ℕ → List ℕ → Answer ℕ × List ℕ
handed piece text = writes (guard (ltb (length text) (length piece)) 14 0) text (length piece) (over piece text)
