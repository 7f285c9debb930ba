-- The payload reader: the places of the bytes that a cursor has yet to read, and what it answers.
-- Assumes nothing.
use Rattle.std.specs.Prelude.{List, [], ◌∷◌, ◌++◌, map, ℕ, zero, suc, ◌+◌, ◌-◌, ◌/◌, length, take, drop}
use Rattle.refusal.specs.Answer.{Answer, gives, ◌▷◌}
use Rattle.ump.specs.Packet.{Shape, size_at, byte_at}
use Rattle.ump.specs.Check.{check, payload_of}

-- packet and byte where the next byte stands, and how many bytes are to be read
pub record Cursor : Type 0 where
  pub packet : ℕ
  pub byte : ℕ
  pub remaining : ℕ

pub data Step : Type 0 where
  byte : ℕ → Step
  ended : Step

-- what a call answers: a byte or the end, and the cursor after it
pub record Read : Type 0 where
  pub step : Step
  pub cursor : Cursor

-- n places of packet p, from byte b on
unfoldable pub row : ℕ → ℕ → ℕ → List (ℕ × ℕ)
row p b zero = []
row p b (suc n) = (p, b) ∷ row p (suc b) n

-- the places of k packets, from byte b of packet p on; a byte number at or past its packet's size gives none of it
unfoldable pub walk : Shape → List ℕ → ℕ → ℕ → ℕ → List (ℕ × ℕ)
walk shape words p b zero = []
walk shape words p b (suc k) = row p b (size_at shape words p - b) ++ walk shape words (suc p) 0 k

-- the places from byte b of packet p to the last whole packet
unfoldable pub places : Shape → List ℕ → ℕ → ℕ → List (ℕ × ℕ)
places shape words p b = walk shape words p b (length words / shape.words - p)

-- those that a cursor has yet to read: the smaller of its count and what stands there
unfoldable pub unread : Shape → List ℕ → Cursor → List (ℕ × ℕ)
unread shape words cursor = take cursor.remaining (places shape words cursor.packet cursor.byte)

unfoldable pub bytes_remaining : Shape → List ℕ → Cursor → ℕ
bytes_remaining shape words cursor = length (unread shape words cursor)

-- at the first of some places: its byte, and the cursor past it, with `left` bytes to be read; with no place left, the end
abbrev pub read_first : Shape → List ℕ → ℕ → List (ℕ × ℕ) → Read
read_first shape words left [] =
    record { step = ended; cursor = record { packet = length words / shape.words; byte = 0; remaining = 0 } }
read_first shape words left (place ∷ more) =
    record {
      step = byte (byte_at shape words place.0 place.1);
      cursor = record { packet = place.0; byte = place.1 + 1; remaining = left };
    }

-- n bytes skipped and one read; next is nth 0
unfoldable pub nth : Shape → List ℕ → Cursor → ℕ → Read
nth shape words cursor n = read_first shape words (cursor.remaining - (n + 1)) (drop n (unread shape words cursor))

-- the cursor at the start of so many bytes
abbrev pub start_of : ℕ → Cursor
start_of size = record { packet = 0; byte = 0; remaining = size }

-- a reader made over a message: the cursor at its start, or the check's refusal
unfoldable pub reader : Shape → List ℕ → ℕ → Answer Cursor
reader shape words len = check shape words len ▷ gives (start_of (length (payload_of shape words len)))

-- ---- what is said of reading

-- the bytes at some places
abbrev pub bytes_at : Shape → List ℕ → List (ℕ × ℕ) → List ℕ
bytes_at shape words at = map (λ place. byte_at shape words place.0 place.1) at

-- the first of some bytes, or the end
abbrev pub first_step : List ℕ → Step
first_step [] = ended
first_step (value ∷ more) = byte value
