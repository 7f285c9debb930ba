-- The listing of a SysEx8 message: bytes in, lines of text out (document 01, program sx8list).
-- Assumes nothing.
use Rattle.std.specs.Prelude.{cond, not, List, [], ◌∷◌, ◌++◌, ℕ, zero, suc, ◌+◌, ◌*◌, ◌/◌, ◌%◌, eqb, ltb, length}
use Prim.Native.Char.{code}
use Prim.Native.String as string
use Prim.Native.String.{String}
use Rattle.refusal.specs.Answer.{Answer, gives, refused, ◌▷◌, guard}
use Rattle.ump.specs.Word.{octet, words_of}
use Rattle.ump.specs.Packet.{sysex8, first_word, group_at, status_at, size_at, joined}
use Rattle.ump.specs.Check.{Summary, checked}

-- the characters of a text as bytes
abbrev pub ascii : String → List ℕ
ascii string.[] = []
ascii (string.◌∷◌ c rest) = code c ∷ ascii rest

-- ---- numbers

-- the decimal digits of n, no more than so many of the last
unfoldable pub last_digits : ℕ → ℕ → List ℕ
last_digits zero n = []
last_digits (suc most) n = cond (ltb n 10) [] (last_digits most (n / 10)) ++ ((48 + n % 10) ∷ [])

-- the decimal digits of n, of which there are no more than n + 1
abbrev pub decimal : ℕ → List ℕ
decimal n = last_digits (suc n) n

-- a hex digit: 0 to 9, A to F
abbrev pub hex_digit : ℕ → ℕ
hex_digit n = cond (ltb n 10) (48 + n) (55 + n)

-- ---- lines; each ends with a newline

unfoldable pub heading : List ℕ
heading = ascii "at group status count id\n"

-- a number and the character after it
unfoldable pub number : ℕ → ℕ → List ℕ
number n after = decimal n ++ (after ∷ [])

-- a stream id, and the end of its line
unfoldable pub id_end : ℕ → List ℕ
id_end id = hex_digit (id / 16) ∷ hex_digit (id % 16) ∷ code "\n" ∷ []

-- status 0, 1, 2, 3, and a space
unfoldable pub status_name : ℕ → List ℕ
status_name zero = ascii "complete "
status_name (suc zero) = ascii "start "
status_name (suc (suc zero)) = ascii "continue "
status_name (suc (suc (suc n))) = ascii "end "

-- word index, group, status, payload bytes, stream id
unfoldable pub line : ℕ → ℕ → ℕ → ℕ → ℕ → List ℕ
line index group status size id =
    number index (code " ") ++ (number group (code " ") ++ (status_name status ++ (number size (code " ") ++ id_end id)))

unfoldable pub packet_line : List ℕ → ℕ → List ℕ
packet_line words p =
    line (4 * p) (group_at sysex8 words p) (status_at sysex8 words p) (size_at sysex8 words p) (octet (first_word sysex8 words p) 2)

-- a line of two words, each with its number
unfoldable pub two_numbers : List ℕ → ℕ → List ℕ → ℕ → List ℕ
two_numbers first left second right = first ++ (number left (code " ") ++ (second ++ number right (code "\n")))

-- ---- the whole

-- the words of the bytes, four bytes each, highest first: Long, Short, Ragged
unfoldable pub words_in : List ℕ → Answer (List ℕ)
words_in bytes =
    guard (ltb 65536 (length bytes)) 1 0
    ▷ guard (ltb (length bytes) 16) 3 0
    ▷ guard (not (eqb (length bytes % 16) 0)) 4 0
    ▷ gives (words_of bytes)

-- the check of the message that these words are
unfoldable pub checked_in : Answer (List ℕ) → Answer Summary
checked_in (gives words) = checked sysex8 words (length words)
checked_in (refused number place) = refused number place

unfoldable pub refusal_line : ℕ → ℕ → List ℕ
refusal_line number place = two_numbers (ascii "refused ") number (ascii "at ") place

-- the line of an answer that refuses; no other has one
abbrev pub fault_line : {A : Type 0} → Answer A → List ℕ
fault_line (gives value) = []
fault_line (refused number place) = refusal_line number place

-- a line for each packet
abbrev pub packet_lines : List ℕ → List ℕ
packet_lines words = joined (packet_line words) (length words / 4)

-- the heading, a line for each packet, the totals
unfoldable pub message_text : List ℕ → ℕ → List ℕ
message_text words size =
    heading
    ++ (packet_lines words
    ++ two_numbers (ascii "payload ") size (ascii "words ") (length words))

unfoldable pub text_of : List ℕ → Answer Summary → List ℕ
text_of words (gives m) = message_text words m.size
text_of words (refused number place) = refusal_line number place

unfoldable pub listing : List ℕ → List ℕ
listing bytes = text_of (words_of bytes) (checked_in (words_in bytes))
