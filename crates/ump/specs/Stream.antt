-- A byte stream to SysEx7 packets: F0, data, F7 and a group. Real-time bytes between F0 and F7 are passed over.
-- Assumes nothing.
use Rattle.std.specs.Prelude.{◌≡◌, Bool, not, cond, ◌&&◌, ◌||◌, List, [], ◌∷◌, ◌++◌, ℕ, suc, ◌-◌, ◌≤◌, eqb, ltb, length, get_or, take, drop}
use Rattle.refusal.specs.Answer.{Answer, gives, ◌▷◌, guard, writes}
use Rattle.ump.specs.Packet.{sysex7}
use Rattle.ump.specs.Packing.{pack, words_for}
use Rattle.ump.specs.Limits.{most_words}
use Rattle.ump.specs.Check.{first_where, payload_of, summary, checked}

-- under 2 bytes, first not F0 or last not F7
abbrev pub bad_frame : List ℕ → Bool
bad_frame bytes = ltb (length bytes) 2 || (not (eqb (get_or bytes 0 0) 0xF0) || not (eqb (get_or bytes (length bytes - 1) 0) 0xF7))

-- what stands between F0 and F7
abbrev pub between : List ℕ → List ℕ
between bytes = take (length bytes - 2) (drop 1 bytes)

-- a real-time byte: F8 to FF
abbrev pub real_time : ℕ → Bool
real_time byte = ltb 0xF7 byte

-- a byte that may not stand between F0 and F7: 80 to F7
abbrev pub bad_byte : ℕ → Bool
bad_byte byte = ltb 0x7F byte && not (real_time byte)

-- bytes without the real-time bytes among them
abbrev pub without_real_time : List ℕ → List ℕ
without_real_time [] = []
without_real_time (byte ∷ bytes) = cond (real_time byte) (without_real_time bytes) (byte ∷ without_real_time bytes)

-- the index of the first bad byte; their number where there is none
abbrev pub first_bad : (ℕ → Bool) → List ℕ → ℕ
first_bad bad bytes = first_where (λ i. bad (get_or bytes i 0)) (length bytes)

-- the data of a stream
abbrev pub data_of : List ℕ → List ℕ
data_of bytes = without_real_time (between bytes)

-- a stream as packets, by which bytes are bad between F0 and F7, and what is taken for data:
-- Long, Field, Frame, Byte, Room; answers the words written; words past them stay
abbrev pub to_packets : (ℕ → Bool) → (List ℕ → List ℕ) → List ℕ → ℕ → List ℕ → Answer ℕ × List ℕ
to_packets bad taken bytes group words =
    let inner = between bytes in
    let at = first_bad bad inner in
    let needed = words_for sysex7 (length (taken bytes)) in
    writes
    (guard (ltb most_words (length words)) 1 0
    ▷ guard (ltb 15 group) 16 0
    ▷ guard (bad_frame bytes) 17 0
    ▷ guard (ltb at (length inner)) 18 (suc at)
    ▷ guard (ltb (length words) needed) 14 0)
    words needed
    (pack sysex7 group [] (taken bytes) ++ drop needed words)

-- the call: 80 to F7 are bad, and real-time bytes are no data
unfoldable pub to_sysex7 : List ℕ → ℕ → List ℕ → Answer ℕ × List ℕ
to_sysex7 bytes group words = to_packets bad_byte data_of bytes group words

-- ---- what is said of the call

-- the first byte of 80 to F7, and the words that the data needs
abbrev pub bad_at : List ℕ → ℕ
bad_at bytes = first_bad bad_byte (between bytes)

abbrev pub needed : List ℕ → ℕ
needed bytes = words_for sysex7 (length (data_of bytes))

-- the words lent, after a call that writes n of them: the fewest-packet form of the data, then what stood there; those n are a valid
-- message that carries the data, whatever stands behind them
pub record Streamed (bytes : List ℕ) (group : ℕ) (words : List ℕ) (n : ℕ) (after : List ℕ) : Type 0 where
  pub fewest : take n after ≡ pack sysex7 group [] (data_of bytes)
  pub stays : drop n after ≡ drop n words
  pub checks : (rest : List ℕ) → length (take n after ++ rest) ≤ most_words
      → checked sysex7 (take n after ++ rest) n ≡ gives (summary group [] (length (data_of bytes)) n)
  pub carries : (rest : List ℕ) → payload_of sysex7 (take n after ++ rest) n ≡ data_of bytes
