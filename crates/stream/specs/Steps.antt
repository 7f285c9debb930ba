-- What is counted in a stream, and what the steps of writing the packets read.
-- Assumes nothing.
use Rattle.std.specs.Prelude.{◌≡◌, cond, List, [], ◌∷◌, ◌++◌, ℕ, suc, ◌+◌, ◌-◌, ◌*◌, ◌/◌, ◌%◌, ◌^◌, ◌<◌, ltb, length, drop}
use Rattle.refusal.specs.Answer.{Answer, gives, ◌▷◌, guard}
use Rattle.ump.specs.Word.{pair_at}
use Rattle.ump.specs.Packet.{sysex7}
use Rattle.ump.specs.Packing.{packets_for, pack}
use Rattle.ump.specs.Stream.{bad_byte, without_real_time, first_bad}
use Rattle.flow.specs.Digits.{val}

-- the data that stands from a position on
abbrev pub onward : List ℕ → ℕ → List ℕ
onward inner at = without_real_time (drop at inner)

-- how many bytes are below a limit
abbrev pub count_below : ℕ → List ℕ → ℕ
count_below limit [] = 0
count_below limit (byte ∷ bytes) = cond (ltb byte limit) (suc (count_below limit bytes)) (count_below limit bytes)

-- the size of the data; Byte, behind the first byte that is bad, if one is
abbrev pub sized : List ℕ → Answer ℕ
sized inner =
    let at = first_bad bad_byte inner in
    guard (ltb at (length inner)) 18 (suc at) ▷ gives (length (without_real_time inner))

-- four bytes that stand at a position, as octets (two: pair_at)
abbrev pub four_at : List ℕ → ℕ → ℕ
four_at inner at = pair_at inner at * 65536 + pair_at inner (at + 2)

-- n bytes were taken
pub record Took (n : ℕ) (before : List ℕ) (octets : ℕ) (after : List ℕ) : Type 0 where
  pub value : octets ≡ val n before
  pub small : octets < 2 ^ (8 * n)
  pub rest : after ≡ drop n before

-- six bytes were taken, two and then four
pub record TookSix (before : List ℕ) (high low : ℕ) (after : List ℕ) : Type 0 where
  pub two : high ≡ val 2 before
  pub four : low ≡ val 4 (drop 2 before)
  pub small : high < 65536
  pub rest : after ≡ drop 6 before

-- so many octets of a number are shifted up to six, and these are cut in two words
pub record Filled (count octets high low : ℕ) : Type 0 where
  pub cut_high : high ≡ octets * 2 ^ (8 * (6 - count)) % 2 ^ 64 / 2 ^ 32
  pub cut_low : low ≡ octets * 2 ^ (8 * (6 - count)) % 2 ^ 64 % 2 ^ 32

-- the first word of a packet without its bytes: type 3 and group, status and count
abbrev pub head_word : ℕ → ℕ → ℕ → ℕ
head_word group status count = (48 + group) * 16777216 + (status * 1048576 + count * 65536)

-- so much data, in so many packets
pub record Sized (inner : List ℕ) (size packets : ℕ) : Type 0 where
  pub data_size : size ≡ length (without_real_time inner)
  pub in_packets : packets ≡ packets_for sysex7 size

-- the packets of the data, and the words past them as they were
abbrev pub with_packets : ℕ → ℕ → List ℕ → List ℕ → List ℕ
with_packets group packets inner words = pack sysex7 group [] (without_real_time inner) ++ drop (2 * packets) words
