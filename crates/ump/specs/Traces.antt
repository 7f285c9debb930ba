-- Where each octet comes from in the worked examples P5, P6 and P8 of document 01, computed.
-- Assumes nothing.
use Rattle.std.specs.Prelude.{◌≡◌, refl, List, [], ◌∷◌, ◌++◌, map, ℕ, replicate}
use Rattle.refusal.specs.Answer.{Answer, gives, refused}
use Rattle.ump.specs.Word.{octets}
use Rattle.ump.specs.Packet.{sysex8, size_of, payload_at, joined, payload}
use Rattle.ump.specs.Packing.{status_for, packets_for}
use Rattle.ump.specs.Check.{first_where, bad_type, bad_status, bad_count, bad_group, bad_id, check_packets, check}
use Rattle.ump.specs.Edits.{Edit, edits_for, edits_from, replaced}
use Rattle.ump.specs.Runs.{run_from}
use Rattle.ump.specs.Origin.{Origin, header_octet, carried, dump_byte, edit_byte, filler, zeroed, untouched, origin_of, origin_in, origin}
use Rattle.ump.specs.Samples.{message2, message5, bytes6, patches8}

-- the origins of so many octets
abbrev origins_of : ℕ → List Edit → ℕ → ℕ → ℕ → List Origin
origins_of size edits len most n = joined (λ q. origin_in sysex8 size edits len most q ∷ []) n

abbrev header_of : ℕ → List Origin
header_of p = header_octet p 0 ∷ header_octet p 1 ∷ header_octet p 2 ∷ []

-- P8's list as numbers, and its bytes
abbrev numbers8 : List ℕ
numbers8 = 0 ∷ 1 ∷ 2 ∷ 2 ∷ 3 ∷ 0 ∷ []

abbrev bytes8 : List ℕ
bytes8 = 0xB0 ∷ 0xB1 ∷ []

-- the call on P5's message with P8's edits, in 16 words
abbrev asked : ℕ → Answer Origin
asked q = origin sysex8 (message5 ++ replicate 4 9) 12 numbers8 bytes8 q

pub record Traces : Type 0 where
  -- packing: a list of no edits; 12 words become 4
  pub P5 : origins_of 3 [] 4 12 64
      ≡ header_of 0 ++ (map carried (dump_byte 0 ∷ dump_byte 1 ∷ dump_byte 2 ∷ []) ++ (replicate 10 filler ++ (replicate 32 zeroed ++ replicate 16 untouched)))
  -- 13 bytes put in at 1 into a payload of two
  pub P6 : origins_of 2 (record { from = 1; to = 1; length = 13 } ∷ []) 8 4 32
      ≡ header_of 0 ++ (map carried (dump_byte 0 ∷ joined (λ j. edit_byte 0 j ∷ []) 12)
      ++ (header_of 1 ++ (map carried (edit_byte 0 12 ∷ dump_byte 1 ∷ []) ++ replicate 11 filler)))
  -- byte 0 replaced by two, byte 2 taken out
  pub P8 : origins_of 3 (edits_for patches8) 4 12 64
      ≡ header_of 0 ++ (map carried (edit_byte 0 0 ∷ edit_byte 0 1 ∷ dump_byte 1 ∷ []) ++ (replicate 10 filler ++ (replicate 32 zeroed ++ replicate 16 untouched)))
  -- as a call; the octet past the words lent, bytes that are not the sum, and no room
  pub asks : (asked 5 ≡ gives (carried (dump_byte 1)))
      × (asked 16 ≡ gives zeroed)
      × (asked 63 ≡ gives untouched)
      × (asked 64 ≡ refused 13 0)
      × (origin sysex8 message5 12 numbers8 [] 0 ≡ refused 13 0)
      × (origin sysex8 message2 4 (1 ∷ 1 ∷ 13 ∷ []) bytes6 0 ≡ refused 14 0)

pub traces : Traces
unfolding origin origin_in origin_of run_from replaced edits_from check check_packets bad_type bad_status bad_count bad_group bad_id first_where payload payload_at size_of octets packets_for status_for joined
traces = record { P5 = refl; P6 = refl; P8 = refl; asks = (refl, refl, refl, refl, refl, refl) }
