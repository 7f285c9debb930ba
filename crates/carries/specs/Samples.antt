-- Samples: P5's message carries A0 A1 A2 in three packets; packings with filler that is not zero, and with empty packets.
-- Assumes nothing.
use Rattle.std.specs.Prelude.{◌≡◌, refl, List, [], ◌∷◌, ◌++◌, ℕ, zero, suc, replicate}
use Rattle.refusal.specs.Answer.{pass, refused}
use Rattle.ump.specs.Word.{octets, words_of}
use Rattle.ump.specs.Packet.{sysex8, size_of, payload_at, joined, payload}
use Rattle.ump.specs.Packing.{status_for, frame, packs_at, packs_filled}
use Rattle.ump.specs.Check.{first_where, bad_type, bad_status, bad_count, bad_group, bad_id, status_number, check_packets, check}
use Rattle.ump.specs.Samples.{alone, message5}
use Rattle.carries.specs.Carries.{other_bytes, carries}

abbrev five : List ℕ
five = 0x05 ∷ []

-- two bytes in three packets, the second of them empty, and what fills these up
abbrev pub pieces : ℕ → List ℕ
pieces zero = 0x41 ∷ []
pieces (suc zero) = []
pieces (suc (suc p)) = 0x42 ∷ []

abbrev pub dirt : ℕ → List ℕ
dirt zero = replicate 12 0xEE
dirt (suc zero) = replicate 13 0xEE
dirt (suc (suc p)) = replicate 12 0xEE

abbrev pub uneven : List ℕ
uneven =
    (0x52120741 ∷ 0xEEEEEEEE ∷ 0xEEEEEEEE ∷ 0xEEEEEEEE ∷ [])
    ++ ((0x522107EE ∷ 0xEEEEEEEE ∷ 0xEEEEEEEE ∷ 0xEEEEEEEE ∷ []) ++ (0x52320742 ∷ 0xEEEEEEEE ∷ 0xEEEEEEEE ∷ 0xEEEEEEEE ∷ []))

pub record Samples : Type 0 where
  yes : carries sysex8 message5 12 (0xA0 ∷ 0xA1 ∷ 0xA2 ∷ []) 1 five ≡ pass
  field : carries sysex8 message5 12 (0xA0 ∷ 0xA1 ∷ 0xA2 ∷ []) 17 five ≡ refused 16 0
  group : carries sysex8 message5 12 (0xB0 ∷ []) 2 five ≡ refused 26 0
  id : carries sysex8 message5 12 (0xB0 ∷ []) 1 (0x06 ∷ []) ≡ refused 26 0
  first_packet : carries sysex8 message5 12 (0xA0 ∷ 0xB1 ∷ 0xA2 ∷ []) 1 five ≡ refused 26 0
  last_packet : carries sysex8 message5 12 (0xA0 ∷ 0xA1 ∷ 0xB2 ∷ 0xA3 ∷ []) 1 five ≡ refused 26 8
  shorter : carries sysex8 message5 12 (0xA0 ∷ 0xA1 ∷ []) 1 five ≡ refused 26 0
  longer : carries sysex8 message5 12 (0xA0 ∷ 0xA1 ∷ 0xA2 ∷ 0xA3 ∷ []) 1 five ≡ refused 26 0
  empty : carries sysex8 (alone 0x50010000) 4 [] 0 (0 ∷ []) ≡ pass
  check_first : carries sysex8 (alone 0x50110000) 4 [] 99 (0 ∷ []) ≡ refused 6 0
  packed : packs_filled sysex8 2 (0x07 ∷ []) 3 pieces dirt ≡ uneven
  filled : carries sysex8 uneven 12 (0x41 ∷ 0x42 ∷ []) 2 (0x07 ∷ []) ≡ pass
  behind_empty : carries sysex8 uneven 12 (0x41 ∷ 0x43 ∷ []) 2 (0x07 ∷ []) ≡ refused 26 8

samples : Samples
unfolding carries other_bytes check check_packets bad_type bad_status bad_count bad_group bad_id status_number first_where status_for payload payload_at size_of octets joined frame packs_at words_of
samples =
    record {
      yes = refl;
      field = refl;
      group = refl;
      id = refl;
      first_packet = refl;
      last_packet = refl;
      shorter = refl;
      longer = refl;
      empty = refl;
      check_first = refl;
      packed = refl;
      filled = refl;
      behind_empty = refl;
    }
