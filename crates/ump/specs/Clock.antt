-- Samples of clock bytes inside a dump, the first request of document 02, computed.
-- Assumes nothing.
use Rattle.std.specs.Prelude.{◌≡◌, refl, List, [], ◌∷◌, ℕ, replicate}
use Rattle.refusal.specs.Answer.{Answer, gives, refused}
use Rattle.ump.specs.Word.{words_of}
use Rattle.ump.specs.Packet.{joined}
use Rattle.ump.specs.Packing.{status_for, frame, packs_at, packs, packets_for, pack}
use Rattle.ump.specs.Check.{first_where}
use Rattle.ump.specs.Stream.{to_sysex7}
use Rattle.ump.specs.RealTime.{strict_to_sysex7}

-- the call on bytes in group 0, with so many words lent, all 9
abbrev asked : List ℕ → ℕ → Answer ℕ × List ℕ
asked bytes lent = to_sysex7 bytes 0 (replicate lent 9)

-- it is refused so, and the words stay
abbrev Refuses : List ℕ → ℕ → ℕ → ℕ → Type 0
Refuses bytes lent number place = asked bytes lent ≡ (refused number place, replicate lent 9)

-- what the call answers to these
pub record Clock : Type 0 where
  pub passed_over : asked (0xF0 ∷ 0xF8 ∷ 1 ∷ 0xFE ∷ 2 ∷ 0xF7 ∷ []) 3 ≡ (gives 2, 0x30020102 ∷ 0 ∷ 9 ∷ [])
  pub no_data : asked (0xF0 ∷ 0xF8 ∷ 0xF7 ∷ []) 3 ≡ (gives 2, 0x30000000 ∷ 0 ∷ 9 ∷ [])
  -- all eight of them, and the largest data byte
  pub all_eight : asked (0xF0 ∷ 0xF8 ∷ 0xF9 ∷ 0xFA ∷ 0xFB ∷ 0x7F ∷ 0xFC ∷ 0xFD ∷ 0xFE ∷ 0xFF ∷ 0xF7 ∷ []) 2 ≡ (gives 2, 0x30017F00 ∷ 0 ∷ [])
  -- P12 with clock before, between and behind its bytes: the same words
  pub P12-clocked : asked (0xF0 ∷ 0xF8 ∷ 1 ∷ 2 ∷ 0xF8 ∷ 3 ∷ 4 ∷ 5 ∷ 6 ∷ 0xF8 ∷ 0xF8 ∷ 7 ∷ 0xF8 ∷ 0xF7 ∷ []) 5
      ≡ (gives 4, 0x30160102 ∷ 0x03040506 ∷ 0x30310700 ∷ 0 ∷ 9 ∷ [])
  -- 80 to F7 stay refused, F0 and F7 too, at the index in the stream as it came
  pub bytes : Refuses (0xF0 ∷ 1 ∷ 0xF7 ∷ 2 ∷ 0xF7 ∷ []) 2 18 2
      × Refuses (0xF0 ∷ 0xF8 ∷ 0xF8 ∷ 0x90 ∷ 0xF7 ∷ []) 2 18 3
      × Refuses (0xF0 ∷ 0x80 ∷ 0xF8 ∷ 0xF7 ∷ []) 2 18 1
      × Refuses (0xF0 ∷ 0xF8 ∷ 0xF0 ∷ 0xF7 ∷ []) 2 18 2
  -- F8 before F0 or behind F7
  pub frames : Refuses (0xF8 ∷ 0xF0 ∷ 0xF7 ∷ []) 2 17 0 × Refuses (0xF0 ∷ 0xF7 ∷ 0xF8 ∷ []) 2 17 0
  -- six data bytes and a clock byte fit two words
  pub no_room_taken : asked (0xF0 ∷ 1 ∷ 2 ∷ 3 ∷ 0xF8 ∷ 4 ∷ 5 ∷ 6 ∷ 0xF7 ∷ []) 2 ≡ (gives 2, 0x30060102 ∷ 0x03040506 ∷ [])
  -- too few words for the data; 18 comes before 14
  pub rooms : Refuses (0xF0 ∷ 0xF8 ∷ 0xF7 ∷ []) 1 14 0
      × Refuses (0xF0 ∷ 1 ∷ 2 ∷ 3 ∷ 0xF8 ∷ 4 ∷ 5 ∷ 6 ∷ 7 ∷ 0xF7 ∷ []) 3 14 0
      × Refuses (0xF0 ∷ 0xF8 ∷ 0x90 ∷ 0xF7 ∷ []) 1 18 2
  -- the rule of 01 refused them
  pub strict : strict_to_sysex7 (0xF0 ∷ 1 ∷ 0xF8 ∷ 2 ∷ 0xF7 ∷ []) 0 (replicate 2 9) ≡ (refused 18 2, replicate 2 9)

pub clock : Clock
unfolding to_sysex7 strict_to_sysex7 first_where pack packs packs_at packets_for status_for frame joined words_of
clock = record {
  passed_over = refl;
  no_data = refl;
  all_eight = refl;
  P12-clocked = refl;
  bytes = (refl, refl, refl, refl);
  frames = (refl, refl);
  no_room_taken = refl;
  rooms = (refl, refl, refl);
  strict = refl;
}
