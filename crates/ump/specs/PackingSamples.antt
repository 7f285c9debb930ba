-- Samples at the edges of what document 02 took out, computed by the definitions that stand and by those that stood before: the words needed
-- (T-03), packing and splice (T-12).
-- Assumes nothing.
use Rattle.std.specs.Prelude.{◌≡◌, refl, List, [], ◌∷◌, map, ℕ, replicate}
use Rattle.refusal.specs.Answer.{Answer, gives, refused}
use Rattle.ump.specs.Word.{octets, words_of}
use Rattle.ump.specs.Packet.{Shape, sysex8, sysex7, size_of, payload_at, joined, payload}
use Rattle.ump.specs.Packing.{status_for, frame, packs_at, packs, packets_for, words_for, pack}
use Rattle.ump.specs.Check.{first_where, bad_type, bad_status, bad_count, bad_group, bad_id, status_number, check_packets, check}
use Rattle.ump.specs.Splice.{Spliced, stored, rewritten, repack, splice}
use Rattle.ump.specs.Withdrawn.{words_before, repack_before, splice_before}
use Rattle.ump.specs.Samples.{message2, message4}

-- the words that so many bytes need: now, and before
abbrev Needs : Shape → List ℕ → List ℕ → Type 0
Needs shape sizes words = (map (words_for shape) sizes ≡ words) × (map (words_before shape) sizes ≡ words)

-- a message of eight words packed, and bytes of P2's payload replaced by 14 in its four words: now, and before
abbrev Packs : List ℕ → Answer ℕ × List ℕ → Type 0
Packs words outcome = (repack sysex8 words 8 ≡ outcome) × (repack_before sysex8 words 8 ≡ outcome)

abbrev Splices : ℕ → ℕ → Answer Spliced × List ℕ → Type 0
Splices from to outcome =
    (splice sysex8 message2 4 from to (replicate 14 7) ≡ outcome) × (splice_before sysex8 message2 4 from to (replicate 14 7) ≡ outcome)

-- two packets that are full
abbrev full : List ℕ
full = 0x511E0509 ∷ 9 ∷ 9 ∷ 9 ∷ 0x513E0509 ∷ 9 ∷ 9 ∷ 9 ∷ []

-- two packets of two groups
abbrev apart : List ℕ
apart = 0x501E0009 ∷ 9 ∷ 9 ∷ 9 ∷ 0x513E0009 ∷ 9 ∷ 9 ∷ 9 ∷ []

pub record PackingSamples : Type 0 where
  -- none, one packet, a byte more; the largest message, a byte more; the largest number of 64 bits
  pub words8 : Needs sysex8 (0 ∷ 1 ∷ 13 ∷ 14 ∷ 26 ∷ 27 ∷ 53248 ∷ 53249 ∷ 0xFFFFFFFFFFFFFFFF ∷ [])
      (4 ∷ 4 ∷ 4 ∷ 8 ∷ 8 ∷ 12 ∷ 16384 ∷ 16388 ∷ 5675921253449092808 ∷ [])
  pub words7 : Needs sysex7 (0 ∷ 1 ∷ 6 ∷ 7 ∷ 12 ∷ 13 ∷ 49152 ∷ 49153 ∷ 0xFFFFFFFFFFFFFFFF ∷ [])
      (2 ∷ 2 ∷ 2 ∷ 4 ∷ 4 ∷ 6 ∷ 16384 ∷ 16386 ∷ 6148914691236517206 ∷ [])
  -- as many words as are needed, in the message and lent
  pub full-stays : Packs full (gives 8, full)
  -- fewer
  pub fewer : Packs message4 (gives 4, 0x500E0001 ∷ 0x02030405 ∷ 0x06070809 ∷ 0x0A0B0C0D ∷ replicate 4 0)
  -- what the check refuses
  pub group : Packs apart (refused 11 4, apart)
  -- Range, reversed and past the end, comes before Room
  pub range : Splices 2 1 (refused 13 0, message2) × Splices 1 3 (refused 13 0, message2)
  pub room : Splices 1 2 (refused 14 0, message2)

pub packing_samples : PackingSamples
unfolding words_before repack repack_before splice splice_before rewritten stored check check_packets bad_type bad_status bad_count bad_group bad_id status_number first_where payload payload_at size_of octets pack packs packs_at packets_for status_for frame joined words_of
packing_samples = record {
  words8 = (refl, refl);
  words7 = (refl, refl);
  full-stays = (refl, refl);
  fewer = (refl, refl);
  group = (refl, refl);
  range = ((refl, refl), (refl, refl));
  room = (refl, refl);
}
