-- Samples of the definitions, by computing.
-- Assumes nothing.
use Rattle.std.specs.Prelude.{None, Some, ◌≡◌, refl, List, [], ◌∷◌, ◌++◌, ℕ, replicate}
use Rattle.refusal.specs.Answer.{Answer, gives, refused}
use Rattle.ump.specs.Word.{words_of}
use Rattle.ump.specs.Packet.{joined}
use Rattle.ump.specs.Packing.{pack, packs, packs_at, packets_for, frame, status_for}
use Rattle.ump.specs.Edits.{replaced}
use Rattle.store.specs.Store.{is_data, body_size, records_after, follows_by, allowed_by, well_formed, data_in, patches_in, dump_of, dumps_in, held, twice, sound}
use Rattle.store.specs.Samples.{one, two, bare, edit}
use Rattle.chain.specs.Restore.{roomed, outside, rebuilt, restored, laid_out, restore, sizes, described, describe}

-- so many words, none of them zero
abbrev pub sevens : ℕ → List ℕ
sevens n = replicate n 7

-- a refusal, with the words as they were
abbrev pub refuses : ℕ → ℕ → Answer ℕ × List ℕ
refuses number n = (refused number 0, sevens n)

-- dump 3: over dump 2, 1..2 by 44
abbrev pub three : List ℕ
three = bare 3 2 ++ (edit 1 2 ++ (0x81 ∷ 0x44 ∷ []))

-- 13 bytes of data, and dump 1 of them
abbrev pub full : List ℕ
full = 0x8D ∷ 1 ∷ 2 ∷ 3 ∷ 4 ∷ 5 ∷ 6 ∷ 7 ∷ 8 ∷ 9 ∷ 10 ∷ 11 ∷ 12 ∷ 13 ∷ []

abbrev pub thirteen : List ℕ
thirteen = 0x01 ∷ 0 ∷ 1 ∷ 0 ∷ 0 ∷ full

-- dump 1 of 14 bytes, and dump 2 over it, without the first
abbrev pub shorter : List ℕ
shorter = thirteen ++ (0x81 ∷ 14 ∷ (bare 2 1 ++ edit 0 1))

-- dump 2 over dump 1 of 13 bytes: five bytes put in, then five taken out
abbrev pub growing : List ℕ
growing = thirteen ++ (bare 2 1 ++ (edit 0 0 ++ (0x85 ∷ 20 ∷ 21 ∷ 22 ∷ 23 ∷ 24 ∷ edit 8 13)))

-- the message of dump 1: group 2, id 7, 41 42
abbrev pub message1 : List ℕ
message1 = 0x52030741 ∷ 0x42000000 ∷ 0 ∷ 0 ∷ []

pub record Samples : Type 0 where
  -- a whole dump, all words past it zero; a delta, whose base stands behind it; a delta on a delta
  pub whole_dump : restore one 1 (sevens 6) ≡ (gives 4, message1 ++ (0 ∷ 0 ∷ []))
  pub one_delta : restore (two ++ one) 2 (sevens 4) ≡ (gives 4, 0x52040741 ∷ 0x43420000 ∷ 0 ∷ 0 ∷ [])
  pub two_deltas : restore (three ++ (two ++ one)) 3 (sevens 4) ≡ (gives 4, 0x52040741 ∷ 0x44420000 ∷ 0 ∷ 0 ∷ [])
  -- a delta without edits is its base
  pub no_edits : restore (one ++ bare 9 1) 9 (sevens 4) ≡ (gives 4, message1)
  -- Missing: the number asked for, one above 65,535, a base; in the empty store
  pub missing : (restore one 5 (sevens 4) ≡ refuses 24 4)
      × (restore one 65537 (sevens 4) ≡ refuses 24 4)
      × (restore two 2 (sevens 4) ≡ refuses 24 4)
      × (restore [] 1 (sevens 4) ≡ refuses 24 4)
  -- Ring: of one, of two, of three; a walk into one that does not hold its start
  pub ring : (restore (bare 3 3) 3 (sevens 4) ≡ refuses 25 4)
      × (restore (bare 3 4 ++ (one ++ bare 4 3)) 3 (sevens 4) ≡ refuses 25 4)
      × (restore (bare 3 4 ++ (bare 4 5 ++ bare 5 3)) 3 (sevens 4) ≡ refuses 25 4)
      × (restore (bare 2 3 ++ (bare 3 4 ++ bare 4 3)) 2 (sevens 4) ≡ refuses 25 4)
  -- a ring that is off the walk refuses nobody
  pub ring_beside : restore (one ++ bare 3 3) 1 (sevens 4) ≡ (gives 4, message1)
  -- 13 bytes, edits +5 then -5, in 4 words: Room is judged on the result, never in the middle of a delta's edits
  pub in_the_middle : restore growing 2 (sevens 4)
      ≡ (gives 4, 0x500E0014 ∷ 0x15161718 ∷ 0x01020304 ∷ 0x05060708 ∷ [])
  -- Room of a base, though its delta itself would have room; Room of no words; Range, of an edit past its base, and of a reversed one
  pub room : (restore shorter 2 (sevens 7) ≡ refuses 14 7) × (restore one 1 [] ≡ refuses 14 0)
  pub range : (restore (one ++ (bare 2 1 ++ edit 2 3)) 2 (sevens 4) ≡ refuses 13 4)
      × (restore (one ++ (bare 2 1 ++ edit 2 1)) 2 (sevens 4) ≡ refuses 13 4)
  -- a base's Room before its delta's Range, a base's Range before its delta's Room; Missing before a delta's Range
  pub order : (restore (shorter ++ (bare 3 1 ++ edit 9 99)) 3 (sevens 4) ≡ refuses 14 4)
      × (restore (one ++ (bare 2 1 ++ (edit 2 3 ++ (bare 3 2 ++ (edit 0 0 ++ full))))) 3 (sevens 4) ≡ refuses 13 4)
      × (restore (two ++ (bare 3 2 ++ edit 9 9)) 3 (sevens 4) ≡ refuses 24 4)
  -- Format and Twice, of dumps off the walk too
  pub unsound : (restore (one ++ (0x04 ∷ [])) 1 (sevens 4) ≡ refuses 21 4)
      × (restore (one ++ (bare 2 1 ++ bare 2 1)) 1 (sevens 4) ≡ refuses 22 4)
  -- what a whole dump says, and a delta; one whose base needs more words than itself
  pub describes : (describe one 1 ≡ gives (record { base = None; group = 2; id = 7; size = 2; words = 4; steps = 0 }))
      × (describe (three ++ (two ++ one)) 3 ≡ gives (record { base = Some 2; group = 2; id = 7; size = 3; words = 4; steps = 2 }))
      × (describe shorter 2 ≡ gives (record { base = Some 1; group = 0; id = 0; size = 13; words = 8; steps = 1 }))
  -- describing is refused as restoring is, but for Long and Room
  pub undescribed : (describe one 5 ≡ refused 24 0)
      × (describe (bare 3 3) 3 ≡ refused 25 0)
      × (describe (one ++ (bare 2 1 ++ edit 2 3)) 2 ≡ refused 13 0)

pub samples : Samples
unfolding is_data body_size records_after follows_by allowed_by well_formed data_in patches_in dump_of dumps_in held twice sound roomed outside rebuilt restored laid_out restore sizes described describe pack packs packs_at packets_for frame status_for joined words_of replaced
samples =
    record {
      whole_dump = refl;
      one_delta = refl;
      two_deltas = refl;
      no_edits = refl;
      missing = (refl, refl, refl, refl);
      ring = (refl, refl, refl, refl);
      ring_beside = refl;
      in_the_middle = refl;
      room = (refl, refl);
      range = (refl, refl);
      order = (refl, refl, refl);
      unsound = (refl, refl);
      describes = (refl, refl, refl);
      undescribed = (refl, refl, refl);
    }
