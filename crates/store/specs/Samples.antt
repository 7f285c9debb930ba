-- Samples of the definitions, by computing.
-- Assumes nothing.
use Rattle.std.specs.Prelude.{◌≡◌, refl, List, [], ◌∷◌, ◌++◌, ℕ}
use Rattle.refusal.specs.Answer.{gives, refused}
use Rattle.store.specs.Store.{is_data, body_size, records_after, follows_by, allowed_by, well_formed, whole, delta, data_in, patches_in, dump_of, dumps_in, dumps_of, twice, sound, check_store}

-- dump 1: group 2, id 7, data 41 42 in two records
abbrev pub one : List ℕ
one = 0x01 ∷ 0 ∷ 1 ∷ 2 ∷ 7 ∷ 0x81 ∷ 0x41 ∷ 0x81 ∷ 0x42 ∷ []

-- a delta without edits, and an edit, each number below 256
abbrev pub bare : ℕ → ℕ → List ℕ
bare number base = 0x02 ∷ 0 ∷ number ∷ 0 ∷ base ∷ []

abbrev pub edit : ℕ → ℕ → List ℕ
edit from to = 0x03 ∷ 0 ∷ from ∷ 0 ∷ to ∷ []

-- dump 2: over dump 1, 1..1 by 43
abbrev pub two : List ℕ
two = bare 2 1 ++ (edit 1 1 ++ (0x81 ∷ 0x43 ∷ []))

pub record Samples : Type 0 where
  -- the dumps: data joined, each edit with its own; numbers highest byte first
  pub dumps : dumps_of (two ++ one) ≡ delta 2 1 (record { from = 1; to = 1; bytes = 0x43 ∷ [] } ∷ []) ∷ whole 1 2 7 (0x41 ∷ 0x42 ∷ []) ∷ []
  pub highest_first : dumps_of (0x02 ∷ 1 ∷ 0 ∷ 0 ∷ 2 ∷ []) ≡ delta 256 2 [] ∷ []
  -- how many there are; the empty store is good, and so is a base that stands behind its delta
  pub counts : (check_store [] ≡ gives 0) × (check_store (two ++ one) ≡ gives 2)
  -- a dump that is not wanted any more is read as before
  pub unwanted : (dumps_of (0x12 ∷ 0 ∷ 2 ∷ 0 ∷ 1 ∷ (0x11 ∷ 0 ∷ 1 ∷ 2 ∷ 7 ∷ (0x81 ∷ 0x41 ∷ []))) ≡ delta 2 1 [] ∷ whole 1 2 7 (0x41 ∷ []) ∷ [])
      × (check_store (0x12 ∷ 0 ∷ 2 ∷ 0 ∷ 1 ∷ (0x11 ∷ 0 ∷ 1 ∷ 2 ∷ 7 ∷ (0x81 ∷ 0x41 ∷ []))) ≡ gives 2)
  -- Format: unknown kinds, 10 and 13 hex among them; a short body; data behind a delta; an edit behind a whole dump; either at the start;
  -- group 16; an edit that begins before the end of the one before it
  pub unknown : (check_store (one ++ (0x04 ∷ [])) ≡ refused 21 0)
      × (check_store (0x10 ∷ 0 ∷ 1 ∷ 2 ∷ 7 ∷ []) ≡ refused 21 0)
      × (check_store (bare 2 1 ++ (0x13 ∷ 0 ∷ 1 ∷ 0 ∷ 1 ∷ [])) ≡ refused 21 0)
      × (check_store (one ++ (0x80 ∷ [])) ≡ refused 21 0)
      × (check_store (one ++ (0x8E ∷ one)) ≡ refused 21 0)
  pub short : (check_store (one ++ (0x82 ∷ 1 ∷ [])) ≡ refused 21 0) × (check_store (0x01 ∷ 0 ∷ 1 ∷ 2 ∷ []) ≡ refused 21 0)
  pub misplaced : (check_store (one ++ (bare 2 1 ++ (0x81 ∷ 1 ∷ []))) ≡ refused 21 0)
      × (check_store (one ++ edit 0 0) ≡ refused 21 0)
      × (check_store (edit 0 0) ≡ refused 21 0)
      × (check_store (0x81 ∷ 1 ∷ []) ≡ refused 21 0)
  pub group : check_store (0x01 ∷ 0 ∷ 1 ∷ 16 ∷ 0 ∷ []) ≡ refused 21 0
  pub order : check_store (one ++ (bare 2 1 ++ (edit 0 2 ++ edit 1 3))) ≡ refused 21 0
  -- no Format: edits that touch; one that is reversed; one that begins before the end of an edit of another delta
  pub ordered : (check_store (one ++ (bare 2 1 ++ (edit 0 2 ++ edit 2 2))) ≡ gives 2)
      × (check_store (one ++ (bare 2 1 ++ edit 2 1)) ≡ gives 2)
      × (check_store (one ++ (bare 2 1 ++ (edit 0 2 ++ (bare 3 1 ++ edit 1 1)))) ≡ gives 3)
  -- Twice, a whole dump's number or a delta's; Format first, though it stands behind
  pub used_twice : (check_store (one ++ bare 1 1) ≡ refused 22 0) × (check_store (one ++ (0x12 ∷ 0 ∷ 1 ∷ 0 ∷ 1 ∷ [])) ≡ refused 22 0)
      × (check_store (one ++ (bare 1 1 ++ (0x04 ∷ []))) ≡ refused 21 0)

pub samples : Samples
unfolding is_data body_size records_after follows_by allowed_by well_formed data_in patches_in dump_of dumps_in twice sound
samples =
    record {
      dumps = refl;
      highest_first = refl;
      counts = (refl, refl);
      unwanted = (refl, refl);
      unknown = (refl, refl, refl, refl, refl);
      short = (refl, refl);
      misplaced = (refl, refl, refl, refl);
      group = refl;
      order = refl;
      ordered = (refl, refl, refl);
      used_twice = (refl, refl, refl);
    }
