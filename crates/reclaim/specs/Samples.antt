-- Samples of the definitions, by computing.
-- Assumes nothing.
use Rattle.std.specs.Prelude.{◌≡◌, refl, List, [], ◌∷◌, ◌++◌, ℕ, replicate}
use Rattle.refusal.specs.Answer.{gives, refused, pass}
use Rattle.store.specs.Store.{is_data, body_size, records_after, follows_by, allowed_by, well_formed, data_in, patches_in, dump_of, dumps_in, held, twice, sound}
use Rattle.store.specs.Samples.{one, two, bare}
use Rattle.chain.specs.Restore.{rebuilt, restored, restore}
use Rattle.chain.specs.Samples.{three}
use Rattle.reclaim.specs.Reclaim.{bytes_in, marked_kind, marked_in, mark, wanted_in, walked, reaches, kept_in, collected, collect}

-- a delta that is not wanted any more, each number below 256
abbrev pub gone : ℕ → ℕ → List ℕ
gone number base = 0x12 ∷ 0 ∷ number ∷ 0 ∷ base ∷ []

-- dump 1, not wanted any more
abbrev pub one_gone : List ℕ
one_gone = 0x11 ∷ 0 ∷ 1 ∷ 2 ∷ 7 ∷ 0x81 ∷ 0x41 ∷ 0x81 ∷ 0x42 ∷ []

pub record Samples : Type 0 where
  -- a whole dump is marked, a delta is, one already marked stays
  pub marks : (mark (two ++ one) 1 ≡ (pass, two ++ one_gone))
      × (mark (bare 2 1 ++ one) 2 ≡ (pass, gone 2 1 ++ one))
      × (mark (two ++ one_gone) 1 ≡ (pass, two ++ one_gone))
  -- Missing; the check's refusals first
  pub mark_missing : (mark one 2 ≡ (refused 24 0, one)) × (mark [] 1 ≡ (refused 24 0, [])) × (mark one 65537 ≡ (refused 24 0, one))
  pub mark_refused : (mark (one ++ one) 5 ≡ (refused 22 0, one ++ one)) × (mark (0x04 ∷ []) 5 ≡ (refused 21 0, 0x04 ∷ []))
  -- nothing unwanted; nothing at all; all unwanted: length 0, all zero
  pub all_wanted : (collect (two ++ one) ≡ (gives 21, two ++ one)) × (collect [] ≡ (gives 0, []))
  pub none_wanted : collect (gone 2 1 ++ one_gone) ≡ (gives 0, replicate 14 0)
  -- the unwanted base of a wanted delta stays; an unwanted delta goes, its base with it or not
  pub base_stays : collect (two ++ one_gone) ≡ (gives 21, two ++ one_gone)
  pub delta_goes : (collect (gone 2 1 ++ one) ≡ (gives 9, one ++ replicate 5 0)) × (collect (one ++ gone 2 1) ≡ (gives 9, one ++ replicate 5 0))
  -- a chain of three with the middle unwanted stays; with the last unwanted, that goes
  pub middle : collect (bare 3 2 ++ (gone 2 1 ++ one)) ≡ (gives 19, bare 3 2 ++ (gone 2 1 ++ one))
  pub last : collect (gone 3 2 ++ (bare 2 1 ++ one)) ≡ (gives 14, bare 2 1 ++ (one ++ replicate 5 0))
  -- a ring of unwanted dumps goes; one that a wanted dump leads into stays, and so does a ring of one wanted dump
  pub ring_goes : collect (gone 2 3 ++ (one ++ gone 3 2)) ≡ (gives 9, one ++ replicate 10 0)
  pub ring_stays : collect (gone 2 3 ++ (bare 4 3 ++ (gone 3 2 ++ one_gone))) ≡ (gives 15, gone 2 3 ++ (bare 4 3 ++ (gone 3 2 ++ replicate 9 0)))
  pub ring_of_one : collect (bare 2 2 ++ one_gone) ≡ (gives 5, bare 2 2 ++ replicate 9 0)
  -- what stands on a walk that ends Missing stays
  pub missing_stays : collect (gone 2 9 ++ (one_gone ++ bare 3 2)) ≡ (gives 10, gone 2 9 ++ (bare 3 2 ++ replicate 9 0))
  -- though the answer would be Missing without it too
  pub missing_anyway : (words : List ℕ) → restore (bare 3 2) 3 words ≡ restore (gone 2 9 ++ bare 3 2) 3 words
  -- refused: Format, Twice
  pub collect_refused : (collect (one ++ one) ≡ (refused 22 0, one ++ one)) × (collect (0x13 ∷ []) ≡ (refused 21 0, 0x13 ∷ []))
  -- edits and data go and stay with their dump
  pub edits_go : collect (0x12 ∷ 0 ∷ 2 ∷ 0 ∷ 1 ∷ 0x03 ∷ 0 ∷ 1 ∷ 0 ∷ 1 ∷ 0x81 ∷ 0x43 ∷ one) ≡ (gives 9, one ++ replicate 12 0)
  pub edits_stay : collect (0x12 ∷ 0 ∷ 2 ∷ 0 ∷ 1 ∷ 0x03 ∷ 0 ∷ 1 ∷ 0 ∷ 1 ∷ 0x81 ∷ 0x43 ∷ (one ++ three)) ≡ (gives 33, 0x12 ∷ 0 ∷ 2 ∷ 0 ∷ 1 ∷ 0x03 ∷ 0 ∷ 1 ∷ 0 ∷ 1 ∷ 0x81 ∷ 0x43 ∷ (one ++ three))

pub samples : Samples
unfolding is_data body_size records_after follows_by allowed_by well_formed data_in patches_in dump_of dumps_in held twice sound rebuilt restored restore bytes_in marked_kind marked_in mark wanted_in walked reaches kept_in collected collect
samples =
    record {
      marks = (refl, refl, refl);
      mark_missing = (refl, refl, refl);
      mark_refused = (refl, refl);
      all_wanted = (refl, refl);
      none_wanted = refl;
      base_stays = refl;
      delta_goes = (refl, refl);
      middle = refl;
      last = refl;
      ring_goes = refl;
      ring_stays = refl;
      ring_of_one = refl;
      missing_stays = refl;
      missing_anyway = λ words. refl;
      collect_refused = (refl, refl);
      edits_go = refl;
      edits_stay = refl;
    }
