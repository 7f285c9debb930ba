-- Samples of the definition, by computing.
-- Assumes nothing.
use Rattle.std.specs.Prelude.{◌≡◌, refl, List, [], ◌∷◌, ◌++◌, ℕ}
use Rattle.refusal.specs.Answer.{gives, refused}
use Rattle.ump.specs.Packet.{joined}
use Rattle.ump.specs.Edits.{replaced}
use Rattle.store.specs.Store.{is_data, body_size, records_after, follows_by, allowed_by, well_formed, data_in, patches_in, dump_of, dumps_in, held, twice, sound}
use Rattle.store.specs.Samples.{one, two, bare, edit}
use Rattle.chain.specs.Restore.{roomed, outside, rebuilt, restored}
use Rattle.chain.specs.Samples.{three, shorter, growing}
use Rattle.look_store.specs.Byte.{byte_of_dump}

-- dump 2 over dump 1: an edit that takes nothing out and puts nothing in
abbrev pub idle : List ℕ
idle = one ++ (bare 2 1 ++ edit 1 1)

pub record Samples : Type 0 where
  -- a whole dump of 41 42, each byte in a record of its own, and the position behind the last
  pub whole_dump : (byte_of_dump one 1 0 ≡ gives 0x41) × (byte_of_dump one 1 1 ≡ gives 0x42) × (byte_of_dump one 1 2 ≡ refused 13 0)
  -- a delta, 41 43 42: the base before its edit, the edit, the base behind it, and past
  pub one_delta : (byte_of_dump (two ++ one) 2 0 ≡ gives 0x41)
      × (byte_of_dump (two ++ one) 2 1 ≡ gives 0x43)
      × (byte_of_dump (two ++ one) 2 2 ≡ gives 0x42)
      × (byte_of_dump (two ++ one) 2 3 ≡ refused 13 0)
  -- a delta on a delta, 41 44 42: a byte of the whole dump, of the upper edit, and of the whole dump behind both edits
  pub two_deltas : (byte_of_dump (three ++ (two ++ one)) 3 0 ≡ gives 0x41)
      × (byte_of_dump (three ++ (two ++ one)) 3 1 ≡ gives 0x44)
      × (byte_of_dump (three ++ (two ++ one)) 3 2 ≡ gives 0x42)
      × (byte_of_dump (three ++ (two ++ one)) 3 3 ≡ refused 13 0)
  -- a delta without edits is its base
  pub no_edits : (byte_of_dump (one ++ bare 9 1) 9 1 ≡ gives 0x42) × (byte_of_dump (one ++ bare 9 1) 9 2 ≡ refused 13 0)
  -- an edit without data takes bytes out; two edits, five bytes put in and five taken out
  pub cut : (byte_of_dump shorter 2 0 ≡ gives 2) × (byte_of_dump shorter 2 12 ≡ gives 14) × (byte_of_dump shorter 2 13 ≡ refused 13 0)
  pub two_edits : (byte_of_dump growing 2 4 ≡ gives 24)
      × (byte_of_dump growing 2 5 ≡ gives 1)
      × (byte_of_dump growing 2 12 ≡ gives 8)
      × (byte_of_dump growing 2 13 ≡ refused 13 0)
  -- an edit that is empty changes nothing
  pub empty : (byte_of_dump idle 2 0 ≡ gives 0x41) × (byte_of_dump idle 2 1 ≡ gives 0x42) × (byte_of_dump idle 2 2 ≡ refused 13 0)
  -- Missing, the number asked for or a base, and Ring, before Range of the position
  pub missing : (byte_of_dump one 5 0 ≡ refused 24 0) × (byte_of_dump two 2 9 ≡ refused 24 0)
  pub ring : (byte_of_dump (bare 3 3) 3 0 ≡ refused 25 0) × (byte_of_dump (bare 3 4 ++ (one ++ bare 4 3)) 3 9 ≡ refused 25 0)
  -- Range of an edit, for each position; of a dump that the walk does not come to it refuses nobody
  pub range : (byte_of_dump (one ++ (bare 2 1 ++ edit 2 3)) 2 0 ≡ refused 13 0)
      × (byte_of_dump (one ++ (bare 2 1 ++ edit 2 1)) 2 0 ≡ refused 13 0)
      × (byte_of_dump (one ++ (bare 2 1 ++ edit 2 3)) 1 0 ≡ gives 0x41)
  -- Format and Twice, of dumps off the walk too
  pub unsound : (byte_of_dump (one ++ (0x04 ∷ [])) 1 0 ≡ refused 21 0) × (byte_of_dump (one ++ (bare 2 1 ++ bare 2 1)) 1 9 ≡ refused 22 0)

pub samples : Samples
unfolding byte_of_dump is_data body_size records_after follows_by allowed_by well_formed data_in patches_in dump_of dumps_in held twice sound roomed outside rebuilt restored joined replaced
samples =
    record {
      whole_dump = (refl, refl, refl);
      one_delta = (refl, refl, refl, refl);
      two_deltas = (refl, refl, refl, refl);
      no_edits = (refl, refl);
      cut = (refl, refl, refl);
      two_edits = (refl, refl, refl, refl);
      empty = (refl, refl, refl);
      missing = (refl, refl);
      ring = (refl, refl);
      range = (refl, refl, refl);
      unsound = (refl, refl);
    }
