-- What looking for a byte of a dump means. For the code's own promises; no public promise needs it.
-- Assumes nothing.
use Rattle.std.specs.Prelude.{◌≡◌, false, List, ℕ, ◌≤◌, ◌<◌, length, get_or}
use Rattle.refusal.specs.Answer.{gives, pass}
use Rattle.ump.specs.Edits.{Patch, replaced}
use Rattle.store.specs.Store.{most_dumps, dumps_of, sound}
use Rattle.store.specs.Places.{Noted}
use Rattle.chain.specs.Restore.{Payload, outside, restored, unlimited}
use Rattle.look_store.specs.declared.looking.Source.{Source}
use Rattle.look_store.specs.declared.looking.Source.TheVariants as source

-- byte i of a base with all edits of a delta put in is byte j of the base, whatever bytes that has
pub record BaseByte (patches : List Patch) (i j : ℕ) : Type 0 where
  pub byte : (bytes : List ℕ) → outside (length bytes) patches ≡ false → get_or (replaced bytes patches) i 0 ≡ get_or bytes j 0
  pub inside : (bytes : List ℕ) → outside (length bytes) patches ≡ false → i < length (replaced bytes patches) → j < length bytes

-- or has this value
pub record EditByte (patches : List Patch) (i value : ℕ) : Type 0 where
  pub byte : (bytes : List ℕ) → outside (length bytes) patches ≡ false → get_or (replaced bytes patches) i 0 ≡ value

pub record ComesFrom (patches : List Patch) (i : ℕ) (r : Source) : Type 0 where
  pub base : (j : ℕ) → r ≡ source.Base j → BaseByte patches i j
  pub edit : (value : ℕ) → r ≡ source.Edit value → EditByte patches i value

-- in a good store, whose dumps stand at these places, the dump of a number is restored without a limit, and has a byte at this position
pub record Looks (store places : List ℕ) (number left position : ℕ) : Type 0 where
  pub noted : Noted store places
  pub good : sound store ≡ pass
  pub payload : Payload
  pub is : restored unlimited (dumps_of store) left number ≡ gives payload
  pub inside : position < length payload.bytes

-- the byte at a position of the dump of a number, restored without a limit
pub record Located (store : List ℕ) (number left position value : ℕ) : Type 0 where
  pub is : (payload : Payload) → restored unlimited (dumps_of store) left number ≡ gives payload → value ≡ get_or payload.bytes position 0

-- a good store whose dumps stand at these places
pub record Indexed (store places : List ℕ) : Type 0 where
  pub noted : Noted store places
  pub good : sound store ≡ pass
  pub few : length places ≤ most_dumps
