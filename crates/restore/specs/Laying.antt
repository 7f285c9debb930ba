-- What laying out a dump means. For the code's own promises; no public promise needs it.
-- Assumes nothing.
use Rattle.refusal.specs.declared.Refusal.{Refusal}
use Rattle.std.specs.Prelude.{Result, Ok, Err, Option, Some, None, ◌≡◌, List, ℕ, ◌*◌, ◌≤◌, ◌<◌, length, take}
use Rattle.refusal.specs.Answer.{Answer, gives, refused, pass}
use Rattle.refusal.specs.Number.{number_of}
use Rattle.ump.specs.Limits.{most_words}
use Rattle.store.specs.Store.{most_dumps, sound}
use Rattle.store.specs.Places.{Noted}
use Rattle.chain.specs.Restore.{Payload}
use Rattle.chain.specs.Laying.{Past}
use Rattle.chain.specs.declared.edits.Reached.{Reached}
use Rattle.restore.specs.declared.restoring.Held.{Held}

-- these bytes are laid out, and the data from a place on is passed
pub record Copied (store : List ℕ) (at : ℕ) (bytes : List ℕ) (reached : Reached) (after : List ℕ) : Type 0 where
  pub fits : reached.size ≤ length after
  pub laid : take reached.size after ≡ bytes
  pub past : Past store at reached.at

-- or they have no room in the scratch
pub record Ran (store : List ℕ) (at : ℕ) (bytes before : List ℕ) (r : (Option Reached)) (after : List ℕ) : Type 0 where
  pub done : (reached : Reached) → r ≡ Some reached → Copied store at bytes reached after
  pub over : r ≡ None → length before < length bytes

-- these bytes are laid out, or have no room in the scratch
pub record Filling (bytes before : List ℕ) (r : (Option ℕ)) (after : List ℕ) : Type 0 where
  pub sized : (size : ℕ) → r ≡ Some size → (size ≤ length after) × (take size after ≡ bytes)
  pub over : r ≡ None → length before < length bytes

abbrev pub laid_meaning : (Result Held Refusal) → List ℕ → Answer Payload
laid_meaning (Ok held) scratch = gives (record { group = held.group; id = held.id; bytes = take held.size scratch })
laid_meaning (Err refusal) scratch = refused (number_of refusal) 0

abbrev pub FitsIn : (Result Held Refusal) → ℕ → Type 0
FitsIn (Ok held) n = held.size ≤ n
FitsIn (Err refusal) n = Unit {0}

-- the answer, its bytes in the scratch
pub record Lays (answer : Answer Payload) (r : (Result Held Refusal)) (scratch : List ℕ) : Type 0 where
  pub means : laid_meaning r scratch ≡ answer
  pub inside : FitsIn r (length scratch)

abbrev pub base_in : Held → List ℕ → Payload
base_in held scratch = record { group = held.group; id = held.id; bytes = take held.size scratch }

-- a good store whose dumps stand at these places, and words that may be lent
pub record Readied (store places words : List ℕ) : Type 0 where
  pub noted : Noted store places
  pub good : sound store ≡ pass
  pub few : length places ≤ most_dumps
  pub lent : length words ≤ most_words

-- a scratch of 13 bytes for each 4 words lent: what has no room in it has none in the words
abbrev pub Roomy : List ℕ → List ℕ → Type 0
Roomy words scratch = 13 * length words ≤ 4 * length scratch
