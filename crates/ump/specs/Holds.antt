-- A message in words that are lent: what it carries, that it is the fewest-packet form, and what stands behind it after edits.
-- Assumes nothing.
use Rattle.std.specs.Prelude.{◌≡◌, cond, List, ℕ, ◌≤◌, ltb, ℤ, length, get_or, take}
use Rattle.refusal.specs.Answer.{Answer, gives}
use Rattle.ump.specs.Packet.{Shape, group_at, id_at}
use Rattle.ump.specs.Packing.{words_for, pack}
use Rattle.ump.specs.Check.{Valid, payload_of}
use Rattle.ump.specs.Splice.{Spliced}

-- of so many words lent the first len hold a valid message of this group and id that carries these bytes
pub record Holds (shape : Shape) (group : ℕ) (id bytes : List ℕ) (lent : ℕ) (words : List ℕ) (len : ℕ) : Type 0 where
  pub valid : Valid shape words len
  pub group_is : group_at shape words 0 ≡ group
  pub id_is : id_at shape words 0 ≡ id
  pub carries : payload_of shape words len ≡ bytes
  pub buffer : length words ≡ lent

-- and it is the fewest-packet form of these bytes
pub record Fewest (shape : Shape) (group : ℕ) (id bytes : List ℕ) (lent : ℕ) (words : List ℕ) (len : ℕ) : Type 0 where
  pub length_is : len ≡ words_for shape (length bytes)
  pub packed : take len words ≡ pack shape group id bytes
  pub holds : Holds shape group id bytes lent words len

-- These words are now `left`, with a message of `new` words; the longest that stood there had `most`. Behind it stand zeros as far as that
-- reached, else the words as they were.
pub record BehindMessage (words : List ℕ) (most : ℕ) (left : List ℕ) (new : ℕ) : Type 0 where
  pub word : (i : ℕ) → new ≤ i → get_or left i 0 ≡ cond (ltb i most) 0 (get_or words i 0)

-- an outcome that is no refusal, and whose message is the fewest-packet form of these bytes
pub record Packed (shape : Shape) (group : ℕ) (id bytes : List ℕ) (lent : ℕ) (outcome : Answer Spliced × List ℕ) : Type 0 where
  pub grew : ℤ
  pub accepted : outcome.0 ≡ gives (record { length = words_for shape (length bytes); growth = grew })
  pub holds : Holds shape group id bytes lent outcome.1 (words_for shape (length bytes))
  pub fewest : take (words_for shape (length bytes)) outcome.1 ≡ pack shape group id bytes
