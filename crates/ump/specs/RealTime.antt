-- What is said of real-time bytes in a byte stream, of any call that writes one. The rule of document 01 stands here for that alone.
-- Assumes nothing.
use Rattle.std.specs.Prelude.{◌≡◌, true, not, cond, ◌&&◌, List, [], ◌∷◌, ℕ, suc, ◌+◌, ◌<◌, eqb, ltb, length}
use Rattle.refusal.specs.Answer.{Answer, gives, refused}
use Rattle.ump.specs.Word.{Below}
use Rattle.ump.specs.Packet.{sysex7}
use Rattle.ump.specs.Check.{payload_of, summary, checked}
use Rattle.ump.specs.Splice.{spliced}
use Rattle.ump.specs.Stream.{between, real_time, without_real_time, data_of, to_packets, to_sysex7}

-- the rule of 01, which 02 found too strict: 80 to FF are bad, and all that stands between is data
unfoldable pub strict_to_sysex7 : List ℕ → ℕ → List ℕ → Answer ℕ × List ℕ
strict_to_sysex7 bytes group words = to_packets (ltb 0x7F) between bytes group words

-- the answer once n bytes are put in at index k: the place of 18 moves by n exactly if it is k or more
abbrev pub place_moved : ℕ → ℕ → Answer ℕ → Answer ℕ
place_moved k n (gives words) = gives words
place_moved k n (refused number place) = refused number (cond (eqb number 18 && not (ltb place k)) (place + n) place)

-- a call: on these bytes, this group and these words it answers this and leaves these words
abbrev pub Writer : Type 1
Writer = List ℕ → ℕ → List ℕ → Answer ℕ → List ℕ → Type 0

-- such a call passes over real-time bytes
pub record PassesOver (Writes : Writer) : Type 0 where
  -- where the definition accepts, there is such a call, so that nothing here is said of none
  pub answered : (bytes : List ℕ) (group : ℕ) (words : List ℕ) (n : ℕ) (left : List ℕ) → to_sysex7 bytes group words ≡ (gives n, left)
      → Writes bytes group words (gives n) left
  -- what an accepted stream leaves is a valid message of its group that carries the data, and nothing else
  pub carried : (bytes : List ℕ) (group : ℕ) (words : List ℕ) (n : ℕ) (left : List ℕ) → Writes bytes group words (gives n) left
      → (checked sysex7 left n ≡ gives (summary group [] (length (data_of bytes)) n))
      × (payload_of sysex7 left n ≡ data_of bytes)
  -- without real-time bytes it answers and leaves what the rule of 01 says
  pub as_before : (bytes : List ℕ) (group : ℕ) (words : List ℕ) (answer : Answer ℕ) (left : List ℕ) → Below 0xF8 (between bytes)
      → Writes bytes group words answer left → (answer, left) ≡ strict_to_sysex7 bytes group words
  -- real-time bytes put in at index k, strictly between F0 and F7: the same words are left, and of the answer only the place of 18 moves
  pub put_in : (bytes : List ℕ) (group : ℕ) (words : List ℕ) (answer : Answer ℕ) (left : List ℕ) → Writes bytes group words answer left
      → (extra : List ℕ) → without_real_time extra ≡ [] → (k : ℕ) → 0 < k → k < length bytes
      → (then : Answer ℕ) (after : List ℕ) → Writes (spliced bytes k k extra) group words then after
      → (then ≡ place_moved k (length extra) answer) × (after ≡ left)
  -- one of them changes no packet and no length
  pub one_accepted : (bytes : List ℕ) (group : ℕ) (words : List ℕ) (n : ℕ) (left : List ℕ) → Writes bytes group words (gives n) left
      → (byte : ℕ) → real_time byte ≡ true → (k : ℕ) → 0 < k → k < length bytes
      → (then : Answer ℕ) (after : List ℕ) → Writes (spliced bytes k k (byte ∷ [])) group words then after
      → (then ≡ gives n) × (after ≡ left)
  -- and moves the place of 18 by one exactly if it stands before it
  pub one-moved : (bytes : List ℕ) (group : ℕ) (words : List ℕ) (place : ℕ) (left : List ℕ)
      → Writes bytes group words (refused 18 place) left → (byte : ℕ) → real_time byte ≡ true → (k : ℕ) → 0 < k → k < length bytes
      → (then : Answer ℕ) (after : List ℕ) → Writes (spliced bytes k k (byte ∷ [])) group words then after
      → then ≡ refused 18 (cond (ltb place k) place (suc place))

-- each outcome of such a call is the definition's, and there is one where that accepts
pub record PromisedWriter (Writes : Writer) : Type 0 where
  pub says : (bytes : List ℕ) (group : ℕ) (words : List ℕ) (answer : Answer ℕ) (left : List ℕ) → Writes bytes group words answer left
      → (answer, left) ≡ to_sysex7 bytes group words
  pub can_answer : (bytes : List ℕ) (group : ℕ) (words : List ℕ) (n : ℕ) (left : List ℕ) → to_sysex7 bytes group words ≡ (gives n, left)
      → Writes bytes group words (gives n) left
