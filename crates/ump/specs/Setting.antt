-- What a setter leaves of a message: one field of each packet, or one payload byte, is changed, and nothing else.
-- Assumes nothing.
use Rattle.std.specs.Prelude.{◌≡◌, List, ℕ, ◌*◌, ◌≤◌, ◌<◌, length, drop}
use Rattle.refusal.specs.Answer.{gives, Verdict, pass}
use Rattle.ump.specs.Word.{octet_field, shift, part, nibble}
use Rattle.ump.specs.Packet.{Shape, header, id_in, first_word, payload_at, byte_at, payload}
use Rattle.ump.specs.Check.{check, payload_of, Summary, checked}

-- the first word x has become y: type, status and count stay, group and stream id are these
pub record Headed (shape : Shape) (x y group : ℕ) (id : List ℕ) : Type 0 where
  pub type_stays : nibble y 0 ≡ nibble x 0
  pub group_is : nibble y 1 ≡ group
  pub status_stays : nibble y 2 ≡ nibble x 2
  pub count_stays : nibble y 3 ≡ nibble x 3
  pub id_is : id_in shape y ≡ id

-- the same of packet p, where words have become after
abbrev pub HeadedAt : Shape → List ℕ → List ℕ → ℕ → ℕ → List ℕ → Type 0
HeadedAt shape words after p group id = Headed shape (first_word shape words p) (first_word shape after p) group id

-- and the payload bytes in the first word stay
pub record Keeps (shape : Shape) (x y group : ℕ) (id : List ℕ) : Type 0 where
  pub headed : Headed shape x y group id
  pub bytes_stay : (q : ℕ) → header shape ≤ q → q < 4
      → part y (shift octet_field q) shape.width ≡ part x (shift octet_field q) shape.width

-- n packets whose first words have changed so: group and stream id are these, all else stays
pub record Changed (shape : Shape) (words after : List ℕ) (n : ℕ) (groups : ℕ → ℕ) (ids : ℕ → List ℕ) : Type 0 where
  pub as_long : length after ≡ length words
  pub headed : (p : ℕ) → p < n → HeadedAt shape words after p (groups p) (ids p)
  pub bytes_stay : (p i : ℕ) → p < n → i < shape.room → byte_at shape after p i ≡ byte_at shape words p i
  pub payloads_stay : (p : ℕ) → p < n → payload_at shape after p ≡ payload_at shape words p
  pub payload-stays : payload shape after n ≡ payload shape words n
  pub behind_stays : drop (shape.words * n) after ≡ drop (shape.words * n) words

-- a setter's outcome: it is done, the message is accepted, the check answers this and its payload is this; the words behind it stay
pub record SetterDone (shape : Shape) (words : List ℕ) (len : ℕ) (outcome : Verdict × List ℕ) (answer : Summary) (bytes : List ℕ) : Type 0 where
  pub passes : outcome.0 ≡ pass
  pub accepted : check shape outcome.1 len ≡ pass
  pub answers : checked shape outcome.1 len ≡ gives answer
  pub carries : payload_of shape outcome.1 len ≡ bytes
  pub as_long : length outcome.1 ≡ length words
  pub behind_stays : drop len outcome.1 ≡ drop len words
