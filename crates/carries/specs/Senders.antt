-- What is said of checking what other senders write (02, T-04), of any call.
-- Assumes nothing.
use Rattle.std.specs.Prelude.{◌≡◌, List, ◌++◌, ℕ, suc, ◌*◌, ◌/◌, ◌^◌, ◌≤◌, ◌<◌, length, get_or, take}
use Rattle.refusal.specs.Answer.{refused, Verdict, pass}
use Rattle.refusal.specs.Tight.{HasAnswer}
use Rattle.ump.specs.Word.{Below}
use Rattle.ump.specs.Packet.{Shape, group_at, id_at, joined, payload}
use Rattle.ump.specs.Packing.{packs_filled, LaidOut}
use Rattle.ump.specs.Limits.{most_words}
use Rattle.ump.specs.Check.{check, payload_of, Valid}
use Rattle.carries.specs.Carries.{carries}

-- the call, by the outcomes that it allows: the words, the length, the payload, the group, the stream id
abbrev pub Carrier : Type 1
Carrier = List ℕ → ℕ → List ℕ → ℕ → List ℕ → Verdict → Type 0

-- ---- a yes

-- a valid message with this payload, group and stream id
pub record Carries (shape : Shape) (words : List ℕ) (len : ℕ) (bytes : List ℕ) (group : ℕ) (id : List ℕ) : Type 0 where
  pub valid : Valid shape words len
  pub payload_is : payload_of shape words len ≡ bytes
  pub group_is : group_at shape words 0 ≡ group
  pub id_is : id_at shape words 0 ≡ id

-- the words begin with the payload packed by the layout rules: in pieces, of any size that a packet has room for, none included, that join
-- to it, each filled up with any octets; the message ends with the last packet
pub record Packing (shape : Shape) (words : List ℕ) (len : ℕ) (bytes : List ℕ) (group : ℕ) (id : List ℕ) : Type 0 where
  pub packets : ℕ
  pub piece : ℕ → List ℕ
  pub filler : ℕ → List ℕ
  pub behind : List ℕ
  pub laid_out : LaidOut shape group id packets piece filler
  pub joins : joined piece packets ≡ bytes
  pub words_are : words ≡ packs_filled shape group id packets piece filler ++ behind
  pub ends : len ≡ shape.words * packets
  pub short_enough : length words ≤ most_words

-- ---- a no

-- packet p, of n, holds the first byte that differs within the common length; the packets before it carry just the payload's beginning
pub record FirstOther (shape : Shape) (words : List ℕ) (n : ℕ) (bytes : List ℕ) (p : ℕ) : Type 0 where
  pub index : ℕ
  pub not_before : length (payload shape words p) ≤ index
  pub in_packet : index < length (payload shape words (suc p))
  pub in_payload : index < length bytes
  pub differs : get_or (payload shape words n) index 0 ≡ get_or bytes index 0 → ⊥
  pub same_before : (i : ℕ) → i < index → get_or (payload shape words n) i 0 ≡ get_or bytes i 0
  pub beginning : payload shape words p ≡ take (length (payload shape words p)) bytes

-- why a valid message is not the one that is asked for, in this order, and the place named
pub data Other (shape : Shape) (words : List ℕ) (len : ℕ) (bytes : List ℕ) (group : ℕ) (id : List ℕ) : ℕ → Type 0 where
  group_differs : (group_at shape words 0 ≡ group → ⊥) → Other shape words len bytes group id 0
  id_differs : group_at shape words 0 ≡ group → (id_at shape words 0 ≡ id → ⊥) → Other shape words len bytes group id 0
  byte_differs : group_at shape words 0 ≡ group → id_at shape words 0 ≡ id → (p : ℕ) → p < len / shape.words
      → FirstOther shape words (len / shape.words) bytes p → Other shape words len bytes group id (shape.words * p)
  sizes_differ : group_at shape words 0 ≡ group → id_at shape words 0 ≡ id
      → ((i : ℕ) → i < length (payload_of shape words len) → i < length bytes → get_or (payload_of shape words len) i 0 ≡ get_or bytes i 0)
      → (length (payload_of shape words len) ≡ length bytes → ⊥) → Other shape words len bytes group id 0

-- every reason for a no, with its number
pub data Reason (shape : Shape) (words : List ℕ) (len : ℕ) (bytes : List ℕ) (group : ℕ) (id : List ℕ) : ℕ → ℕ → Type 0 where
  not_valid : {number place : ℕ} → check shape words len ≡ refused number place → Reason shape words len bytes group id number place
  no_group : check shape words len ≡ pass → 15 < group → Reason shape words len bytes group id 16 0
  other : {place : ℕ} → check shape words len ≡ pass → group ≤ 15 → Other shape words len bytes group id place
      → Reason shape words len bytes group id 26 place

-- two answers that are both yes, or both no with one number
pub data SameSaid : Verdict → Verdict → Type 0 where
  both_yes : SameSaid pass pass
  both_no : {number place other : ℕ} → SameSaid (refused number place) (refused number other)

-- ---- what is said

pub record Judged (shape : Shape) (Asks : Carrier) : Type 0 where
  pub answers : (words : List ℕ) (len : ℕ) (bytes : List ℕ) (group : ℕ) (id : List ℕ) → length id ≡ shape.ids → HasAnswer (Asks words len bytes group id)
  -- Yes exactly if the words are a valid message with this payload, group and stream id.
  pub yes : {words : List ℕ} {len : ℕ} {bytes : List ℕ} {group : ℕ} {id : List ℕ} → Asks words len bytes group id pass → Carries shape words len bytes group id
  pub yes_if : {words : List ℕ} {len : ℕ} {bytes : List ℕ} {group : ℕ} {id : List ℕ} {answer : Verdict} → Asks words len bytes group id answer
      → Carries shape words len bytes group id → answer ≡ pass
  -- Whoever packs by the layout rules gets a yes,
  pub packed : {words : List ℕ} {len : ℕ} {bytes : List ℕ} {group : ℕ} {id : List ℕ} {answer : Verdict} → Asks words len bytes group id answer
      → Packing shape words len bytes group id → answer ≡ pass
  -- and every yes, on words of 32 bits, is such a packing.
  pub packing : {words : List ℕ} {len : ℕ} {bytes : List ℕ} {group : ℕ} {id : List ℕ} → Asks words len bytes group id pass → Below (2 ^ 32) words
      → Packing shape words len bytes group id
  -- Every no has its reason, and the place named is right.
  pub reason : {words : List ℕ} {len : ℕ} {bytes : List ℕ} {group : ℕ} {id : List ℕ} {number place : ℕ} → Asks words len bytes group id (refused number place)
      → Reason shape words len bytes group id number place
  -- Two packings of one payload, with one group and stream id, get the same answer to any question; the place of a no goes by the packing.
  pub same : {words others : List ℕ} {len other : ℕ} {carried : List ℕ} {sent : ℕ} {stream : List ℕ} {bytes : List ℕ} {group : ℕ} {id : List ℕ} {a b : Verdict}
      → Packing shape words len carried sent stream → Packing shape others other carried sent stream
      → Asks words len bytes group id a → Asks others other bytes group id b → SameSaid a b

-- what a call must promise for it: it answers what the definition says, and it can be asked
pub record PromisedCarrier (shape : Shape) (Asks : Carrier) : Type 0 where
  pub asks : {words : List ℕ} {len : ℕ} {bytes : List ℕ} {group : ℕ} {id : List ℕ} {answer : Verdict} → Asks words len bytes group id answer
      → answer ≡ carries shape words len bytes group id
  pub can_ask : (words : List ℕ) (len : ℕ) (bytes : List ℕ) (group : ℕ) (id : List ℕ) → length id ≡ shape.ids
      → Asks words len bytes group id (carries shape words len bytes group id)
