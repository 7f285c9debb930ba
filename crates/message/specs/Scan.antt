-- What the steps of the check answer.
-- Assumes nothing.
use Rattle.std.specs.Prelude.{◌≡◌, Bool, not, ◌||◌, Option, Some, None, List, ℕ, suc, ◌+◌, ◌-◌, ◌*◌, ◌/◌, ◌%◌, ◌≤◌, ◌<◌, eqb, ltb, length, get_or}
use Rattle.std.specs.Int.Bits.{bit_and}
use Rattle.refusal.specs.Answer.{Answer, gives, refused, Verdict, pass, ◌▷◌, guard}
use Rattle.refusal.specs.Number.{number_of}
use Rattle.refusal.specs.declared.Fault.{Fault}
use Rattle.refusal.specs.declared.Refusal.{Refusal}
use Rattle.refusal.specs.Meaning.{fault_of}
use Rattle.ump.specs.Word.{nibble}
use Rattle.ump.specs.Packet.{Shape, payload}
use Rattle.ump.specs.Limits.{most_words}
use Rattle.ump.specs.Check.{first_where, check, check_packets, payload_of}
use Rattle.ump.specs.Edits.{total}

-- some packets stand inside the words, which are no more than a message may have
pub record Inside (stride n : ℕ) (words : List ℕ) : Type 0 where
  pub some_words : 0 < stride
  pub there : stride * n ≤ length words
  pub few : stride * n ≤ most_words

-- Long, Length, Short, Ragged; else how many packets a message has
abbrev pub framed : Shape → ℕ → ℕ → Answer ℕ
framed shape lent len =
    guard (ltb most_words lent) 1 0
    ▷ guard (ltb lent len) 2 0
    ▷ guard (ltb len shape.words) 3 0
    ▷ guard (not (eqb (len % shape.words) 0)) 4 0
    ▷ gives (len / shape.words)

-- what a judge of a packet says: its refusal, or none
abbrev pub judged : Option Refusal → Verdict
judged (Some refusal) = refused (number_of refusal) 0
judged None = pass

-- it says of each packet, by its first word and its number, what a test and a number say
pub record Judges (shape : Shape) (says : ℕ → ℕ → Option Refusal → Type 0) (number : ℕ → ℕ) (bad : ℕ → Bool) (words : List ℕ) (n : ℕ) : Type 0 where
  pub agrees : (p : ℕ) (said : Option Refusal) → p < n → says (get_or words (shape.words * p) 0) p said → judged said ≡ guard (bad p) (number p) 0

-- the bits of a first word that type, group, status and stream id have
abbrev pub mask_of : Shape → ℕ
mask_of shape = 0xFFF00000 + shape.ids * 0xFF00

-- what the mask keeps of a first word is not the wanted number, or its count is out of range
abbrev pub faulty : Shape → ℕ → ℕ → Bool
faulty shape wanted x = (not (eqb (bit_and x (mask_of shape)) wanted) || ltb (nibble x 3) shape.bias) || ltb (shape.room + shape.bias) (nibble x 3)

-- the value that an answer gives
abbrev pub given : {A : Type 0} → Answer A → Option A
given (gives value) = Some value
given (refused number place) = None

-- the payload size of n packets that pass, and of a message that does
abbrev pub in_order : Shape → List ℕ → ℕ → Option ℕ
in_order shape words n = given (check_packets shape words n ▷ gives (length (payload shape words n)))

abbrev pub size_found : Shape → List ℕ → ℕ → Answer ℕ
size_found shape words len = check shape words len ▷ gives (length (payload_of shape words len))

-- why a verdict is not to pass
abbrev pub Explains : Verdict → Fault → Type 0
Explains verdict fault = (verdict ≡ pass → ⊥) → fault_of fault ≡ verdict

-- ---- payload sizes by the numbers of a shape

-- the counts of n packets are in range
abbrev pub Counted : ℕ → ℕ → ℕ → ℕ → List ℕ → Type 0
Counted stride n least most words = (p : ℕ) → p < n → (least ≤ nibble (get_or words (stride * p) 0) 3) × (nibble (get_or words (stride * p) 0) 3 ≤ most)

-- the payload size of n packets
unfoldable pub size_to : ℕ → ℕ → List ℕ → ℕ → ℕ
size_to stride least words n = total (λ p. nibble (get_or words (stride * p) 0) 3 - least) n

-- the packets of a SysEx8 message of a size
pub record Sized (words : List ℕ) (n size : ℕ) : Type 0 where
  pub inside : Inside 4 n words
  pub counted : Counted 4 n 1 14 words
  pub size_is : size ≡ size_to 4 1 words n

-- byte b of packet p, of n, is payload byte i
pub record Found (stride least : ℕ) (words : List ℕ) (n i p b : ℕ) : Type 0 where
  pub packet_is : p ≡ first_where (λ q. ltb i (size_to stride least words (suc q))) n
  pub byte_is : i ≡ size_to stride least words p + b
