-- The check of a message, with its refusals in the order of document 01.
-- Assumes nothing.
use Rattle.std.specs.Prelude.{◌≡◌, Bool, true, false, not, cond, ◌&&◌, ◌||◌, List, [], ◌∷◌, ℕ, zero, suc, ◌+◌, ◌*◌, ◌/◌, ◌%◌, ◌≤◌, ◌<◌, eqb, ltb, length}
use Rattle.refusal.specs.Answer.{Answer, gives, Verdict, ◌▷◌, guard}
use Rattle.ump.specs.Packet.{Shape, type_at, group_at, status_at, count_at, id_at, payload}
use Rattle.ump.specs.Packing.{by_place, status_for}
use Rattle.ump.specs.Limits.{most_words}

-- the least index below n at which a test holds; n where there is none
unfoldable pub first_where : (ℕ → Bool) → ℕ → ℕ
first_where test zero = zero
first_where test (suc n) = let r = first_where test n in cond (ltb r n) r (cond (test n) n (suc n))

-- ---- the packets at fault

unfoldable pub bad_type : Shape → List ℕ → ℕ → Bool
bad_type shape words p = not (eqb (type_at shape words p) shape.type)

unfoldable pub bad_status : Shape → List ℕ → ℕ → ℕ → Bool
bad_status shape words n p = not (eqb (status_at shape words p) (status_for n p))

unfoldable pub bad_count : Shape → List ℕ → ℕ → Bool
bad_count shape words p = ltb (count_at shape words p) shape.bias || ltb (shape.room + shape.bias) (count_at shape words p)

unfoldable pub bad_group : Shape → List ℕ → ℕ → Bool
bad_group shape words p = not (eqb (group_at shape words p) (group_at shape words 0))

-- two lists of numbers are the same
abbrev pub same : List ℕ → List ℕ → Bool
same [] [] = true
same [] (y ∷ ys) = false
same (x ∷ xs) [] = false
same (x ∷ xs) (y ∷ ys) = eqb x y && same xs ys

unfoldable pub bad_id : Shape → List ℕ → ℕ → Bool
bad_id shape words p = not (same (id_at shape words p) (id_at shape words 0))

-- the number for a wrong status of packet p of n: Complete; Begin, Continue, End
unfoldable pub status_number : ℕ → ℕ → ℕ
status_number n p = by_place 6 7 8 9 n p

-- ---- the check

-- over n packets: the first that is bad is refused at its word index, with a number that may go by the packet
abbrev pub sweep : Shape → (ℕ → ℕ) → (ℕ → Bool) → ℕ → Verdict
sweep shape number bad n = guard (ltb (first_where bad n) n) (number (first_where bad n)) (shape.words * first_where bad n)

-- Type; Complete, Begin, Continue and End in one walk; Count; Group; Stream
unfoldable pub check_packets : Shape → List ℕ → ℕ → Verdict
check_packets shape words n =
    sweep shape (λ p. 5) (bad_type shape words) n
    ▷ sweep shape (status_number n) (bad_status shape words n) n
    ▷ sweep shape (λ p. 10) (bad_count shape words) n
    ▷ sweep shape (λ p. 11) (bad_group shape words) n
    ▷ sweep shape (λ p. 12) (bad_id shape words) n

-- Long, Length, Short, Ragged, and then the packets of the message in the first len words
unfoldable pub check : Shape → List ℕ → ℕ → Verdict
check shape words len =
    guard (ltb most_words (length words)) 1 0
    ▷ guard (ltb (length words) len) 2 0
    ▷ guard (ltb len shape.words) 3 0
    ▷ guard (not (eqb (len % shape.words) 0)) 4 0
    ▷ check_packets shape words (len / shape.words)

-- the payload of the message in the first len words
abbrev pub payload_of : Shape → List ℕ → ℕ → List ℕ
payload_of shape words len = payload shape words (len / shape.words)

-- what the check answers of a message
pub record Summary : Type 0 where
  pub group : ℕ
  pub id : List ℕ
  pub size : ℕ
  pub words : ℕ

abbrev pub summary : ℕ → List ℕ → ℕ → ℕ → Summary
summary group id size words = record { group = group; id = id; size = size; words = words }

unfoldable pub checked : Shape → List ℕ → ℕ → Answer Summary
checked shape words len =
    check shape words len ▷ gives (summary (group_at shape words 0) (id_at shape words 0) (length (payload_of shape words len)) len)

-- ---- a valid message: one complete packet, or start, any number of continue, end; all of one type, group and stream id

pub record Valid (shape : Shape) (words : List ℕ) (len : ℕ) : Type 0 where
  pub short_enough : length words ≤ most_words
  pub inside : len ≤ length words
  pub packets : ℕ
  pub some_packet : 0 < packets
  pub whole : len ≡ shape.words * packets
  pub types : (p : ℕ) → p < packets → type_at shape words p ≡ shape.type
  pub statuses : (p : ℕ) → p < packets → status_at shape words p ≡ status_for packets p
  pub counts : (p : ℕ) → p < packets → (shape.bias ≤ count_at shape words p) × (count_at shape words p ≤ shape.room + shape.bias)
  pub groups : (p : ℕ) → p < packets → group_at shape words p ≡ group_at shape words 0
  pub one_id : (p : ℕ) → p < packets → id_at shape words p ≡ id_at shape words 0
