-- The cases of the definitions that reading a packet cites, over plain values. Assumes nothing.
use mathlib.Core.Path.{◌≡◌, refl}
use mathlib.Core.Bool.{Bool, true, false, ◌&&◌, and-true, and-false}
use mathlib.Core.List.{List, [], ◌∷◌}
use Prim.Native.Nat.{ℕ, ◌+◌, ◌-◌, ◌*◌, ◌/◌, ◌%◌, ◌^◌, ◌≤◌, ◌<◌}
use native.Mathlib.Omega.{arith}
use lib.Dec.{eqb}
use lib.ListN.{length, get_or, set}
use lib.Pow.{mod-mod-pow}
use mir.Syntax.{w32}
use mir.Val.{Fits}
use borrow.Author.Tests.{eq-eqb, ne_eqb, lt-ltb, le-ltb, le-leb, lt-leb, eqb-true, eqb-false}
use Rattle.refusal.specs.Answer.{Answer, gives, refused}
use Rattle.ump.specs.Word.{nibble, octet, octets}
use Rattle.ump.specs.Packet.{Shape, sysex8, header, size_of}
use Rattle.ump.specs.Check.{bad_type}
use Rattle.ump.specs.Single.{Kind, Packet, zeros, blank, unexpected, packet_byte, set_packet_group, with_group}
use Rattle.ump.proofs.Words.{word-octets}
use Rattle.packet.specs.Steps.{plain, counted, decide8, packet_from, framed}

-- ---- the count and the status

module _ (shape : Shape) (status count : ℕ) where
  pub counted_in : shape.bias ≤ count → count ≤ shape.room + shape.bias → plain status (count - shape.bias) ≡ counted shape status count
  unfolding counted size_of
  counted_in low high = rw (le-ltb _ _ low, le-ltb _ _ high, le-leb _ _ high)

  pub counted_low : count < shape.bias → refused 10 0 ≡ counted shape status count
  unfolding counted
  counted_low low = rw (lt-ltb _ _ low)

  pub counted_high : shape.room + shape.bias < count → refused 10 0 ≡ counted shape status count
  unfolding counted
  counted_high high = rw (le-ltb count shape.bias (omega arith), lt-ltb _ _ high)

-- a packet that is no unexpected end is what its status says
pub decide_plain : (status count : ℕ) (zeroed : Bool) → status ≤ 3 → unexpected status count zeroed ≡ false
    → counted sysex8 status count ≡ decide8 status count zeroed
unfolding decide8 counted
decide_plain status count zeroed small e = rw (le-ltb _ _ small, e, and-true)

pub decide_status : (status count : ℕ) (zeroed : Bool) → 3 < status → refused 15 0 ≡ decide8 status count zeroed
unfolding decide8
decide_status status count zeroed big = rw (lt-ltb _ _ big)

-- ---- zero octets

not_all : (a b c d rest : Bool) → (a ≡ true → b ≡ true → c ≡ true → d ≡ true → ⊥) → a && (b && (c && (d && rest))) ≡ false
not_all true true true true rest h = absurd (h refl refl refl refl)
not_all true true true false rest h = refl
not_all true true false d rest h = refl
not_all true false c d rest h = refl
not_all false b c d rest h = refl

-- a word is zero if its octets are
zero : (w : ℕ) → w < 2 ^ 32 → octet w 0 ≡ 0 → octet w 1 ≡ 0 → octet w 2 ≡ 0 → octet w 3 ≡ 0 → w ≡ 0
zero w h p q r s = omega (arith, word-octets w h)

zeros_word : (w : ℕ) (ws : List ℕ) → w < 2 ^ 32 → zeros (octets (w ∷ ws)) ≡ eqb w 0 && zeros (octets ws)
unfolding octets
zeros_word w ws h = go (eqb w 0) refl
  where
    go : (b : Bool) → eqb w 0 ≡ b → eqb (octet w 0) 0 && (eqb (octet w 1) 0 && (eqb (octet w 2) 0 && (eqb (octet w 3) 0 && zeros (octets ws)))) ≡ b && zeros (octets ws)
    go true e = rw (eqb-true w 0 e)
    go false e =
        not_all (eqb (octet w 0) 0) (eqb (octet w 1) 0) (eqb (octet w 2) 0) (eqb (octet w 3) 0) _
        (λ p q r s. eqb-false w 0 e (zero w h (eqb-true (octet w 0) 0 p) (eqb-true (octet w 1) 0 q) (eqb-true (octet w 2) 0 r) (eqb-true (octet w 3) 0 s)))

-- octet 3 and words 1 to 3, word by word
blank-words : (words : List ℕ) → 4 ≤ length words → ((i : ℕ) → Fits w32 (get_or words i 0))
    → eqb (octet (get_or words 0 0) 3) 0 && (eqb (get_or words 1 0) 0 && (eqb (get_or words 2 0) 0 && eqb (get_or words 3 0) 0)) ≡ blank words
unfolding blank octets
blank-words [] h f = absurd (omega arith)
blank-words (a ∷ []) h f = absurd (omega arith)
blank-words (a ∷ b ∷ []) h f = absurd (omega arith)
blank-words (a ∷ b ∷ c ∷ []) h f = absurd (omega arith)
blank-words (a ∷ b ∷ c ∷ d ∷ ws) h f =
    rw (zeros_word b (c ∷ d ∷ []) (f 1).fits, zeros_word c (d ∷ []) (f 2).fits, zeros_word d [] (f 3).fits, and-true)

module _ (words : List ℕ) (four : 4 ≤ length words) (fits : (i : ℕ) → Fits w32 (get_or words i 0)) where
  pub all_blank : octet (get_or words 0 0) 3 ≡ 0 → get_or words 1 0 ≡ 0 → get_or words 2 0 ≡ 0 → get_or words 3 0 ≡ 0 → true ≡ blank words
  all_blank p q r s = rw (eq-eqb _ _ p, eq-eqb _ _ q, eq-eqb _ _ r, eq-eqb _ _ s) at (blank-words words four fits)

  pub octet_set : (octet (get_or words 0 0) 3 ≡ 0 → ⊥) → false ≡ blank words
  octet_set h = rw (ne_eqb _ _ h) at (blank-words words four fits)

  pub word1_set : (get_or words 1 0 ≡ 0 → ⊥) → false ≡ blank words
  word1_set h = simp (ne_eqb (get_or words 1 0) 0 h, and-false) at (blank-words words four fits)

  pub word2_set : (get_or words 2 0 ≡ 0 → ⊥) → false ≡ blank words
  word2_set h = simp (ne_eqb (get_or words 2 0) 0 h, and-false) at (blank-words words four fits)

  pub word3_set : (get_or words 3 0 ≡ 0 → ⊥) → false ≡ blank words
  word3_set h = simp (ne_eqb (get_or words 3 0) 0 h, and-false) at (blank-words words four fits)

-- ---- a reader, case by case

module _ (shape : Shape) (words : List ℕ) (decision : Answer (Kind × ℕ)) where
  pub short : length words < shape.words → refused 3 0 ≡ framed shape words decision
  unfolding framed
  short h = rw (lt-ltb _ _ h)

  pub foreign : shape.words ≤ length words → (nibble (get_or words 0 0) 0 ≡ shape.type → ⊥) → refused 5 0 ≡ framed shape words decision
  unfolding framed bad_type
  foreign h k = let z : shape.words * 0 ≡ 0 = omega arith in rw (le-ltb _ _ h, z, ne_eqb _ _ k)

  pub ours : shape.words ≤ length words → nibble (get_or words 0 0) 0 ≡ shape.type → packet_from shape words decision ≡ framed shape words decision
  unfolding framed bad_type
  ours h k = let z : shape.words * 0 ≡ 0 = omega arith in rw (le-ltb _ _ h, z, eq-eqb _ _ k)

-- ---- a byte and the group of a packet that was read

-- the low bits of an octet are those of the number that it is a part of
narrow : (s : Shape) (y : ℕ) → y % 2 ^ 8 % s.limit ≡ y % 2 ^ s.width
narrow s y =
    let e : 8 ≡ (8 - s.width) + s.width = omega (arith, s.width_fits) in
    rw (← s.limit_is) (rw (← e) at (mod-mod-pow y (8 - s.width) s.width))

module _ (read : Answer Packet) (words : List ℕ) where
  module _ (shape : Shape) (i : ℕ) where
    pub byte_refused : {number place : ℕ} → refused number place ≡ read → refused number place ≡ packet_byte shape read words i
    unfolding packet_byte
    byte_refused e = rw (← e)

    pub byte_past : {packet : Packet} → gives packet ≡ read → packet.size ≤ i → refused 13 0 ≡ packet_byte shape read words i
    unfolding packet_byte
    byte_past e past = rw (← e, le-leb _ _ past)

    pub byte_given : {packet : Packet} → gives packet ≡ read → i < packet.size
        → gives (octet (get_or words ((i + header shape) / 4) 0) ((i + header shape) % 4) % shape.limit) ≡ packet_byte shape read words i
    unfolding packet_byte
    byte_given e below =
        let place = (i + header shape) / 4 in
        let first : shape.words * 0 + place ≡ place = omega arith in
        rw (← e, lt-leb _ _ below, first, narrow shape _)

  module _ (group : ℕ) where
    pub group_refused : {number place : ℕ} → refused number place ≡ read → (refused number place, words) ≡ set_packet_group read words group
    unfolding set_packet_group
    group_refused e = rw (← e)

    pub group_big : {packet : Packet} → gives packet ≡ read → 15 < group → (refused 16 0, words) ≡ set_packet_group read words group
    unfolding set_packet_group
    group_big e big = rw (← e, lt-ltb _ _ big)

    pub group_given : {packet : Packet} → gives packet ≡ read → group ≤ 15
        → (gives tt, set words 0 (with_group (get_or words 0 0) group)) ≡ set_packet_group read words group
    unfolding set_packet_group
    group_given e fits = rw (← e, le-ltb _ _ fits)
