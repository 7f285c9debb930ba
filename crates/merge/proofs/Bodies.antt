-- The payload octets of a packet, and the number that they are. Assumes nothing.
use mathlib.Core.Path.{◌≡◌, refl, sym, ap, ap₂, ◌∙◌}
use mathlib.Core.List.{List, [], ◌∷◌}
use Prim.Native.Nat.{ℕ, zero, suc, ◌+◌, ◌*◌, ◌/◌, ◌%◌, ◌^◌, ◌<◌}
use native.Mathlib.Nat.{add-zero, div-one}
use native.Mathlib.Omega.{arith}
use lib.ListN.{length, get_or}
use lib.Pow.{shr-shr, high, low}
use Rattle.ump.specs.Word.{octet, word, octets, Below}
use Rattle.ump.specs.Packet.{sysex8}
use Rattle.ump.proofs.Words.{word-octets, octet_fits, below_drop}
use Rattle.flow.specs.Digits.{val}
use Rattle.flow.specs.Flowing.{number_word}
use Rattle.flow.proofs.Digits.{val-fits}
use Rattle.merge.specs.Thirteens.{body}

-- ---- the octets

below_octets : (ws : List ℕ) → Below 256 (octets ws)
unfolding octets
below_octets [] = tt
below_octets (w ∷ ws) = (octet_fits w 0, (octet_fits w 1, (octet_fits w 2, (octet_fits w 3, below_octets ws))))

pub below_body : (ws : List ℕ) (p : ℕ) → Below 256 (body ws p)
below_body ws p = below_drop 256 3 (octets _) (below_octets _)

pub length-body : (ws : List ℕ) (p : ℕ) → length (body ws p) ≡ 13
unfolding octets
length-body ws p = refl

-- packets that are the same have the same
pub body_agree : (us ws : List ℕ) (p q : ℕ) → ((r : ℕ) → r < 4 → get_or us (4 * p + r) 0 ≡ get_or ws (4 * q + r) 0) → body us p ≡ body ws q
body_agree us ws p q same = rw (simp add-zero at (same 0 (omega arith)), same 1 (omega arith), same 2 (omega arith), same 3 (omega arith))

-- ---- the number

-- thirteen octets, by words
thirteen : (a b0 b1 b2 b3 c0 c1 c2 c3 d0 d1 d2 d3 : ℕ)
    → val 13 (a ∷ b0 ∷ b1 ∷ b2 ∷ b3 ∷ c0 ∷ c1 ∷ c2 ∷ c3 ∷ d0 ∷ d1 ∷ d2 ∷ d3 ∷ [])
    ≡ (a * 2 ^ 32 + word b0 b1 b2 b3) * 2 ^ 64 + (word c0 c1 c2 c3 * 2 ^ 32 + word d0 d1 d2 d3)
unfolding val
thirteen a b0 b1 b2 b3 c0 c1 c2 c3 d0 d1 d2 d3 = omega arith

pub body-number : (ws : List ℕ) (p : ℕ) → get_or ws (4 * p + 1) 0 < 2 ^ 32 → get_or ws (4 * p + 2) 0 < 2 ^ 32 → get_or ws (4 * p + 3) 0 < 2 ^ 32
    → val 13 (body ws p) ≡ (get_or ws (4 * p) 0 % 256 * 2 ^ 32 + get_or ws (4 * p + 1) 0) * 2 ^ 64 + (get_or ws (4 * p + 2) 0 * 2 ^ 32 + get_or ws (4 * p + 3) 0)
unfolding octets
body-number ws p h1 h2 h3 = go (get_or ws (4 * p) 0) (get_or ws (4 * p + 1) 0) (get_or ws (4 * p + 2) 0) (get_or ws (4 * p + 3) 0) h1 h2 h3
  where
    go : (a b c d : ℕ) → b < 2 ^ 32 → c < 2 ^ 32 → d < 2 ^ 32
        → val 13 (octet a 3 ∷ octet b 0 ∷ octet b 1 ∷ octet b 2 ∷ octet b 3 ∷ octet c 0 ∷ octet c 1 ∷ octet c 2 ∷ octet c 3 ∷ octet d 0 ∷ octet d 1 ∷ octet d 2 ∷ octet d 3 ∷ [])
        ≡ (a % 256 * 2 ^ 32 + b) * 2 ^ 64 + (c * 2 ^ 32 + d)
    go a b c d hb hc hd =
        let low : octet a 3 ≡ a % 256 = omega arith in
        thirteen (octet a 3) (octet b 0) (octet b 1) (octet b 2) (octet b 3) (octet c 0) (octet c 1) (octet c 2) (octet c 3) (octet d 0) (octet d 1) (octet d 2) (octet d 3)
        ∙ rw (word-octets b hb, word-octets c hc, word-octets d hd, low)

pub body-fits : (ws : List ℕ) (p : ℕ) → val 13 (body ws p) < 2 ^ 104
body-fits ws p = val-fits 13 (body ws p) (below_body ws p)

-- a number by words
by_words : (head n x y z : ℕ) → n / 2 ^ 32 ≡ x → x / 2 ^ 32 ≡ y → y / 2 ^ 32 ≡ z → n < 2 ^ 104 → head % 256 ≡ 0
    → ((head + z) % 256 * 2 ^ 32 + y % 2 ^ 32) * 2 ^ 64 + (x % 2 ^ 32 * 2 ^ 32 + n % 2 ^ 32) ≡ n
by_words head n x y z ex ey ez fits plain =
    let small : z < 256 = omega arith in
    let first : (head + z) % 256 ≡ z = omega arith in
    rw first (omega arith)

-- a packet that is written from a number has it
pub body_of_number : (us : List ℕ) (p head n : ℕ) → ((r : ℕ) → r < 4 → get_or us (4 * p + r) 0 ≡ number_word sysex8 head n r)
    → n < 2 ^ 104 → head % 256 ≡ 0 → val 13 (body us p) ≡ n
unfolding number_word
body_of_number us p head n is fits plain =
    let one : get_or us (4 * p) 0 ≡ head + n / 2 ^ 96 = simp add-zero at (is 0 (omega arith)) in
    let two : get_or us (4 * p + 1) 0 ≡ n / 2 ^ 64 % 2 ^ 32 = is 1 (omega arith) in
    let three : get_or us (4 * p + 2) 0 ≡ n / 2 ^ 32 % 2 ^ 32 = is 2 (omega arith) in
    let four : get_or us (4 * p + 3) 0 ≡ n % 2 ^ 32 = simp div-one at (is 3 (omega arith)) in
    body-number us p (rw two (omega arith)) (rw three (omega arith)) (rw four (omega arith))
    ∙ rw (one, two, three, four) (by_words head n (n / 2 ^ 32) (n / 2 ^ 64) (n / 2 ^ 96) refl (shr-shr n 32 32) (shr-shr n 64 32) fits plain)

-- the number says which octets they are
pub val_injective : (n : ℕ) (xs ys : List ℕ) → length xs ≡ n → length ys ≡ n → Below 256 xs → Below 256 ys → val n xs ≡ val n ys → xs ≡ ys
unfolding val
val_injective zero [] [] a b s t e = refl
val_injective zero (x ∷ xs) ys a b s t e = absurd (omega arith)
val_injective zero [] (y ∷ ys) a b s t e = absurd (omega arith)
val_injective (suc n) [] ys a b s t e = absurd (omega arith)
val_injective (suc n) (x ∷ xs) [] a b s t e = absurd (omega arith)
val_injective (suc n) (x ∷ xs) (y ∷ ys) a b s t e =
    let u = val-fits n xs s.1 in
    let v = val-fits n ys t.1 in
    let first : x ≡ y = sym (high x (8 * n) u) ∙ ap (λ (m : ℕ). m / 2 ^ (8 * n)) e ∙ high y (8 * n) v in
    let rest : val n xs ≡ val n ys = sym (low x (8 * n) u) ∙ ap (λ (m : ℕ). m % 2 ^ (8 * n)) e ∙ low y (8 * n) v in
    ap₂ (λ m l. m ∷ l) first (val_injective n xs ys (omega arith) (omega arith) s.1 t.1 rest)

pub body_injective : (us ws : List ℕ) (p q : ℕ) → val 13 (body us p) ≡ val 13 (body ws q) → body us p ≡ body ws q
body_injective us ws p q e = val_injective 13 (body us p) (body ws q) (length-body us p) (length-body ws q) (below_body us p) (below_body ws q) e
