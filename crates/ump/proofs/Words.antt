-- Laws of words and octets. Assumes nothing.
use mathlib.Core.Path.{◌≡◌, refl, sym, ap, ◌∙◌}
use mathlib.Core.List.{List, [], ◌∷◌, ◌++◌, map}
use Prim.Native.Nat.{ℕ, zero, suc, ◌+◌, ◌-◌, ◌*◌, ◌/◌, ◌%◌, ◌^◌, ◌≤◌, ◌<◌}
use native.Mathlib.Nat.{mod-lt, mod-eq_of_lt}
use native.Mathlib.Omega.{arith}
use lib.ListN.{length, get_or, take, drop, replicate}
use lib.Pow.{recompose, mod-pow-add}
use Rattle.ump.specs.Word.{octet_field, shift, nibble, octet, word, octets, words_of, Below}

module _ (a b c d : ℕ) (ha : a < 256) (hb : b < 256) (hc : c < 256) (hd : d < 256) where
  pub octet0 : octet (word a b c d) 0 ≡ a
  octet0 = omega arith

  pub octet1 : octet (word a b c d) 1 ≡ b
  octet1 = omega arith

  pub octet2 : octet (word a b c d) 2 ≡ c
  octet2 = omega arith

  pub octet3 : octet (word a b c d) 3 ≡ d
  octet3 = omega arith

  pub nibble0 : nibble (word a b c d) 0 ≡ a / 16
  nibble0 = omega arith

  pub nibble1 : nibble (word a b c d) 1 ≡ a % 16
  nibble1 = omega arith

  pub nibble2 : nibble (word a b c d) 2 ≡ b / 16
  nibble2 = omega arith

  pub nibble3 : nibble (word a b c d) 3 ≡ b % 16
  nibble3 = omega arith

-- ---- lists of octets

pub octets_words_of : (os : List ℕ) (k : ℕ) → length os ≡ 4 * k → Below 256 os → octets (words_of os) ≡ os
unfolding octets words_of
octets_words_of [] k e h = refl
octets_words_of (a ∷ []) k e h = absurd (omega arith)
octets_words_of (a ∷ b ∷ []) k e h = absurd (omega arith)
octets_words_of (a ∷ b ∷ c ∷ []) k e h = absurd (omega arith)
octets_words_of (a ∷ b ∷ c ∷ d ∷ os) k e h =
    let ha : a < 256 = h.0 in
    let hb : b < 256 = h.1.0 in
    let hc : c < 256 = h.1.1.0 in
    let hd : d < 256 = h.1.1.1.0 in
    rw (
      octet0 a b c d ha hb hc hd,
      octet1 a b c d ha hb hc hd,
      octet2 a b c d ha hb hc hd,
      octet3 a b c d ha hb hc hd,
      octets_words_of os (k - 1) (omega arith) h.1.1.1.1,
    )

pub length-words_of : (os : List ℕ) (k : ℕ) → length os ≡ 4 * k → length (words_of os) ≡ k
unfolding words_of
length-words_of [] k e = omega arith
length-words_of (a ∷ []) k e = absurd (omega arith)
length-words_of (a ∷ b ∷ []) k e = absurd (omega arith)
length-words_of (a ∷ b ∷ c ∷ []) k e = absurd (omega arith)
length-words_of (a ∷ b ∷ c ∷ d ∷ os) k e = omega (arith, length-words_of os (k - 1) (omega arith))

pub length-octets : (words : List ℕ) → length (octets words) ≡ 4 * length words
unfolding octets
length-octets [] = refl
length-octets (w ∷ words) = omega (arith, length-octets words)

pub head-words_of : (a b : ℕ) (xs : List ℕ) → 2 ≤ length xs → get_or (words_of (a ∷ b ∷ xs)) 0 0 ≡ word a b (get_or xs 0 0) (get_or xs 1 0)
unfolding words_of
head-words_of a b [] h = absurd (omega arith)
head-words_of a b (c ∷ []) h = absurd (omega arith)
head-words_of a b (c ∷ d ∷ xs) h = refl

pub two : (xs : List ℕ) → 2 ≤ length xs → get_or xs 0 0 ∷ get_or xs 1 0 ∷ [] ≡ take 2 xs
two [] h = absurd (omega arith)
two (c ∷ []) h = absurd (omega arith)
two (c ∷ d ∷ xs) h = refl

digits : (a b c d x y w : ℕ) → w ≡ a * 2 ^ 24 + x → x ≡ b * 2 ^ 16 + y → y ≡ c * 256 + d → word a b c d ≡ w
digits a b c d x y w p q r = omega arith

-- a word is made of its octets
pub word-octets : (w : ℕ) → w < 2 ^ 32 → word (octet w 0) (octet w 1) (octet w 2) (octet w 3) ≡ w
word-octets w h =
    digits (octet w 0) (octet w 1) (octet w 2) (octet w 3) (w % 2 ^ 24) (w % 2 ^ 16) w (sym (recompose 8 24 h)) (mod-pow-add w 8 16)
    (mod-pow-add w 8 8 ∙ ap (λ (x : ℕ). octet w 2 * 256 + x) (sym low))
  where
    low : octet w 3 ≡ w % 2 ^ 8
    low = omega arith

pub words_of_octets : (words : List ℕ) → Below (2 ^ 32) words → words_of (octets words) ≡ words
unfolding octets words_of
words_of_octets [] h = refl
words_of_octets (w ∷ words) h =
    rw (word-octets w h.0, words_of_octets words h.1)

-- ---- by position

pub zero_octet : (q : ℕ) → q < 4 → octet 0 q ≡ 0
zero_octet zero h = refl
zero_octet (suc zero) h = refl
zero_octet (suc (suc zero)) h = refl
zero_octet (suc (suc (suc zero))) h = refl
zero_octet (suc (suc (suc (suc q)))) h = absurd (omega arith)

pub get_d_octets : (words : List ℕ) (j q : ℕ) → q < 4 → get_or (octets words) (4 * j + q) 0 ≡ octet (get_or words j 0) q
unfolding octets
get_d_octets [] j q h = sym (zero_octet q h)
get_d_octets (w ∷ words) zero zero h = refl
get_d_octets (w ∷ words) zero (suc zero) h = refl
get_d_octets (w ∷ words) zero (suc (suc zero)) h = refl
get_d_octets (w ∷ words) zero (suc (suc (suc zero))) h = refl
get_d_octets (w ∷ words) zero (suc (suc (suc (suc q)))) h = absurd (omega arith)
get_d_octets (w ∷ words) (suc j) q h =
    let e : 4 * suc j + q ≡ suc (suc (suc (suc (4 * j + q)))) = omega arith in
    rw e (get_d_octets words j q h)

pub get_d_words_of : (os : List ℕ) (j : ℕ) → 4 * j + 3 < length os
    → get_or (words_of os) j 0 ≡ word (get_or os (4 * j) 0) (get_or os (4 * j + 1) 0) (get_or os (4 * j + 2) 0) (get_or os (4 * j + 3) 0)
unfolding words_of
get_d_words_of [] j h = absurd (omega arith)
get_d_words_of (a ∷ []) j h = absurd (omega arith)
get_d_words_of (a ∷ b ∷ []) j h = absurd (omega arith)
get_d_words_of (a ∷ b ∷ c ∷ []) j h = absurd (omega arith)
get_d_words_of (a ∷ b ∷ c ∷ d ∷ os) zero h = refl
get_d_words_of (a ∷ b ∷ c ∷ d ∷ os) (suc j) h =
    let e0 : 4 * suc j ≡ suc (suc (suc (suc (4 * j)))) = omega arith in
    let e1 : 4 * suc j + 1 ≡ suc (suc (suc (suc (4 * j + 1)))) = omega arith in
    let e2 : 4 * suc j + 2 ≡ suc (suc (suc (suc (4 * j + 2)))) = omega arith in
    let e3 : 4 * suc j + 3 ≡ suc (suc (suc (suc (4 * j + 3)))) = omega arith in
    rw (e1, e2, e3, e0) (get_d_words_of os j (omega arith))

pub octet_fits : (w i : ℕ) → octet w i < 256
octet_fits w i = mod-lt (w / 2 ^ shift octet_field i) (omega arith)

-- ---- bounds

pub below_append : (m : ℕ) (xs ys : List ℕ) → Below m xs → Below m ys → Below m (xs ++ ys)
below_append m [] ys h k = k
below_append m (x ∷ xs) ys h k = (h.0, below_append m xs ys h.1 k)

pub below_take : (m n : ℕ) (xs : List ℕ) → Below m xs → Below m (take n xs)
below_take m zero xs h = tt
below_take m (suc n) [] h = tt
below_take m (suc n) (x ∷ xs) h = (h.0, below_take m n xs h.1)

pub below_drop : (m n : ℕ) (xs : List ℕ) → Below m xs → Below m (drop n xs)
below_drop m zero xs h = h
below_drop m (suc n) [] h = tt
below_drop m (suc n) (x ∷ xs) h = below_drop m n xs h.1

pub below_zeros : (m n : ℕ) → 0 < m → Below m (replicate n 0)
below_zeros m zero h = tt
below_zeros m (suc n) h = (h, below_zeros m n h)

pub below_weaken : (l m : ℕ) (xs : List ℕ) → l ≤ m → Below l xs → Below m xs
below_weaken l m [] h k = tt
below_weaken l m (x ∷ xs) h k = (omega (arith, k.0), below_weaken l m xs h k.1)

pub below_map : (m : ℕ) (xs : List ℕ) → 0 < m → Below m (map (λ b. b % m) xs)
below_map m [] h = tt
below_map m (x ∷ xs) h = (mod-lt x h, below_map m xs h)

pub below_get_d : (m : ℕ) (xs : List ℕ) (i : ℕ) → 0 < m → Below m xs → get_or xs i 0 < m
below_get_d m [] i h k = h
below_get_d m (x ∷ xs) zero h k = k.0
below_get_d m (x ∷ xs) (suc i) h k = below_get_d m xs i h k.1

pub below_at : (m : ℕ) (xs : List ℕ) → ((i : ℕ) → i < length xs → get_or xs i 0 < m) → Below m xs
below_at m [] f = tt
below_at m (x ∷ xs) f = (f 0 (omega arith), below_at m xs (λ i h. f (suc i) (omega arith)))

pub map_mod : (m : ℕ) (xs : List ℕ) → Below m xs → map (λ b. b % m) xs ≡ xs
map_mod m [] h = refl
map_mod m (x ∷ xs) h = rw (mod-eq_of_lt h.0, map_mod m xs h.1)
