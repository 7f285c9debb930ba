-- Lists that differ at a place that both have, or do not. Assumes nothing.
use mathlib.Core.Path.{◌≡◌, refl, sym, ap, ap₂, ◌∙◌}
use mathlib.Core.Bool.{Bool, true, false, not, ◌||◌}
use mathlib.Core.List.{List, [], ◌∷◌, ◌++◌}
use Prim.Native.Nat.{ℕ, zero, suc, ◌+◌, ◌*◌, ◌/◌, ◌%◌, ◌^◌, ◌≤◌, ◌<◌}
use native.Mathlib.Numerals.{add-one}
use native.Mathlib.Omega.{arith}
use lib.Dec.{eqb}
use lib.ListN.{length, get_or, take, drop, drop_of_length-le, length-drop, take-append-drop}
use lib.Seq.{drop-cons, drop-drop}
use borrow.Author.Tests.{eq-eqb, ne_eqb, eqb-true, eqb-false, not-false}
use Rattle.ump.specs.Word.{octet, word, octets, words_of, Below}
use Rattle.ump.specs.Packet.{sysex8, size_at, payload_at}
use Rattle.ump.proofs.First.{never}
use Rattle.ump.proofs.Checks.{or_left, or_right}
use Rattle.ump.proofs.Words.{octet0, octet1, octet2, octet3, words_of_octets, below_get_d}
use Rattle.ump.proofs.Bytes.{length-payload_at, get_d_payload_at}
use Rattle.carries.specs.Carries.{unlike}

-- a list and one that begins with it
pub like_front : (xs ys : List ℕ) → unlike xs (xs ++ ys) ≡ false
like_front [] ys = refl
like_front (x ∷ xs) ys = rw (eq-eqb x x refl) (like_front xs ys)

-- no longer than the other, it is the front of it
pub like_is : (xs ys : List ℕ) → unlike xs ys ≡ false → length xs ≤ length ys → xs ≡ take (length xs) ys
like_is [] ys e h = refl
like_is (x ∷ xs) [] e h = absurd (omega arith)
like_is (x ∷ xs) (y ∷ ys) e h =
    let same = eqb-true x y (not-false (eqb x y) (or_left (not (eqb x y)) (unlike xs ys) e)) in
    ap₂ (λ (a : ℕ) (l : List ℕ). a ∷ l) same (like_is xs ys (or_right (not (eqb x y)) (unlike xs ys) e) (omega arith))

-- at each place that both have they are the same
pub like_at : (xs ys : List ℕ) → unlike xs ys ≡ false → (i : ℕ) → i < length xs → i < length ys → get_or xs i 0 ≡ get_or ys i 0
like_at [] ys e i hx hy = absurd (omega arith)
like_at (x ∷ xs) [] e i hx hy = absurd (omega arith)
like_at (x ∷ xs) (y ∷ ys) e zero hx hy = eqb-true x y (not-false (eqb x y) (or_left (not (eqb x y)) (unlike xs ys) e))
like_at (x ∷ xs) (y ∷ ys) e (suc i) hx hy = like_at xs ys (or_right (not (eqb x y)) (unlike xs ys) e) i (omega arith) (omega arith)

-- ---- the first place at which two lists differ

pub record Differ (xs ys : List ℕ) : Type 0 where
  pub at : ℕ
  pub in_first : at < length xs
  pub in_second : at < length ys
  pub differs : get_or xs at 0 ≡ get_or ys at 0 → ⊥
  pub before : (i : ℕ) → i < at → get_or xs i 0 ≡ get_or ys i 0

pub differ : (xs ys : List ℕ) → unlike xs ys ≡ true → Differ xs ys
differ [] ys e = never e
differ (x ∷ xs) [] e = never e
differ (x ∷ xs) (y ∷ ys) e = go (eqb x y) refl e (differ xs ys)
  where
    later : x ≡ y → Differ xs ys → Differ (x ∷ xs) (y ∷ ys)
    later q d = record { at = suc d.at; in_first = omega (arith, d.in_first); in_second = omega (arith, d.in_second); differs = d.differs; before = before }
      where
        before : (i : ℕ) → i < suc d.at → get_or (x ∷ xs) i 0 ≡ get_or (y ∷ ys) i 0
        before zero h = q
        before (suc i) h = d.before i (omega arith)

    go : (b : Bool) → eqb x y ≡ b → (not b || unlike xs ys) ≡ true → (unlike xs ys ≡ true → Differ xs ys) → Differ (x ∷ xs) (y ∷ ys)
    go true q e rest = later (eqb-true x y q) (rest e)
    go false q e rest = record { at = 0; in_first = omega arith; in_second = omega arith; differs = eqb-false x y q; before = λ i h. absurd (omega arith) }

unlike-none : (xs : List ℕ) → unlike xs [] ≡ false
unlike-none [] = refl
unlike-none (x ∷ xs) = refl

-- ---- byte after byte

pub like_none : (xs ys : List ℕ) (j : ℕ) → length ys ≤ j → unlike xs (drop j ys) ≡ false
like_none xs ys j h = rw (drop_of_length-le ys h) (unlike-none xs)

pub like_end : (xs ys : List ℕ) (k : ℕ) → length xs ≤ k → unlike (drop k xs) ys ≡ false
like_end xs ys k h = rw (drop_of_length-le xs h)

module _ (xs ys : List ℕ) (k j : ℕ) (hx : k < length xs) (hy : j < length ys) where
  split : unlike (drop k xs) (drop j ys) ≡ not (eqb (get_or xs k 0) (get_or ys j 0)) || unlike (drop (suc k) xs) (drop (suc j) ys)
  split = rw (drop-cons xs k 0 hx, drop-cons ys j 0 hy)

  pub like_differ : (get_or xs k 0 ≡ get_or ys j 0 → ⊥) → true ≡ unlike (drop k xs) (drop j ys)
  like_differ n = rw (split, ne_eqb (get_or xs k 0) (get_or ys j 0) n)

  pub like_on : get_or xs k 0 ≡ get_or ys j 0 → unlike (drop k xs) (drop j ys) ≡ unlike (drop (k + 1) xs) (drop (j + 1) ys)
  like_on e = rw (split, eq-eqb (get_or xs k 0) (get_or ys j 0) e, add-one k, add-one j)

-- ---- word after word

pub unlike-append : (xs ys zs : List ℕ) → unlike (xs ++ ys) zs ≡ unlike xs zs || unlike ys (drop (length xs) zs)
unlike-append [] ys zs = refl
unlike-append (x ∷ xs) ys [] = sym (unlike-none ys)
unlike-append (x ∷ xs) ys (z ∷ zs) = go (eqb x z) (unlike-append xs ys zs)
  where
    go : (b : Bool) → unlike (xs ++ ys) zs ≡ unlike xs zs || unlike ys (drop (length xs) zs)
        → (not b || unlike (xs ++ ys) zs) ≡ (not b || unlike xs zs) || unlike ys (drop (length xs) zs)
    go true e = e
    go false e = refl

-- the octets of a word, and what comes behind them
word_more : (x : ℕ) (ys bytes : List ℕ) (j k : ℕ) → k ≡ j + 4
    → unlike (octets (x ∷ []) ++ ys) (drop j bytes) ≡ unlike (octets (x ∷ [])) (drop j bytes) || unlike ys (drop k bytes)
unfolding octets
word_more x ys bytes j k e =
    unlike-append (octet x 0 ∷ octet x 1 ∷ octet x 2 ∷ octet x 3 ∷ []) ys (drop j bytes)
    ∙ ap (λ (l : List ℕ). unlike (octets (x ∷ [])) (drop j bytes) || unlike ys l) (drop-drop 4 j bytes ∙ ap (λ (i : ℕ). drop i bytes) (sym e))

-- four of a list
four_of : (xs : List ℕ) (j : ℕ) → j + 4 ≤ length xs → take 4 (drop j xs) ≡ get_or xs j 0 ∷ get_or xs (j + 1) 0 ∷ get_or xs (j + 2) 0 ∷ get_or xs (j + 3) 0 ∷ []
four_of xs j h =
    let a : j + 1 ≡ suc j = omega arith in
    let b : j + 2 ≡ suc (suc j) = omega arith in
    let c : j + 3 ≡ suc (suc (suc j)) = omega arith in
    rw (
      drop-cons xs j 0 (omega arith),
      drop-cons xs (suc j) 0 (omega arith),
      drop-cons xs (suc (suc j)) 0 (omega arith),
      drop-cons xs (suc (suc (suc j))) 0 (omega arith),
      a,
      b,
      c,
    )

-- the octets of a word differ from four bytes exactly if it is not the word of these
module _ (w : ℕ) (fits : w < 2 ^ 32) (bytes : List ℕ) (below : Below 256 bytes) (at : ℕ) (h : at + 4 ≤ length bytes) where
  abbrev made : ℕ
  made = word (get_or bytes at 0) (get_or bytes (at + 1) 0) (get_or bytes (at + 2) 0) (get_or bytes (at + 3) 0)

  abbrev rest : List ℕ
  rest = drop at bytes

  made_octets : octets (made ∷ []) ≡ take 4 rest
  unfolding octets
  made_octets =
      let b : (i : ℕ) → get_or bytes i 0 < 256 = λ i. below_get_d 256 bytes i (omega arith) below in
      rw (
        octet0 _ _ _ _ (b at) (b (at + 1)) (b (at + 2)) (b (at + 3)),
        octet1 _ _ _ _ (b at) (b (at + 1)) (b (at + 2)) (b (at + 3)),
        octet2 _ _ _ _ (b at) (b (at + 1)) (b (at + 2)) (b (at + 3)),
        octet3 _ _ _ _ (b at) (b (at + 1)) (b (at + 2)) (b (at + 3)),
      )
      (sym (four_of bytes at h))

  made_like : unlike (octets (made ∷ [])) rest ≡ false
  made_like = rw made_octets (ap (unlike (take 4 rest)) (sym (take-append-drop 4 rest)) ∙ like_front (take 4 rest) (drop 4 rest))

  like_made : unlike (octets (w ∷ [])) rest ≡ false → w ≡ made
  unfolding octets words_of
  like_made e =
      let l : 4 ≤ length rest = omega (arith, length-drop at bytes) in
      let o : octets (w ∷ []) ≡ take 4 rest = like_is (octets (w ∷ [])) rest e l in
      ap (λ (x : List ℕ). get_or x 0 0) (sym (words_of_octets (w ∷ []) (fits, tt)) ∙ ap words_of (o ∙ four_of bytes at h))

  pub word-unlike : {x : ℕ} → x ≡ made → not (eqb w x) ≡ unlike (octets (w ∷ [])) rest
  word-unlike {x} e = go (eqb w x) refl (unlike (octets (w ∷ [])) rest) refl
    where
      go : (a : Bool) → eqb w x ≡ a → (u : Bool) → unlike (octets (w ∷ [])) rest ≡ u → not a ≡ u
      go true p false q = refl
      go false p true q = refl
      go true p true q = sym (rw (← e, ← (eqb-true w x p)) at made_like) ∙ q
      go false p false q = absurd (eqb-false w x p (like_made q ∙ sym e))

-- ---- a packet: behind its first byte it goes word by word

module _ (ws : List ℕ) (p : ℕ) (there : 4 * p + 4 ≤ length ws) where
  abbrev piece : List ℕ
  piece = payload_at sysex8 ws p

  -- four bytes that fill a word
  word_of_packet : (byte row : ℕ) → byte + 3 ≡ 4 * row → byte + 4 ≤ size_at sysex8 ws p → take 4 (drop byte piece) ≡ octets (get_or ws (4 * p + row) 0 ∷ [])
  unfolding octets
  word_of_packet byte row e h =
      let at : (i : ℕ) → i < 4 → get_or piece (byte + i) 0 ≡ octet (get_or ws (4 * p + row) 0) i = λ i l.
      let q : (byte + i + 3) / 4 ≡ row = omega arith in
      let r : (byte + i + 3) % 4 ≡ i = omega arith in
      get_d_payload_at sysex8 ws p there (byte + i) (omega arith) ∙ rw (q, r)
      in
      let z : byte + 0 ≡ byte = omega arith in
      four_of piece byte (omega (arith, length-payload_at sysex8 ws p there))
      ∙ rw (← (at 0 (omega arith)), ← (at 1 (omega arith)), ← (at 2 (omega arith)), ← (at 3 (omega arith)), z)

  -- they are compared at once, and then what comes behind them
  pub word-step : (bytes : List ℕ) (at byte row : ℕ) → byte + 3 ≡ 4 * row → byte + 4 ≤ size_at sysex8 ws p
      → unlike (drop byte piece) (drop (at + byte) bytes)
      ≡ unlike (octets (get_or ws (4 * p + row) 0 ∷ [])) (drop (at + byte) bytes) || unlike (drop (byte + 4) piece) (drop (at + (byte + 4)) bytes)
  word-step bytes at byte row e h =
      ap (λ (l : List ℕ). unlike l (drop (at + byte) bytes))
      (sym (take-append-drop 4 (drop byte piece)) ∙ ap₂ (λ (a b : List ℕ). a ++ b) (word_of_packet byte row e h) (drop-drop 4 byte piece))
      ∙ word_more (get_or ws (4 * p + row) 0) (drop (byte + 4) piece) bytes (at + byte) (at + (byte + 4)) (omega arith)
