-- Real-time bytes in a byte stream: without them the call answers what 01's rule answers; putting them in between F0 and F7
-- changes no packet and no length, and moves the place of 18 by as many exactly if they stand before it. Assumes nothing.
use mathlib.Core.Path.{◌≡◌, refl, sym, ap, subst, ◌∙◌}
use mathlib.Core.Bool.{Bool, true, false, not, cond, ◌&&◌, ◌||◌}
use mathlib.Core.List.{List, [], ◌∷◌, ◌++◌, append_assoc}
use Prim.Native.Nat.{ℕ, zero, suc, ◌+◌, ◌-◌, ◌≤◌, ◌<◌}
use native.Mathlib.Nat.{add-zero}
use native.Mathlib.Numerals.{add-one}
use native.Mathlib.Omega.{arith}
use lib.Dec.{eqb, ltb}
use lib.ListN.{length, get_or, take, drop, length-append, take-append-drop}
use lib.Seq.{take_all, take-suc, take-append-le, drop-append-le, get_or_at, take_at}
use borrow.Author.Tests.{lt-ltb, le-ltb}
use Rattle.refusal.specs.Answer.{Answer, gives, refused, ◌▷◌, guard, writes}
use Rattle.ump.specs.Word.{Below}
use Rattle.ump.specs.Packet.{sysex7}
use Rattle.ump.specs.Packing.{pack, words_for}
use Rattle.ump.specs.Limits.{most_words}
use Rattle.ump.specs.Splice.{spliced}
use Rattle.ump.specs.Stream.{bad_frame, between, real_time, bad_byte, without_real_time, first_bad, to_sysex7}
use Rattle.ump.specs.RealTime.{strict_to_sysex7, place_moved, Writer, PassesOver, PromisedWriter}
use Rattle.ump.proofs.Words.{below_get_d}
use Rattle.ump.proofs.Splicing.{length-spliced}
use Rattle.ump.proofs.First.{Side, under, over, side, first_cong, first_suc}
use Rattle.ump.proofs.Streaming.{stream_carries}
use Rattle.ump.proofs.Without.{Front, skipped, kept, front, without-append, without-none}

-- ---- no real-time byte

-- a byte below F8 is bad exactly if it is 80 or more
strict_bad : (byte : ℕ) → byte < 0xF8 → bad_byte byte ≡ ltb 0x7F byte
strict_bad byte h = rw (le-ltb 0xF7 byte (omega arith)) (go (ltb 0x7F byte))
  where
    go : (b : Bool) → (b && true) ≡ b
    go true = refl
    go false = refl

pub as_strict : (bytes : List ℕ) (group : ℕ) (words : List ℕ) → Below 0xF8 (between bytes) → to_sysex7 bytes group words ≡ strict_to_sysex7 bytes group words
unfolding to_sysex7 strict_to_sysex7
as_strict bytes group words h =
    let e : first_bad bad_byte (between bytes) ≡ first_bad (ltb 0x7F) (between bytes) =
    first_cong _ _ (length (between bytes)) (λ i k. strict_bad _ (below_get_d 0xF8 (between bytes) i (omega arith) h))
    in
    rw (without-none (between bytes) h, e)

-- ---- real-time bytes are never bad

not_bad : (byte : ℕ) → real_time byte ≡ true → bad_byte byte ≡ false
not_bad byte e = rw e (go (ltb 0x7F byte))
  where
    go : (b : Bool) → (b && false) ≡ false
    go true = refl
    go false = refl

-- the first bad byte behind a byte
bad_behind : (x : ℕ) (xs : List ℕ) → bad_byte x ≡ false → first_bad bad_byte (x ∷ xs) ≡ suc (first_bad bad_byte xs)
bad_behind x xs e = first_suc (λ i. bad_byte (get_or (x ∷ xs) i 0)) (length xs) ∙ rw e

bad_clock : (clock xs : List ℕ) → without_real_time clock ≡ [] → first_bad bad_byte (clock ++ xs) ≡ first_bad bad_byte xs + length clock
bad_clock [] xs h = sym (add-zero _)
bad_clock (c ∷ clock) xs h = go (front c clock) (bad_clock clock xs)
  where
    go : Front c clock → (without_real_time clock ≡ [] → first_bad bad_byte (clock ++ xs) ≡ first_bad bad_byte xs + length clock)
        → first_bad bad_byte (c ∷ (clock ++ xs)) ≡ first_bad bad_byte xs + suc (length clock)
    go (skipped e f) k = bad_behind c (clock ++ xs) (not_bad c e) ∙ rw (k (sym f ∙ h)) (omega arith)
    go (kept e f) k = let z : c ∷ without_real_time clock ≡ [] = sym f ∙ h in cc

-- the first bad byte once n bytes stand at index j
abbrev shifted : ℕ → ℕ → ℕ → ℕ
shifted j n f = cond (ltb f j) f (f + n)

shifted_suc : (j n f : ℕ) → suc (shifted j n f) ≡ shifted (suc j) n (suc f)
shifted_suc j n f = go (side f j)
  where
    go : Side f j → suc (shifted j n f) ≡ shifted (suc j) n (suc f)
    go (under h e) = rw (e, lt-ltb (suc f) (suc j) (omega arith))
    go (over h e) = rw (e, le-ltb (suc f) (suc j) (omega arith)) (omega arith)

bad_put : (clock xs : List ℕ) (j : ℕ) → without_real_time clock ≡ [] → j ≤ length xs
    → first_bad bad_byte (spliced xs j j clock) ≡ shifted j (length clock) (first_bad bad_byte xs)
bad_put clock xs zero h k = bad_clock clock xs h ∙ rw (le-ltb (first_bad bad_byte xs) 0 (omega arith))
bad_put clock [] (suc j) h k = absurd (omega arith)
bad_put clock (x ∷ xs) (suc j) h k = go (bad_byte x) refl (bad_put clock xs j h (omega arith))
  where
    m : ℕ
    m = first_bad bad_byte xs

    one : (ys : List ℕ) → first_bad bad_byte (x ∷ ys) ≡ cond (bad_byte x) 0 (suc (first_bad bad_byte ys))
    one ys = first_suc (λ i. bad_byte (get_or (x ∷ ys) i 0)) (length ys)

    go : (b : Bool) → bad_byte x ≡ b → first_bad bad_byte (spliced xs j j clock) ≡ shifted j (length clock) m
        → first_bad bad_byte (x ∷ spliced xs j j clock) ≡ shifted (suc j) (length clock) (first_bad bad_byte (x ∷ xs))
    go true e i = rw (one (spliced xs j j clock), one xs, e, lt-ltb 0 (suc j) (omega arith))
    go false e i = rw (one (spliced xs j j clock), one xs, e, i) (shifted_suc j (length clock) m)

-- ---- a frame with bytes put in between

-- a first byte, what stands between, a last byte
abbrev framed : ℕ → List ℕ → ℕ → List ℕ
framed x inner y = x ∷ (inner ++ (y ∷ []))

length_framed : (x : ℕ) (inner : List ℕ) (y : ℕ) → length (framed x inner y) ≡ length inner + 2
length_framed x inner y = rw (length-append inner (y ∷ [])) (omega arith)

between_framed : (x : ℕ) (inner : List ℕ) (y : ℕ) → between (framed x inner y) ≡ inner
between_framed x inner y = take_at inner (y ∷ []) (length (framed x inner y) - 2) (omega (arith, length_framed x inner y))

bad_frame_framed : (x : ℕ) (inner : List ℕ) (y : ℕ) → bad_frame (framed x inner y) ≡ (not (eqb x 0xF0) || not (eqb y 0xF7))
bad_frame_framed x inner y =
    let l : length (framed x inner y) ≡ length inner + 2 = length_framed x inner y in
    rw (le-ltb (length (framed x inner y)) 2 (omega arith), get_or_at (x ∷ inner) y [] 0 (length (framed x inner y) - 1) (omega arith))

-- two bytes or more have a first and a last
data Framed (bytes : List ℕ) : Type 0 where
  ends_are : (x : ℕ) (inner : List ℕ) (y : ℕ) → framed x inner y ≡ bytes → Framed bytes

frame_of : (bytes : List ℕ) → 2 ≤ length bytes → Framed bytes
frame_of [] h = absurd (omega arith)
frame_of (x ∷ bytes) h =
    let m : ℕ = length bytes - 1 in
    ends_are x (take m bytes) (get_or bytes m 0)
    (ap (◌∷◌ x) (sym (take-suc bytes m 0 (omega arith)) ∙ take_all (suc m) bytes (omega arith)))

put_framed : (x : ℕ) (inner : List ℕ) (y j : ℕ) (clock : List ℕ) → j ≤ length inner
    → spliced (framed x inner y) (suc j) (suc j) clock ≡ framed x (spliced inner j j clock) y
put_framed x inner y j clock h =
    rw (take-append-le j inner (y ∷ []) h, drop-append-le j inner (y ∷ []) h, append_assoc (take j inner) (clock ++ drop j inner) (y ∷ []), append_assoc clock (drop j inner) (y ∷ []))

-- the call on a frame with such data, and with a bad byte at such a place or none
unfoldable outcome : ℕ → ℕ → ℕ → List ℕ → List ℕ → Bool → ℕ → Answer ℕ × List ℕ
outcome x y group words bs bad place =
    let needed = words_for sysex7 (length bs) in
    writes
    (guard (ltb most_words (length words)) 1 0
    ▷ guard (ltb 15 group) 16 0
    ▷ guard (not (eqb x 0xF0) || not (eqb y 0xF7)) 17 0
    ▷ guard bad 18 place
    ▷ guard (ltb (length words) needed) 14 0)
    words needed
    (pack sysex7 group [] bs ++ drop needed words)

framed_outcome : (x : ℕ) (inner : List ℕ) (y group : ℕ) (words : List ℕ) (place size : ℕ) (bs : List ℕ)
    → first_bad bad_byte inner ≡ place → length inner ≡ size → without_real_time inner ≡ bs
    → to_sysex7 (framed x inner y) group words ≡ outcome x y group words bs (ltb place size) (suc place)
unfolding to_sysex7 outcome
framed_outcome x inner y group words place size bs p l b = rw (bad_frame_framed x inner y, between_framed x inner y, p, l, b)

-- the place of 18 alone moves
outcome_moves : (x y group : ℕ) (words bs : List ℕ) (bad : Bool) (k n place : ℕ)
    → outcome x y group words bs bad (shifted k n place)
    ≡ (place_moved k n (outcome x y group words bs bad place).0, (outcome x y group words bs bad place).1)
unfolding outcome
outcome_moves x y group words bs bad k n place =
    go (ltb most_words (length words)) (ltb 15 group) (not (eqb x 0xF0) || not (eqb y 0xF7)) bad (ltb (length words) (words_for sysex7 (length bs)))
  where
    after : List ℕ
    after = pack sysex7 group [] bs ++ drop (words_for sysex7 (length bs)) words

    asked : (a b c d f : Bool) → ℕ → Answer ℕ × List ℕ
    asked a b c d f p = writes (guard a 1 0 ▷ guard b 16 0 ▷ guard c 17 0 ▷ guard d 18 p ▷ guard f 14 0) words (words_for sysex7 (length bs)) after

    other : (b : Bool) → cond b place (place + n) ≡ cond (not b) (place + n) place
    other true = refl
    other false = refl

    told : ℕ → Answer ℕ × List ℕ
    told p = (refused 18 p, words)

    go : (a b c d f : Bool) → asked a b c d f (shifted k n place) ≡ (place_moved k n (asked a b c d f place).0, (asked a b c d f place).1)
    go true b c d f = refl
    go false true c d f = refl
    go false false true d f = refl
    go false false false true f = ap told (other (ltb place k))
    go false false false false true = refl
    go false false false false false = refl

-- whether a byte is bad at all does not change
shifted_below : (j n f size : ℕ) → j ≤ size → ltb (shifted j n f) (size + n) ≡ ltb f size
shifted_below j n f size h = go (side f j) (side f size)
  where
    go : Side f j → Side f size → ltb (shifted j n f) (size + n) ≡ ltb f size
    go (under k e) s = rw (e, lt-ltb f (size + n) (omega arith), lt-ltb f size (omega arith))
    go (over k e) (under l d) = rw (e, d, lt-ltb (f + n) (size + n) (omega arith))
    go (over k e) (over l d) = rw (e, d, le-ltb (f + n) (size + n) (omega arith))

without_put : (clock xs : List ℕ) (j : ℕ) → without_real_time clock ≡ [] → without_real_time (spliced xs j j clock) ≡ without_real_time xs
without_put clock xs j h =
    rw (without-append (take j xs) (clock ++ drop j xs), without-append clock (drop j xs), h, sym (without-append (take j xs) (drop j xs)), take-append-drop j xs)

module _ (clock : List ℕ) (clocks : without_real_time clock ≡ []) (group : ℕ) (words : List ℕ) where
  framed_put : (x : ℕ) (inner : List ℕ) (y j : ℕ) → j ≤ length inner
      → to_sysex7 (framed x (spliced inner j j clock) y) group words
      ≡ (place_moved (suc j) (length clock) (to_sysex7 (framed x inner y) group words).0, (to_sysex7 (framed x inner y) group words).1)
  framed_put x inner y j h =
      let n : ℕ = length clock in
      let f : ℕ = first_bad bad_byte inner in
      let size : ℕ = length inner in
      let l : length (spliced inner j j clock) ≡ size + n = omega (arith, length-spliced inner j j clock (omega arith) h) in
      framed_outcome x (spliced inner j j clock) y group words (shifted j n f) (size + n) (without_real_time inner) (bad_put clock inner j clocks h) l (without_put clock inner j clocks)
      ∙ rw (framed_outcome x inner y group words f size (without_real_time inner) refl refl refl, shifted_below j n f size h, shifted_suc j n f)
      (outcome_moves x y group words (without_real_time inner) (ltb f size) (suc j) n (suc f))

  -- real-time bytes put in at any index strictly between F0 and F7
  pub clocks_put : (bytes : List ℕ) (k : ℕ) → 0 < k → k < length bytes
      → to_sysex7 (spliced bytes k k clock) group words
      ≡ (place_moved k (length clock) (to_sysex7 bytes group words).0, (to_sysex7 bytes group words).1)
  clocks_put bytes zero h l = absurd (omega arith)
  clocks_put bytes (suc j) h l = go (frame_of bytes (omega arith))
    where
      Law : List ℕ → Type 0
      Law bs = to_sysex7 (spliced bs (suc j) (suc j) clock) group words ≡ (place_moved (suc j) (length clock) (to_sysex7 bs group words).0, (to_sysex7 bs group words).1)

      go : Framed bytes → Law bytes
      go (ends_are x inner y e) =
          let k : j ≤ length inner = omega (arith, ap length e, length_framed x inner y) in
          subst Law e (rw (put_framed x inner y j clock k) (framed_put x inner y j k))

-- ---- of any call that promises the definition

module _ {Writes : Writer} (promised : PromisedWriter Writes) where
  put : (bytes : List ℕ) (group : ℕ) (words : List ℕ) (answer : Answer ℕ) (left : List ℕ) → Writes bytes group words answer left
      → (extra : List ℕ) → without_real_time extra ≡ [] → (k : ℕ) → 0 < k → k < length bytes
      → (then : Answer ℕ) (after : List ℕ) → Writes (spliced bytes k k extra) group words then after
      → (then ≡ place_moved k (length extra) answer) × (after ≡ left)
  put bytes group words answer left w extra c k h l then after x =
      let e : ◌≡◌ {A = Answer ℕ × List ℕ} (then, after) (place_moved k (length extra) answer, left) =
      promised.says (spliced bytes k k extra) group words then after x
      ∙ clocks_put extra c group words bytes k h l
      ∙ rw (sym (promised.says bytes group words answer left w))
      in
      (ap (λ o. o.0) e, ap (λ o. o.1) e)

  other : (b : Bool) (place : ℕ) → cond (not b) (place + 1) place ≡ cond b place (suc place)
  other true place = refl
  other false place = add-one place

  pub passes_over : PassesOver Writes
  passes_over =
      record {
        answered = promised.can_answer;
        carried = λ bytes group words n left w. stream_carries bytes group words n left (promised.says bytes group words (gives n) left w);
        as_before = λ bytes group words answer left h w. promised.says bytes group words answer left w ∙ as_strict bytes group words h;
        put_in = put;
        one_accepted = λ bytes group words n left w byte r. put bytes group words (gives n) left w (byte ∷ []) (rw r);
        one-moved = λ bytes group words place left w byte r k h l then after x.
            (put bytes group words (refused 18 place) left w (byte ∷ []) (rw r) k h l then after x).0
            ∙ ap (λ (p : ℕ). refused 18 p) (other (ltb place k) place);
      }
