-- Laws of the bytes that are taken. Assumes nothing.
use mathlib.Core.Path.{◌≡◌, refl, sym, ◌∙◌}
use mathlib.Core.List.{List, []}
use Prim.Native.Nat.{ℕ, ◌+◌, ◌-◌, ◌*◌, ◌/◌, ◌%◌, ◌^◌, ◌≤◌, ◌<◌, min}
use native.Mathlib.Nat.{add_assoc, mod-eq_of_lt, mul-le-mul_right, suc-mul, pow-le-pow_right}
use native.Mathlib.Numerals.{add-one}
use native.Mathlib.Omega.{arith}
use lib.Bits.{bit_and, and_block, and_high}
use lib.Dec.{lit<}
use lib.ListN.{length, get_or, drop, length-drop, drop_of_length-le}
use lib.Seq.{drop-cons, drop-drop}
use borrow.Author.Tests.{le-ltb, lt-ltb}
use Rattle.ump.specs.Word.{Below, pair_at}
use Rattle.flow.specs.Digits.{val}
use Rattle.flow.proofs.Digits.{powers, val_split, val-fits, val_pad, val-one}
use Rattle.ump.proofs.First.{Side, under, over, side}
use Rattle.ump.proofs.Words.{below_drop, below_at}
use Rattle.ump.proofs.Without.{length_without, below_without}
use Rattle.stream.specs.Steps.{onward, four_at, Took, TookSix, Filled}

-- ---- bytes that are taken

took_both : {m n x y : ℕ} {before middle after : List ℕ} → Took m before x middle → Took n middle y after
    → Took (m + n) before (x * 2 ^ (8 * n) + y) after
took_both {m} {n} {x} {y} {before} {middle} {after} h k =
    record {
      value = rw (h.value, k.value, h.rest) (sym (val_split m n before));
      small =
          rw (powers m n)
          (omega (arith, suc-mul x (2 ^ (8 * n)), mul-le-mul_right (2 ^ (8 * n)) h.small, k.small));
      rest = k.rest ∙ rw h.rest (drop-drop n m before);
    }

-- the byte at a position is data, a real-time byte, or there is none
module _ (inner : List ℕ) (at : ℕ) where
  took_byte : at < length inner → get_or inner at 0 < 0xF8 → Took 1 (onward inner at) (get_or inner at 0) (onward inner (at + 1))
  took_byte h l =
      let d = le-ltb 0xF7 (get_or inner at 0) (omega arith) in
      rw (drop-cons inner at 0 h, d, add-one) (record { value = sym (val-one _); small = omega arith; rest = refl })

  onward_skip : at < length inner → 0xF8 ≤ get_or inner at 0 → onward inner (at + 1) ≡ onward inner at
  onward_skip h l = rw (drop-cons inner at 0 h, lt-ltb 0xF7 (get_or inner at 0) l, add-one)

  -- where data is to come, a byte stands
  onward_some : 0 < length (onward inner at) → at < length inner
  onward_some h = go (side at (length inner))
    where
      go : Side at (length inner) → at < length inner
      go (under k e) = k
      go (over k e) = let z : 0 < 0 = rw (drop_of_length-le inner k) at h in absurd (omega arith)

-- some of the data bytes were taken, and more are to come
pub record Taking (inner : List ℕ) (at count octets taken next : ℕ) : Type 0 where
  pub so_far : Took taken (onward inner at) octets (onward inner next)
  pub within : taken ≤ count

pub taking_none : {inner : List ℕ} {at count : ℕ} → Taking inner at count 0 0 at
unfolding val
taking_none = record { so_far = record { value = refl; small = lit< tt; rest = refl }; within = omega arith }

module _ {inner : List ℕ} {at count octets taken next : ℕ} (t : Taking inner at count octets taken next) (h : taken < count) where
  pub taking_within : count ≤ length (onward inner at) → next < length inner
  taking_within l = onward_some inner next (rw t.so_far.rest (omega (arith, length-drop taken (onward inner at))))

  pub taking_data : next < length inner → get_or inner next 0 < 0xF8 → Taking inner at count (octets * 256 + get_or inner next 0) (taken + 1) (next + 1)
  taking_data k l = record { so_far = took_both t.so_far (took_byte inner next k l); within = omega arith }

  pub taking_clock : next < length inner → 0xF8 ≤ get_or inner next 0 → Taking inner at count octets taken (next + 1)
  taking_clock k l = record { so_far = rw (onward_skip inner next k l) t.so_far; within = t.within }

-- six octets at most fit a number of 48 bits
pub took_small : {taken octets : ℕ} {before after : List ℕ} → Took taken before octets after → taken ≤ 6 → octets < 2 ^ 48
took_small {taken} t h =
    let e : 8 * taken ≤ 48 = omega arith in
    let l : 2 ^ (8 * taken) ≤ 2 ^ 48 = pow-le-pow_right (lit< tt) e in
    omega (arith, t.small)

-- ---- six bytes in a row

-- where six bytes of data are to come, six bytes stand
pub six_stand : (inner : List ℕ) (at : ℕ) → 6 ≤ length (onward inner at) → at + 6 ≤ length inner
six_stand inner at h = omega (arith, length_without (drop at inner), length-drop at inner)

-- no byte has its top bit set where a mask of top bits meets nothing
top_clear : (x : ℕ) → x < 256 → bit_and x 128 ≡ 0 → x < 128
top_clear x h e =
    let d : x / 128 < 2 = omega arith in
    let s : x / 128 % 2 * 128 ≡ 0 = sym (and_high x 1 7) ∙ e in
    omega (arith, rw (mod-eq_of_lt d) at s)

two_data : {x y : ℕ} → x < 256 → y < 256 → bit_and (x * 256 + y) 0x8080 ≡ 0 → (x < 128) × (y < 128)
two_data {x} {y} h k e =
    let s : bit_and x 128 * 256 + bit_and y 128 ≡ 0 = sym (and_block 8 x 128 y 128 k (lit< tt)) ∙ e in
    (top_clear x h (omega arith), top_clear y k (omega arith))

module _ (inner : List ℕ) (byte : (i : ℕ) → get_or inner i 0 < 256) where
  -- two bytes whose top bits are clear are data
  took_two : (at : ℕ) → at + 2 ≤ length inner → bit_and (pair_at inner at) 0x8080 ≡ 0 → Took 2 (onward inner at) (pair_at inner at) (onward inner (at + 2))
  took_two at h e =
      let d = two_data (byte at) (byte (at + 1)) e in
      rw (add_assoc at 1 1) at (took_both (took_byte inner at (omega arith) (omega arith)) (took_byte inner (at + 1) (omega arith) (omega arith)))

  pub took_row : (at : ℕ) → at + 6 ≤ length inner
      → bit_and (pair_at inner at) 0x8080 + bit_and (four_at inner (at + 2)) 0x80808080 ≡ 0
      → TookSix (onward inner at) (pair_at inner at) (four_at inner (at + 2)) (onward inner (at + 6))
  took_row at h e =
      let k : ℕ = at + 2 in
      let l : pair_at inner (k + 2) < 65536 = omega (arith, byte (k + 2), byte (k + 2 + 1)) in
      let b = and_block 16 (pair_at inner k) 0x8080 (pair_at inner (k + 2)) 0x8080 l (lit< tt) in
      let t = took_two at (omega arith) (omega arith) in
      let n : at + 6 ≡ k + 2 + 2 = omega arith in
      let f = took_both (took_two k (omega arith) (omega (arith, b))) (took_two (k + 2) (omega arith) (omega (arith, b))) in
      record { two = t.value; four = rw (← t.rest) f.value; small = t.small; rest = rw n (took_both t f).rest }

-- bytes that were taken fill six octets, zero behind them
filled : (count : ℕ) {l after : List ℕ} {x : ℕ} → count ≡ min 6 (length l) → Took count l x after → (x * 2 ^ (8 * (6 - count)) ≡ val 6 l) × (after ≡ drop 6 l)
filled count {l} {after} {x} e t = go (side (length l) 6)
  where
    go : Side (length l) 6 → (x * 2 ^ (8 * (6 - count)) ≡ val 6 l) × (after ≡ drop 6 l)
    go (under h y) =
        let c : count ≡ length l = omega arith in
        let d : drop count l ≡ [] = drop_of_length-le l {i = count} (omega arith) in
        let f : drop 6 l ≡ [] = drop_of_length-le l {i = 6} (omega arith) in
        let s : count + (6 - count) ≡ 6 = omega arith in
        (rw t.value (sym (rw s at (val_pad count (6 - count) l (omega arith)))), t.rest ∙ d ∙ sym f)
    go (over h y) =
        let c : count ≡ 6 = omega arith in
        rw (t.value, t.rest, c) (omega arith, refl)

-- shifted up and cut in two words
pub took_six : (count : ℕ) {l after : List ℕ} {x high low : ℕ} → Below 256 l → count ≡ min 6 (length l) → Took count l x after
    → Filled count x high low → TookSix l high low after
took_six count {l} {after} {x} {high} {low} b e t c =
    let f = filled count e t in
    let s : x * 2 ^ (8 * (6 - count)) ≡ val 2 l * 4294967296 + val 4 (drop 2 l) = f.0 ∙ val_split 2 4 l in
    let h : val 2 l < 65536 = val-fits 2 l b in
    let k : val 4 (drop 2 l) < 4294967296 = val-fits 4 (drop 2 l) (below_drop 256 2 l b) in
    let y : high ≡ val 2 l = rw s at c.cut_high ∙ omega arith in
    record { two = y; four = rw s at c.cut_low ∙ omega arith; small = omega arith; rest = f.1 }

pub onward_below : (inner : List ℕ) (at : ℕ) → ((i : ℕ) → get_or inner i 0 < 256) → Below 256 (onward inner at)
onward_below inner at h = below_without 256 (drop at inner) (below_drop 256 at inner (below_at 256 inner (λ i k. h i)))
