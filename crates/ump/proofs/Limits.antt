-- What fits a number of words: as many bytes as their packets carry, and no more. Assumes nothing.
use Prim.Native.Nat.{ℕ, ◌*◌, ◌/◌, ◌≤◌, ◌<◌}
use native.Mathlib.Nat.{le_trans, mul_comm, mul-le-mul_left, le-div_iff_mul-le, mul-div-le}
use native.Mathlib.Omega.{arith}
use lib.Dec.{lit≤}
use Rattle.ump.specs.Packet.{Shape, sysex8, sysex7}
use Rattle.ump.specs.Packing.{words_for, packets_for}
use Rattle.ump.specs.Limits.{most_words, most_bytes, capacity, Dense}
use Rattle.ump.proofs.First.{Side, under, over, side}
use Rattle.ump.proofs.Sizes.{words_pos, packets_enough, packets_least}

module _ (shape : Shape) (n words : ℕ) where
  -- bytes that fit the words are no more than these carry
  pub fitting_carried : words_for shape n ≤ words → n ≤ capacity shape words
  fitting_carried h =
      let k : packets_for shape n ≤ words / shape.words = (le-div_iff_mul-le (words_pos shape)).1 (omega (arith, h, mul_comm (packets_for shape n) shape.words)) in
      let most : shape.room * packets_for shape n ≤ shape.room * (words / shape.words) = mul-le-mul_left shape.room k in
      omega (arith, packets_enough shape n, most, mul_comm shape.room (words / shape.words))

  -- and as many fit, where the words hold a packet
  pub carried_fitting : shape.words ≤ words → n ≤ capacity shape words → words_for shape n ≤ words
  carried_fitting some h =
      let k : 0 < words / shape.words = (le-div_iff_mul-le (words_pos shape)).1 (omega arith) in
      let few : packets_for shape n ≤ words / shape.words =
      packets_least shape n (words / shape.words) k (omega (arith, h, mul_comm shape.room (words / shape.words)))
      in
      le_trans (mul-le-mul_left shape.words few) (mul-div-le words shape.words)

  -- more never do
  pub more_never_fit : capacity shape words < n → words < words_for shape n
  more_never_fit h = go (side words (words_for shape n))
    where
      go : Side words (words_for shape n) → words < words_for shape n
      go (under l e) = l
      go (over l e) = absurd (omega (arith, fitting_carried l))

-- 53,248 bytes fit 16,384 words, 53,249 never do
pub most_fits : (n : ℕ) → n ≤ most_bytes → words_for sysex8 n ≤ most_words
most_fits n h = carried_fitting sysex8 n most_words (lit≤ tt) h

pub most_exceeded : (n : ℕ) → most_bytes < n → most_words < words_for sysex8 n
most_exceeded n h = more_never_fit sysex8 n most_words h

-- ---- of any shape that keeps within the limits

pub dense8 : Dense sysex8
dense8 = lit≤ tt

pub dense7 : Dense sysex7
dense7 = lit≤ tt

pub dense_fits : (shape : Shape) → Dense shape → (n words : ℕ) → words_for shape n ≤ words → words ≤ most_words → n ≤ most_bytes
dense_fits shape dense n words w l = le_trans (fitting_carried shape n most_words (le_trans w l)) dense
