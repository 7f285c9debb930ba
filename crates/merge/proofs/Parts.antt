-- Parts of packets and of lent bytes, as numbers. Assumes nothing.
use mathlib.Core.Path.{◌≡◌, sym, ap, ◌∙◌}
use mathlib.Core.List.{List, [], ◌∷◌, ◌++◌}
use Prim.Native.Nat.{ℕ, suc, ◌+◌, ◌-◌, ◌*◌, ◌/◌, ◌%◌, ◌^◌, ◌≤◌, ◌<◌}
use native.Mathlib.Nat.{add-zero, mul_assoc, div-eq_of_lt, mul-div_cancel}
use native.Mathlib.Numerals.{add-one}
use native.Mathlib.Omega.{arith}
use lib.ListN.{length, get_or, take, drop, length-take}
use lib.Pow.{pow_pos, pow-add}
use lib.Seq.{take-suc, get_or-drop, drop-drop}
use Rattle.ump.specs.Word.{word, Below}
use Rattle.ump.proofs.Words.{below_drop}
use Rattle.flow.specs.Digits.{val}
use Rattle.merge.specs.Thirteens.{front_of, middle_of}
use Rattle.flow.proofs.Digits.{val-take, val_nil, val_split, val_pad, val-append, val-one, val_four, left_number, front_number, zeros_number}

pub front_part : (xs : List ℕ) (s : ℕ) → Below 256 xs → s ≤ 13 → front_of (val 13 xs) s ≡ val 13 (take s xs)
front_part xs s b h =
    let e : s + (13 - s) ≡ 13 = omega arith in
    rw e at (front_number s (13 - s) xs b)

pub middle_part : (xs : List ℕ) (byte s : ℕ) → Below 256 xs → length xs ≤ 13 → byte ≤ 13 → s ≤ 13 → middle_of (val 13 xs) byte s ≡ val 13 (take s (drop byte xs))
middle_part xs byte s b l h k =
    let e : (13 - byte) + byte ≡ 13 = omega arith in
    let left : val 13 xs * 2 ^ (8 * byte) % 2 ^ 104 ≡ val 13 (drop byte xs) = rw e at (left_number (13 - byte) byte xs b (omega arith)) in
    rw left (front_part (drop byte xs) s (below_drop 256 byte xs b) k)

-- all bytes, and none
pub front_all : (n : ℕ) → front_of n 13 ≡ n
front_all n = omega arith

pub front_zero : (n : ℕ) → n < 2 ^ 104 → front_of n 0 ≡ 0
front_zero n h = rw (div-eq_of_lt h)

-- one byte more
pub byte_moved : (b i : ℕ) → i ≤ 12 → b * 2 ^ 96 / 2 ^ (8 * i) ≡ b * 2 ^ (8 * (12 - i))
byte_moved b i h =
    let e : 8 * (12 - i) + 8 * i ≡ 96 = omega arith in
    let whole : 2 ^ 96 ≡ 2 ^ (8 * (12 - i)) * 2 ^ (8 * i) = sym (ap (λ (x : ℕ). 2 ^ x) e) ∙ pow-add 2 (8 * (12 - i)) (8 * i) in
    rw (whole, ← mul_assoc) (mul-div_cancel (b * 2 ^ (8 * (12 - i))) (pow_pos (8 * i)))

val_last : (n x : ℕ) → val (suc n) (x ∷ []) ≡ x * 2 ^ (8 * n)
unfolding val
val_last n x = rw (val_nil n, add-zero)

pub byte_more : (xs : List ℕ) (i : ℕ) → i < length xs → i < 13 → val 13 (take (i + 1) xs) ≡ val 13 (take i xs) + get_or xs i 0 * 2 ^ (8 * (12 - i))
byte_more xs i l h =
    let e : i + (13 - i) ≡ 13 = omega arith in
    let d : 13 - i ≡ suc (12 - i) = omega arith in
    let long : length (take i xs) ≡ i = simp length-take (omega arith) in
    let more : val 13 (take i xs ++ (get_or xs i 0 ∷ [])) ≡ val i (take i xs) * 2 ^ (8 * (13 - i)) + val (13 - i) (get_or xs i 0 ∷ []) = rw e at (val-append i (13 - i) (take i xs) (get_or xs i 0 ∷ []) long) in
    let pad : val 13 (take i xs) ≡ val i (take i xs) * 2 ^ (8 * (13 - i)) = rw e at (val_pad i (13 - i) (take i xs) (omega arith)) in
    let one : val (13 - i) (get_or xs i 0 ∷ []) ≡ get_or xs i 0 * 2 ^ (8 * (12 - i)) = rw d (val_last (12 - i) (get_or xs i 0)) in
    rw (add-one, take-suc xs i 0 l) (more ∙ rw (pad, one))

pub few_zeros : (xs : List ℕ) (i : ℕ) → i < 13 → val 13 (take i xs) % 2 ^ (8 * (13 - i)) ≡ 0
few_zeros xs i h =
    let e : i + (13 - i) ≡ 13 = omega arith in
    rw e at (zeros_number i (13 - i) (take i xs) (simp length-take (omega arith)))

-- lent bytes by words: the first five, and the other eight
module _ (xs : List ℕ) (at : ℕ) where
  four : (i : ℕ) → val 4 (drop i xs) ≡ word (get_or xs i 0) (get_or xs (i + 1) 0) (get_or xs (i + 2) 0) (get_or xs (i + 3) 0)
  four i = val_four (drop i xs) ∙ rw (get_or-drop i xs 0 0, get_or-drop i xs 1 0, get_or-drop i xs 2 0, get_or-drop i xs 3 0, add-zero)

  pub five_words : val 5 (drop at xs) ≡ get_or xs at 0 * 2 ^ 32 + word (get_or xs (at + 1) 0) (get_or xs (at + 1 + 1) 0) (get_or xs (at + 1 + 2) 0) (get_or xs (at + 1 + 3) 0)
  five_words =
      let b : val 5 (drop at xs) ≡ val 1 (drop at xs) * 2 ^ 32 + val 4 (drop 1 (drop at xs)) = val_split 1 4 (drop at xs) in
      let one : val 1 (drop at xs) ≡ get_or xs at 0 = val-one (drop at xs) ∙ get_or-drop at xs 0 0 ∙ ap (λ (i : ℕ). get_or xs i 0) (add-zero at) in
      rw (b, one, drop-drop 1 at xs, four (at + 1))

  pub by_words : val 13 (drop at xs)
      ≡ val 5 (drop at xs) * 2 ^ 64
      + (word (get_or xs (at + 5) 0) (get_or xs (at + 5 + 1) 0) (get_or xs (at + 5 + 2) 0) (get_or xs (at + 5 + 3) 0) * 2 ^ 32 + word (get_or xs (at + 9) 0) (get_or xs (at + 9 + 1) 0) (get_or xs (at + 9 + 2) 0) (get_or xs (at + 9 + 3) 0))
  by_words =
      let ys = drop at xs in
      let a : val 13 ys ≡ val 5 ys * 2 ^ 64 + val 8 (drop 5 ys) = val_split 5 8 ys in
      let c : val 8 (drop 5 ys) ≡ val 4 (drop 5 ys) * 2 ^ 32 + val 4 (drop 4 (drop 5 ys)) = val_split 4 4 (drop 5 ys) in
      rw (a, c, drop-drop 4 5 ys, drop-drop 5 at xs, drop-drop 9 at xs, four (at + 5), four (at + 9))

pub five_first : (xs : List ℕ) → val 13 (take 5 xs) ≡ val 5 xs * 2 ^ 64 + 0
five_first xs =
    let pad : val 13 (take 5 xs) ≡ val 5 (take 5 xs) * 2 ^ 64 = val_pad 5 8 (take 5 xs) (simp length-take (omega arith)) in
    pad ∙ rw (val-take 5 5 xs (omega arith)) (omega arith)
