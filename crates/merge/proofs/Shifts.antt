-- Laws of a number of 104 bits in two parts, its 64 low bits and the rest: both moved down or up. Assumes nothing.
use mathlib.Core.Path.{◌≡◌, sym, ap, ◌∙◌}
use Prim.Native.Nat.{ℕ, ◌+◌, ◌*◌, ◌/◌, ◌%◌, ◌^◌, ◌<◌}
use native.Mathlib.Nat.{add-zero, add-mul, mul_assoc, mul_comm, add_assoc, mod-lt, mod-add-mod, mul-mod_left, mul-div-mul_right, mul-add-div_right, mul-add-mod_self_right}
use native.Mathlib.Omega.{arith}
use lib.Arith.{digits_lt}
use lib.Pow.{pow_pos, pow-add, shl-shr, shr_lt, shr-shr, split, high, mod-pow-add, mod-mod-pow}

-- a shift by i, and the shift by j that goes with it
module _ (i j : ℕ) (e : i + j ≡ 64) where
  whole : 2 ^ 64 ≡ 2 ^ i * 2 ^ j
  whole = sym (ap (λ (x : ℕ). 2 ^ x) e) ∙ pow-add 2 i j

  -- what is shifted up out of 64 bits is lost
  rotated : (h : ℕ) → h * 2 ^ j % 2 ^ 64 ≡ h % 2 ^ i * 2 ^ j
  rotated h = ap (λ (x : ℕ). h * 2 ^ j % 2 ^ x) (sym e) ∙ mod-pow-add (h * 2 ^ j) i j ∙ rw (shl-shr h j, mul-mod_left h (2 ^ j), add-zero)

  -- the low bits of one part fill those that the other left
  pub meet : (h l : ℕ) → l < 2 ^ 64 → h * 2 ^ j % 2 ^ 64 + l / 2 ^ i < 2 ^ 64
  meet h l small =
      let e' : j + i ≡ 64 = omega arith in
      rw (rotated h, whole) (digits_lt (mod-lt h (pow_pos i)) (shr_lt j i (rw e' small)))

  pub down : (h l : ℕ) → h / 2 ^ i * 2 ^ 64 + (h * 2 ^ j % 2 ^ 64 + l / 2 ^ i) ≡ (h * 2 ^ 64 + l) / 2 ^ i
  down h l =
      let parts : h * 2 ^ j ≡ h / 2 ^ i * (2 ^ i * 2 ^ j) + h % 2 ^ i * 2 ^ j = ap (λ (x : ℕ). x * 2 ^ j) (sym (split h i)) ∙ rw (add-mul, mul_assoc) in
      let right : (h * (2 ^ i * 2 ^ j) + l) / 2 ^ i ≡ h * 2 ^ j + l / 2 ^ i = rw (mul_comm (2 ^ i) (2 ^ j), ← mul_assoc) (mul-add-div_right (pow_pos i) (h * 2 ^ j) l) in
      rw (rotated h, whole, right, parts) (sym (add_assoc (h / 2 ^ i * (2 ^ i * 2 ^ j)) (h % 2 ^ i * 2 ^ j) (l / 2 ^ i)))

  -- and moved up, where bits above the 40 of the first part are lost
  pub up : (h l : ℕ) → (h * 2 ^ i % 2 ^ 64 + l / 2 ^ j) % 2 ^ 40 * 2 ^ 64 + l * 2 ^ i % 2 ^ 64 ≡ (h * 2 ^ 64 + l) * 2 ^ i % 2 ^ 104
  up h l =
      let n = h * 2 ^ i * 2 ^ 64 + l * 2 ^ i in
      let is : (h * 2 ^ 64 + l) * 2 ^ i ≡ n = rw (add-mul, mul_assoc, mul_comm (2 ^ 64) (2 ^ i), ← mul_assoc) in
      let turned : 2 ^ 64 ≡ 2 ^ j * 2 ^ i = whole ∙ mul_comm (2 ^ i) (2 ^ j) in
      let over : l * 2 ^ i / 2 ^ 64 ≡ l / 2 ^ j = ap (λ (x : ℕ). l * 2 ^ i / x) turned ∙ mul-div-mul_right l (2 ^ j) (pow_pos i) in
      let above : n / 2 ^ 64 ≡ h * 2 ^ i + l / 2 ^ j = mul-add-div_right (pow_pos 64) (h * 2 ^ i) (l * 2 ^ i) ∙ ap (λ (x : ℕ). h * 2 ^ i + x) over in
      let cut : (h * 2 ^ i % 2 ^ 64 + l / 2 ^ j) % 2 ^ 40 ≡ n / 2 ^ 64 % 2 ^ 40 =
      sym (mod-add-mod (h * 2 ^ i % 2 ^ 64) (2 ^ 40) (l / 2 ^ j))
      ∙ ap (λ (x : ℕ). (x + l / 2 ^ j) % 2 ^ 40) (mod-mod-pow (h * 2 ^ i) 24 40)
      ∙ mod-add-mod (h * 2 ^ i) (2 ^ 40) (l / 2 ^ j)
      ∙ ap (λ (x : ℕ). x % 2 ^ 40) (sym above) in
      let below : l * 2 ^ i % 2 ^ 64 ≡ n % 2 ^ 64 = sym (mul-add-mod_self_right (h * 2 ^ i) (2 ^ 64) (l * 2 ^ i)) in
      ap (λ (x : ℕ). x * 2 ^ 64 + l * 2 ^ i % 2 ^ 64) cut
      ∙ ap (λ (x : ℕ). n / 2 ^ 64 % 2 ^ 40 * 2 ^ 64 + x) below
      ∙ sym (mod-pow-add n 40 64)
      ∙ ap (λ (x : ℕ). x % 2 ^ 104) (sym is)

  -- the low bits of the second part are lost
  pub cut_low : (h l : ℕ) → h * 2 ^ 64 + l / 2 ^ j * 2 ^ j ≡ (h * 2 ^ 64 + l) / 2 ^ j * 2 ^ j
  cut_low h l =
      let parts : h * 2 ^ 64 ≡ h * 2 ^ i * 2 ^ j = rw (whole, ← mul_assoc) in
      rw (parts, mul-add-div_right (pow_pos j) (h * 2 ^ i) l, add-mul)

-- a shift by 64 and more
pub down_far : (h l c : ℕ) → l < 2 ^ 64 → h / 2 ^ c ≡ (h * 2 ^ 64 + l) / 2 ^ (64 + c)
down_far h l c small = rw (← shr-shr (h * 2 ^ 64 + l) 64 c, high h 64 small)

pub up_far : (h l c : ℕ) → l * 2 ^ c % 2 ^ 64 % 2 ^ 40 * 2 ^ 64 ≡ (h * 2 ^ 64 + l) * 2 ^ (64 + c) % 2 ^ 104
up_far h l c =
    let n = (h * 2 ^ 64 + l) * 2 ^ c in
    let is : (h * 2 ^ 64 + l) * 2 ^ (64 + c) ≡ n * 2 ^ 64 = rw (pow-add 2 64 c, mul_comm (2 ^ 64) (2 ^ c), ← mul_assoc) in
    let apart : n ≡ h * 2 ^ c * 2 ^ 64 + l * 2 ^ c = rw (add-mul, mul_assoc, mul_comm (2 ^ 64) (2 ^ c), ← mul_assoc) in
    let low : l * 2 ^ c % 2 ^ 64 % 2 ^ 40 ≡ n % 2 ^ 40 =
    ap (λ (x : ℕ). x % 2 ^ 40) (sym (mul-add-mod_self_right (h * 2 ^ c) (2 ^ 64) (l * 2 ^ c)))
    ∙ mod-mod-pow (h * 2 ^ c * 2 ^ 64 + l * 2 ^ c) 24 40
    ∙ ap (λ (x : ℕ). x % 2 ^ 40) (sym apart) in
    sym
    (ap (λ (x : ℕ). x % 2 ^ 104) is
    ∙ mod-pow-add (n * 2 ^ 64) 40 64
    ∙ rw (shl-shr n 64, mul-mod_left n (2 ^ 64), add-zero, low))

pub cut_far : (h l c : ℕ) → l < 2 ^ 64 → h / 2 ^ c * 2 ^ c * 2 ^ 64 ≡ (h * 2 ^ 64 + l) / 2 ^ (64 + c) * 2 ^ (64 + c)
cut_far h l c small = rw (← down_far h l c small, pow-add 2 64 c, mul_comm (2 ^ 64) (2 ^ c), ← mul_assoc)
