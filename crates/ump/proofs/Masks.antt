-- Shift and mask as the code computes them: a part of a word is cleared, and a value put in. Assumes nothing.
use mathlib.Core.Path.{◌≡◌, sym, ap, ap₂, ◌∙◌, subst}
use Prim.Native.Nat.{ℕ, ◌+◌, ◌-◌, ◌*◌, ◌/◌, ◌%◌, ◌^◌, ◌≤◌, ◌<◌}
use native.Mathlib.Nat.{mod-lt, mod-eq_of_lt, add-mul, add-zero}
use native.Mathlib.Omega.{arith}
use lib.Pow.{pow_pos, split, shr-shr, shr_mod, ones_split, high_ones, ones_lt, shl_exact}
use lib.Bits.{bit_and, bit_or, and_block, or_block, and_high, and_mask, or_shifted, or_zero_r}
use Rattle.ump.specs.Word.{with_part}

cancel : (a b c : ℕ) → (a + b) + c - b ≡ a + c
cancel a b c = omega arith

-- all bits of a word but the part's, where `above` bits stand past it
hole : (above width low : ℕ) → (2 ^ (above + width + low) - 1) - (2 ^ width - 1) * 2 ^ low
    ≡ (2 ^ (above + width) - 2 ^ width) * 2 ^ low + (2 ^ low - 1)
hole above width low =
    let a = (2 ^ above - 1) * 2 ^ width in
    let b = 2 ^ width - 1 in
    ap (λ (n : ℕ). n - b * 2 ^ low)
    (ones_split (above + width) low
    ∙ ap (λ (n : ℕ). n * 2 ^ low + (2 ^ low - 1)) (ones_split above width)
    ∙ ap (λ (n : ℕ). n + (2 ^ low - 1)) (add-mul a b (2 ^ low)))
    ∙ cancel (a * 2 ^ low) (b * 2 ^ low) (2 ^ low - 1)
    ∙ ap (λ (n : ℕ). n * 2 ^ low + (2 ^ low - 1)) (sym (high_ones above width))

module _ (width low x value : ℕ) (fits : value < 2 ^ width) where
  -- in a number of so many bits, the part's are cleared and the value is put in
  set_bits : (bits : ℕ) → low + width ≤ bits → x < 2 ^ bits
      → bit_or (bit_and x ((2 ^ bits - 1) - (2 ^ width - 1) * 2 ^ low)) (value * 2 ^ low) ≡ with_part x low width value
  set_bits bits room small =
      let above = bits - (low + width) in
      let e : above + width + low ≡ bits = omega arith in
      let e' : above + (low + width) ≡ bits = omega arith in
      let small' : x < 2 ^ (above + (low + width)) = subst (λ (n : ℕ). x < 2 ^ n) (sym e') small in
      let high = x / 2 ^ low / 2 ^ width % 2 ^ above in
      let kept : bit_and x ((2 ^ bits - 1) - (2 ^ width - 1) * 2 ^ low) ≡ (high * 2 ^ width) * 2 ^ low + x % 2 ^ low =
      ap₂ bit_and (sym (split x low)) (ap (λ (n : ℕ). (2 ^ n - 1) - (2 ^ width - 1) * 2 ^ low) (sym e) ∙ hole above width low)
      ∙ and_block low (x / 2 ^ low) (2 ^ (above + width) - 2 ^ width) (x % 2 ^ low) (2 ^ low - 1) (mod-lt x (pow_pos low)) (ones_lt low)
      ∙ ap₂ (λ (a b : ℕ). a * 2 ^ low + b) (and_high (x / 2 ^ low) above width) (and_mask (x % 2 ^ low) low ∙ mod-eq_of_lt (mod-lt x (pow_pos low)))
      in
      ap₂ bit_or kept (sym (add-zero (value * 2 ^ low)))
      ∙ or_block low (high * 2 ^ width) value (x % 2 ^ low) 0 (mod-lt x (pow_pos low)) (pow_pos low)
      ∙ ap₂ (λ (a b : ℕ). a * 2 ^ low + b) (or_shifted high width value fits) (or_zero_r (x % 2 ^ low))
      ∙ ap (λ (a : ℕ). (a * 2 ^ width + value) * 2 ^ low + x % 2 ^ low)
      (ap (λ (a : ℕ). a % 2 ^ above) (shr-shr x low width) ∙ shr_mod above (low + width) small')

  -- the same on 32 bits, where a shift drops what leaves the word
  pub set_code : (most : ℕ) → most + 1 ≡ 2 ^ width → low + width ≤ 32 → x < 2 ^ 32
      → bit_or (bit_and x ((2 ^ 32 - 1) - (most * 2 ^ low) % 2 ^ 32)) ((value * 2 ^ low) % 2 ^ 32) ≡ with_part x low width value
  set_code most is room small =
      let ones : most ≡ 2 ^ width - 1 = omega (arith, is) in
      ap₂ (λ (m v : ℕ). bit_or (bit_and x ((2 ^ 32 - 1) - m)) v)
      (ap (λ (n : ℕ). (n * 2 ^ low) % 2 ^ 32) ones ∙ shl_exact width low 32 (ones_lt width) (omega arith))
      (shl_exact width low 32 fits (omega arith))
      ∙ set_bits 32 room small
