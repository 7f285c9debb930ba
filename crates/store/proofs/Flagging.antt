-- A table of flags, eight to a byte. Assumes nothing.
use mathlib.Core.Path.{◌≡◌, refl, sym, ap, ap₂, ◌∙◌}
use mathlib.Core.Bool.{Bool, true, false, ◌||◌}
use mathlib.Core.List.{List}
use Prim.Native.Nat.{ℕ, zero, suc, ◌+◌, ◌*◌, ◌/◌, ◌%◌, ◌^◌, ◌≤◌, ◌<◌}
use native.Mathlib.Nat.{one-mul, div-one, pow-suc, mod-eq_of_lt}
use native.Mathlib.Omega.{arith}
use lib.Dec.{eqb, eqb-zero-suc, eqb-suc-zero, eqb-suc-suc}
use lib.ListN.{length, get_or, set, replicate, get_or-eq_default}
use lib.Seq.{get_or-set_same, get_or-set_other}
use lib.Pow.{pow-lt, shr-shr, shr_le}
use lib.Bits.{bit_or, or_shr, or_mod, or_zero_r}
use borrow.Author.Tests.{eqb-true, eqb-false, eq-eqb, ne_eqb, lt-ltb, le-ltb}
use Rattle.store.specs.Places.{flagged, Flags}

-- ---- bits of a number

abbrev bit : ℕ → ℕ → Bool
bit v j = eqb (v / 2 ^ j % 2) 1

-- bit j + 1 of a number is bit j of its half
bit_suc : (v j : ℕ) → bit v (suc j) ≡ bit (v / 2) j
bit_suc v j =
    let one : suc j ≡ 1 + j = omega arith in
    ap (λ (n : ℕ). eqb (n % 2) 1) (ap (λ (i : ℕ). v / 2 ^ i) one ∙ sym (shr-shr v 1 j))

bit_zero : (v : ℕ) → bit v 0 ≡ eqb (v % 2) 1
bit_zero v = ap (λ (n : ℕ). eqb (n % 2) 1) (div-one v)

or_one : (b : ℕ) → b < 2 → bit_or b 1 ≡ 1
or_one zero h = refl
or_one (suc zero) h = refl
or_one (suc (suc b)) h = absurd (omega arith)

-- bit k of a number set
set-bit : (k j v : ℕ) → bit (bit_or v (2 ^ k)) j ≡ (eqb j k || bit v j)
set-bit zero zero v = bit_zero (bit_or v 1) ∙ ap (λ (n : ℕ). eqb n 1) (or_mod v 1 1 ∙ or_one (v % 2) (omega arith))
set-bit zero (suc j) v =
    bit_suc (bit_or v 1) j ∙ ap (λ (n : ℕ). bit n j) (or_shr v 1 1 ∙ or_zero_r (v / 2)) ∙ sym (bit_suc v j)
    ∙ ap (λ (b : Bool). b || bit v (suc j)) (sym (eqb-suc-zero j))
set-bit (suc k) zero v =
    let even : 2 ^ suc k % 2 ≡ 0 = omega (arith, pow-suc 2 k) in
    bit_zero (bit_or v (2 ^ suc k)) ∙ ap (λ (n : ℕ). eqb n 1) (or_mod v (2 ^ suc k) 1 ∙ ap (bit_or (v % 2)) even ∙ or_zero_r (v % 2)) ∙ sym (bit_zero v)
    ∙ ap (λ (b : Bool). b || bit v 0) (sym (eqb-zero-suc k))
set-bit (suc k) (suc j) v =
    let half : 2 ^ suc k / 2 ≡ 2 ^ k = omega (arith, pow-suc 2 k) in
    bit_suc (bit_or v (2 ^ suc k)) j ∙ ap (λ (n : ℕ). bit n j) (or_shr v (2 ^ suc k) 1 ∙ ap (bit_or (v / 2)) half) ∙ set-bit k j (v / 2)
    ∙ ap₂ (λ (a b : Bool). a || b) (sym (eqb-suc-suc j k)) (sym (bit_suc v j))

-- ---- flags of a table

unset : (table : List ℕ) (m : ℕ) → get_or table (m / 8) 0 ≡ 0 → flagged table m ≡ false
unset table m e =
    let none : 0 / 2 ^ (m % 8) ≡ 0 = omega (arith, shr_le 0 (m % 8)) in
    ap (λ (v : ℕ). bit v (m % 8)) e ∙ ap (λ (v : ℕ). eqb (v % 2) 1) none

-- none is set in a table of zeros, and none past a table
pub none-flagged : {table : List ℕ} (size : ℕ) → table ≡ replicate size 0 → (m : ℕ) → flagged table m ≡ false
none-flagged {table} size e m = unset table m (ap (λ (l : List ℕ). get_or l (m / 8) 0) e ∙ zeros size (m / 8))
  where
    zeros : (n i : ℕ) → ◌≡◌ {A = ℕ} (get_or (replicate n 0) i 0) 0
    zeros zero i = refl
    zeros (suc n) zero = refl
    zeros (suc n) (suc i) = zeros n i

pub past_flagged : (table : List ℕ) (m : ℕ) → length table ≤ m / 8 → flagged table m ≡ false
past_flagged table m h = unset table m (get_or-eq_default table 0 h)

-- the bit of a flag set in its byte
module _ (table : List ℕ) (n : ℕ) where
  abbrev byte : ℕ
  byte = bit_or (get_or table (n / 8) 0) (1 * 2 ^ (n % 8) % 2 ^ 8)

  set-byte : byte ≡ bit_or (get_or table (n / 8) 0) (2 ^ (n % 8))
  set-byte = ap (bit_or (get_or table (n / 8) 0)) (ap (λ (x : ℕ). x % 2 ^ 8) (one-mul (2 ^ (n % 8))) ∙ mod-eq_of_lt (pow-lt {i = n % 8} {j = 8} (omega arith)))

  set_flag : n / 8 < length table → (m : ℕ) → flagged (set table (n / 8) byte) m ≡ (eqb m n || flagged table m)
  set_flag h m = go (eqb (m / 8) (n / 8)) (eqb m n) refl refl
    where
      go : (b c : Bool) → eqb (m / 8) (n / 8) ≡ b → eqb m n ≡ c → flagged (set table (n / 8) byte) m ≡ (c || flagged table m)
      go true c p q =
          let same = eqb-true (m / 8) (n / 8) p in
          ap (λ (i : ℕ). bit (get_or (set table (n / 8) byte) i 0) (m % 8)) same
          ∙ ap (λ (v : ℕ). bit v (m % 8)) (get_or-set_same table (n / 8) byte 0 h ∙ set-byte) ∙ set-bit (n % 8) (m % 8) (get_or table (n / 8) 0)
          ∙ ap₂ (λ (a b : Bool). a || b) (place c same q) (ap (λ (i : ℕ). bit (get_or table i 0) (m % 8)) (sym same))
        where
          place : (c : Bool) → m / 8 ≡ n / 8 → eqb m n ≡ c → eqb (m % 8) (n % 8) ≡ c
          place true e q = eq-eqb (m % 8) (n % 8) (ap (λ (x : ℕ). x % 8) (eqb-true m n q))
          place false e q = ne_eqb (m % 8) (n % 8) (λ r. eqb-false m n q (omega arith))
      go false true p q = absurd (eqb-false (m / 8) (n / 8) p (ap (λ (x : ℕ). x / 8) (eqb-true m n q)))
      go false false p q = ap (λ (v : ℕ). bit v (m % 8)) (get_or-set_other table (n / 8) (m / 8) byte 0 (eqb-false (m / 8) (n / 8) p))

  pub flag_set : n / 8 < length table → Flags table n (set table (n / 8) byte)
  flag_set h m = rw (lt-ltb (n / 8) (length table) h) (set_flag h m)

  pub flag_past : length table ≤ n / 8 → Flags table n table
  flag_past h m = rw (le-ltb (n / 8) (length table) h)

-- a flag of the table is set
pub flag_inside : (before : List ℕ) (n : ℕ) (after : List ℕ) → Flags before n after → n / 8 < length before
    → (m : ℕ) → flagged after m ≡ (eqb m n || flagged before m)
flag_inside before n after f h m = rw (lt-ltb (n / 8) (length before) h) at (f m)
