-- Decimal digits: one digit, one digit more, how many there are. Assumes nothing.
use mathlib.Core.Path.{◌≡◌, ap}
use mathlib.Core.Bool.{cond}
use mathlib.Core.List.{[], ◌∷◌, ◌++◌}
use Prim.Native.Nat.{ℕ, zero, suc, ◌+◌, ◌/◌, ◌%◌, ◌^◌, ◌≤◌, ◌<◌}
use native.Mathlib.Nat.{pow-suc, div-lt_iff_lt-mul}
use native.Mathlib.Omega.{arith}
use borrow.Author.Tests.{lt-ltb, le-ltb}
use lib.Dec.{ltb, lit<}
use lib.ListN.{length, length-append}
use Rattle.ump.proofs.First.{Side, under, over, side}
use Rattle.listing.specs.Listing.{last_digits, decimal}

-- as many digits as are asked for, or more
enough : (a b n : ℕ) → n < a → n < b → last_digits a n ≡ last_digits b n
unfolding last_digits
enough zero b n h k = absurd (omega arith)
enough (suc a) zero n h k = absurd (omega arith)
enough (suc a) (suc b) n h k = go (side n 10) (λ l. enough a b (n / 10) (omega arith) (omega arith))
  where
    go : Side n 10 → (10 ≤ n → last_digits a (n / 10) ≡ last_digits b (n / 10))
        → cond (ltb n 10) [] (last_digits a (n / 10)) ++ ((48 + n % 10) ∷ []) ≡ cond (ltb n 10) [] (last_digits b (n / 10)) ++ ((48 + n % 10) ∷ [])
    go (under l e) f = rw e
    go (over l e) f = rw (e, f l)

pub decimal-one : (n : ℕ) → n < 10 → decimal n ≡ (48 + n) ∷ []
unfolding last_digits
decimal-one n h = rw (lt-ltb n 10 h) (ap (λ (d : ℕ). (48 + d) ∷ []) (omega arith))

pub decimal_more : (n : ℕ) → 10 ≤ n → decimal n ≡ decimal (n / 10) ++ ((48 + n % 10) ∷ [])
unfolding last_digits
decimal_more n h = rw (le-ltb n 10 h, enough n (suc (n / 10)) (n / 10) (omega arith) (omega arith))

pub length-decimal : (k n : ℕ) → n < 10 ^ suc k → length (decimal n) ≤ suc k
length-decimal zero n h = rw (decimal-one n h) (omega arith)
length-decimal (suc k) n h = go (side n 10) (length-decimal k (n / 10) ((div-lt_iff_lt-mul (lit< tt)).1 (rw pow-suc at h)))
  where
    go : Side n 10 → length (decimal (n / 10)) ≤ suc k → length (decimal n) ≤ suc (suc k)
    go (under l e) f = rw (decimal-one n l) (omega arith)
    go (over l e) f = rw (decimal_more n l, length-append) (omega arith)

pub some_digit : (n : ℕ) → 0 < length (decimal n)
unfolding last_digits
some_digit n = rw length-append (omega arith)
