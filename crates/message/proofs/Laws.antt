-- What the loops over packets share. Assumes nothing.
use mathlib.Core.Path.{◌≡◌, refl}
use Prim.Native.Nat.{ℕ, suc, ◌+◌, ◌*◌, ◌≤◌, ◌<◌}
use native.Mathlib.Nat.{mul-suc, mul-le-mul_left, le-mul_of_pos_right, mul_comm}
use native.Mathlib.Omega.{arith}
use mathlib.Core.Bool.{Bool, true, false, not, cond}
use mathlib.Core.List.{List}
use lib.Dec.{eqb}
use borrow.Author.Tests.{ne_eqb}
use lib.ListN.{length}
use mir.Syntax.{w64}
use mir.Val.{Fits}
use Rattle.refusal.specs.Answer.{refused, guard}
use Rattle.ump.specs.Word.{nibble}
use Rattle.ump.specs.Limits.{most_words}
use Rattle.ump.specs.Packing.{status_for}
use Rattle.ump.specs.Check.{status_number}
use Rattle.message.specs.Scan.{Inside}

-- a packet below their number is inside the words
pub record Here (stride p : ℕ) (ws : List ℕ) : Type 0 where
  pub index : stride * p < length ws
  pub there : stride * p + stride ≤ length ws
  pub few : stride * p + stride ≤ most_words
  pub number : p < most_words
  pub fits : Fits w64 (stride * p)
  pub bytes_fit : Fits w64 (stride * p * 4)

pub here : {stride n : ℕ} {ws : List ℕ} (p : ℕ) → Inside stride n ws → p < n → Here stride p ws
here {stride} {n} {ws} p h k =
    let l : stride * p + stride ≤ stride * n = rw mul-suc at (mul-le-mul_left stride k) in
    let i : stride * p < length ws = omega (arith, h.there, h.some_words) in
    let f : stride * p < most_words = omega (arith, h.few, h.some_words) in
    record {
      index = i;
      there = omega (arith, h.there);
      few = omega (arith, h.few);
      number = omega (arith, le-mul_of_pos_right n h.some_words, mul_comm n stride, h.few);
      fits = record { fits = omega arith };
      bytes_fit = record { fits = omega arith };
    }

-- the number for a wrong status, by the status that was wanted
pub number_of_status : (n p : ℕ) → status_number n p ≡ 6 + status_for n p
unfolding status_number status_for
number_of_status n p = go (eqb n 1) (eqb p 0) (eqb (suc p) n)
  where
    go : (a b c : Bool) → cond a 6 (cond b 7 (cond c 9 8)) ≡ 6 + cond a 0 (cond b 1 (cond c 3 2))
    go true b c = refl
    go false true c = refl
    go false false true = refl
    go false false false = refl

-- the refusal for a wrong status, by the status that was wanted
pub wrong_status : (word n p : ℕ) {status : ℕ} → status ≡ status_for n p → (nibble word 2 ≡ status → ⊥)
    → refused (6 + status) 0 ≡ guard (not (eqb (nibble word 2) (status_for n p))) (status_number n p) 0
wrong_status word n p e d = rw (ne_eqb _ _ (rw e at d), number_of_status n p, e)

-- there is a word to begin with
pub begins : {stride n : ℕ} {ws : List ℕ} → Inside stride n ws → 0 < n → 0 < length ws
begins h k = omega (arith, (here 0 h k).index)
