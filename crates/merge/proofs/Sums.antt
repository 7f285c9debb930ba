-- Octets that wait with nothing but zeros behind them, and others that are moved there. Assumes nothing.
use mathlib.Core.Path.{◌≡◌, sym, ap, ◌∙◌}
use mathlib.Core.List.{List}
use Prim.Native.Nat.{ℕ, ◌+◌, ◌-◌, ◌*◌, ◌/◌, ◌%◌, ◌^◌, ◌<◌}
use native.Mathlib.Nat.{mul_assoc, mul-add-mod_self_right}
use native.Mathlib.Omega.{arith}
use lib.Arith.{digits_lt}
use lib.Pow.{pow-add, shr_lt, split, low, mod-mod-pow}
use Rattle.ump.specs.Word.{Below}
use Rattle.ump.proofs.First.{Side, under, over, side}
use Rattle.flow.proofs.Flowing.{flow_padded}
use Rattle.merge.specs.Thirteens.{number}
use Rattle.merge.specs.Pieces.{waiting, Padded, Flows}
use Rattle.merge.specs.declared.held.Thirteen.{Thirteen}
use Rattle.merge.specs.declared.held.Pending.{Pending}

module _ (p : Pending) (piece moved : Thirteen) (padded : Padded p) (small : piece.low < 2 ^ 64)
    (sp : p.low < 2 ^ 64) (sm : moved.low < 2 ^ 64) (behind : number moved ≡ number piece / 2 ^ (8 * p.count)) where
  abbrev k : ℕ
  k = 8 * (13 - p.count)

  less : number moved < 2 ^ k
  less =
      let e : k + 8 * p.count ≡ 104 = omega (arith, padded.few) in
      rw behind (shr_lt k (8 * p.count) (rw e (omega (arith, piece.small))))

  sum_low : p.low + moved.low < 2 ^ 64
  sum_low = go (side k 64)
    where
      go : Side k 64 → p.low + moved.low < 2 ^ 64
      go (under l _) =
          let j = 64 - k in
          let e : j + k ≡ 64 = omega arith in
          let whole : 2 ^ 64 ≡ 2 ^ j * 2 ^ k = sym (ap (λ (x : ℕ). 2 ^ x) e) ∙ pow-add 2 j k in
          let same : waiting p % 2 ^ k ≡ p.low % 2 ^ k = rw (whole, ← mul_assoc) (mul-add-mod_self_right (p.high * 2 ^ j) (2 ^ k) p.low) in
          let fit : p.low / 2 ^ k * 2 ^ k + moved.low < 2 ^ j * 2 ^ k = digits_lt (shr_lt j k (rw e sp)) (omega (arith, less)) in
          rw whole (omega (arith, fit, split p.low k, same, padded.zeros))
      go (over l _) =
          let e : (k - 64) + 64 ≡ k = omega arith in
          let none : waiting p % 2 ^ 64 ≡ 0 = sym (mod-mod-pow (waiting p) (k - 64) 64) ∙ rw (e, padded.zeros) in
          omega (arith, none, low p.high 64 sp)

  sum_high : p.high + moved.high < 2 ^ 40
  sum_high =
      let n = waiting p in
      let j = 104 - k in
      let e : j + k ≡ 104 = omega arith in
      let whole : 2 ^ j * 2 ^ k ≡ 2 ^ 104 = sym (pow-add 2 j k) ∙ ap (λ (x : ℕ). 2 ^ x) e in
      let fit : n / 2 ^ k * 2 ^ k + number moved < 2 ^ 104 = rw whole at (digits_lt (shr_lt {n = n} j k (rw e (omega (arith, p.fits)))) less) in
      omega (arith, fit, split n k, padded.zeros)

  -- both parts fit, and together they are what waits and what comes
  pub sums : (p.low + moved.low < 2 ^ 64)
      × ((p.high + moved.high < 2 ^ 40) × ((p.high + moved.high) * 2 ^ 64 + (p.low + moved.low) ≡ waiting p + number piece / 2 ^ (8 * p.count)))
  sums = (sum_low, (sum_high, omega (arith, behind)))

-- what waits of a flow is so
pub flows_padded : {w bytes us : List ℕ} {head : ℕ} {p : Pending} → Flows w bytes head p us → Below 256 bytes → Padded p
flows_padded {p = p} f below =
    let n = flow_padded f below in
    record { few = f.few; zeros = n.0 }
