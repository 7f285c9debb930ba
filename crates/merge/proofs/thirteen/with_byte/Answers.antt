-- `with_byte` meets its contract. Assumes nothing.
use mathlib.Core.Path.{◌≡◌, ap, ◌∙◌}
use Prim.Native.Nat.{ℕ, ◌+◌, ◌-◌, ◌*◌, ◌/◌, ◌%◌, ◌^◌, ◌<◌}
use native.Mathlib.Omega.{arith}
use Rattle.merge.specs.Thirteens.{number}
use Rattle.merge.specs.declared.held.Thirteen.{Thirteen}
use Rattle.merge.proofs.Sums.{sums}
use Rattle.merge.proofs.Parts.{byte_moved}
use Rattle.merge.proofs.thirteen.with_byte.Goals as goal

-- the byte behind the others
module _ (t moved : Thirteen) (i b : ℕ) (few : i < 13) (zeros : number t % 2 ^ (8 * (13 - i)) ≡ 0) (st : t.low < 2 ^ 64) (sm : moved.low < 2 ^ 64)
    (sb : b < 256) (is : number moved ≡ (b * 4294967296 * 2 ^ 64 + 0) / 2 ^ (8 * i)) where
  both : (t.low + moved.low < 2 ^ 64) × ((t.high + moved.high < 2 ^ 40) × ((t.high + moved.high) * 2 ^ 64 + (t.low + moved.low) ≡ number t + b * 2 ^ (8 * (12 - i))))
  both =
      let s = sums (record { high = t.high; low = t.low; count = i; packet = 0; fits = t.small }) (record { high = b * 4294967296; low = 0; small = omega arith }) moved (record { few = few; zeros = zeros }) (omega arith) st sm is in
      let e : b * 4294967296 * 2 ^ 64 + 0 ≡ b * 2 ^ 96 = omega arith in
      (s.0, (s.1.0, s.1.1 ∙ ap (λ (n : ℕ). number t + n) (ap (λ (n : ℕ). n / 2 ^ (8 * i)) e ∙ byte_moved b i (omega arith))))

pub overflow_add-result : goal.overflow_add-result
overflow_add-result c =
    omega (arith, c.args.t.small, c.later-moved.result.small)

pub overflow_add-result-2 : goal.overflow_add-result-2
overflow_add-result-2 c =
    let x = c.args in
    omega (arith, (both x.t c.later-moved.result x.index x.byte c.requires.0 c.requires.1 (omega arith) (omega arith) (omega arith) c.later-moved.ensures).0)

pub invariant_of-result : goal.invariant_of-result
invariant_of-result c =
    let x = c.args in
    record { small = (both x.t c.later-moved.result x.index x.byte c.requires.0 c.requires.1 (omega arith) (omega arith) (omega arith) c.later-moved.ensures).1.0 }

pub returns : goal.returns
returns c =
    let x = c.args in
    (both x.t c.later-moved.result x.index x.byte c.requires.0 c.requires.1 (omega arith) (omega arith) (omega arith) c.later-moved.ensures).1.1
