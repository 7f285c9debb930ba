-- `earlier` meets its contract. Assumes nothing.
use mathlib.Core.Path.{◌≡◌, ap, ◌∙◌}
use Prim.Native.Nat.{ℕ, ◌+◌, ◌-◌, ◌*◌, ◌%◌, ◌^◌}
use native.Mathlib.Nat.{add-zero}
use native.Mathlib.Omega.{arith}
use Rattle.merge.specs.Thirteens.{number}
use Rattle.merge.proofs.Shifts.{meet, up, up_far}
use Rattle.merge.proofs.thirteen.earlier.Goals as goal

pub overflow_add-result : goal.overflow_add-result
overflow_add-result c =
    let x = c.args in
    omega (arith, meet (64 - 8 * x.some) (8 * x.some) (omega arith) x.t.high x.t.low (omega arith))

pub returns-then-some-lt8 : goal.returns-then-some-lt8
returns-then-some-lt8 c =
    let x = c.args in
    up (8 * x.some) (64 - 8 * x.some) (omega arith) x.t.high x.t.low

pub returns : goal.returns
returns c =
    let x = c.args in
    let e : 64 + (8 * x.some - 64) ≡ 8 * x.some = omega arith in
    add-zero _ ∙ up_far x.t.high x.t.low (8 * x.some - 64) ∙ ap (λ (n : ℕ). number x.t * 2 ^ n % 2 ^ 104) e
