-- `later` meets its contract. Assumes nothing.
use mathlib.Core.Path.{◌≡◌, sym, ap, ◌∙◌}
use Prim.Native.Nat.{ℕ, ◌+◌, ◌-◌, ◌*◌, ◌/◌, ◌^◌}
use native.Mathlib.Nat.{div-one, zero-add}
use native.Mathlib.Omega.{arith}
use Rattle.merge.specs.Thirteens.{number}
use Rattle.merge.proofs.Shifts.{meet, down, down_far}
use Rattle.merge.proofs.thirteen.later.Goals as goal

pub returns-then-some-eq0 : goal.returns-then-some-eq0
returns-then-some-eq0 c =
    let x = c.args in
    let e : x.some ≡ 0 = c.if-some-eq0.true in
    rw e (sym (div-one (number x.t)))

pub overflow_add-result : goal.overflow_add-result
overflow_add-result c =
    let x = c.args in
    omega (arith, meet (8 * x.some) (64 - 8 * x.some) (omega arith) x.t.high x.t.low (omega arith))

pub returns-then-some-lt8 : goal.returns-then-some-lt8
returns-then-some-lt8 c =
    let x = c.args in
    down (8 * x.some) (64 - 8 * x.some) (omega arith) x.t.high x.t.low

pub returns : goal.returns
returns c =
    let x = c.args in
    let e : 64 + (8 * x.some - 64) ≡ 8 * x.some = omega arith in
    zero-add _ ∙ down_far x.t.high x.t.low (8 * x.some - 64) (omega arith) ∙ ap (λ (n : ℕ). number x.t / 2 ^ n) e
