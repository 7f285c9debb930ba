-- `front` meets its contract. Assumes nothing.
use mathlib.Core.Path.{◌≡◌, ap, ◌∙◌}
use Prim.Native.Nat.{ℕ, ◌+◌, ◌-◌, ◌*◌, ◌/◌, ◌%◌, ◌^◌, ◌<◌}
use native.Mathlib.Nat.{add-zero, mod-eq_of_lt, div-mul-le_self}
use native.Mathlib.Omega.{arith}
use Rattle.merge.specs.Thirteens.{number}
use Rattle.merge.proofs.Shifts.{cut_low, cut_far}
use Rattle.merge.proofs.thirteen.front.Goals as goal

pub returns-then-some-le5 : goal.returns-then-some-le5
returns-then-some-le5 c =
    let x = c.args in
    let r = 8 * (5 - x.some) in
    let h = x.t.high in
    let e : 64 + r ≡ 8 * (13 - x.some) = omega arith in
    let fits : h / 2 ^ r * 2 ^ r < 2 ^ 40 = omega (arith, div-mul-le_self h (2 ^ r)) in
    let same : h / 2 ^ r * 2 ^ r % 2 ^ 64 ≡ h / 2 ^ r * 2 ^ r = mod-eq_of_lt (omega arith) in
    add-zero _ ∙ ap (λ (n : ℕ). n * 2 ^ 64) same ∙ cut_far h x.t.low r (omega arith) ∙ ap (λ (n : ℕ). number x.t / 2 ^ n * 2 ^ n) e

pub returns : goal.returns
returns c =
    let x = c.args in
    let r = 8 * (13 - x.some) in
    let l = x.t.low in
    let same : l / 2 ^ r * 2 ^ r % 2 ^ 64 ≡ l / 2 ^ r * 2 ^ r = mod-eq_of_lt (omega (arith, div-mul-le_self l (2 ^ r))) in
    ap (λ (n : ℕ). x.t.high * 2 ^ 64 + n) same ∙ cut_low (64 - r) r (omega arith) x.t.high l
