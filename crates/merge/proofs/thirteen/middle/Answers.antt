-- `middle` meets its contract. Assumes nothing.
use mathlib.Core.Path.{◌≡◌, sym, ap, ◌∙◌}
use Prim.Native.Nat.{ℕ, ◌*◌, ◌%◌, ◌^◌}
use native.Mathlib.Nat.{mod-lt}
use lib.Pow.{pow_pos}
use Rattle.merge.specs.Thirteens.{number, front_of}
use Rattle.merge.proofs.Parts.{front_zero}
use Rattle.merge.proofs.thirteen.middle.Goals as goal

pub returns-then-byte-eq0 : goal.returns-then-byte-eq0
returns-then-byte-eq0 c =
    let x = c.args in
    let e : x.some ≡ 0 = c.requires.1.1 c.if-byte-eq0.true in
    rw e (sym (front_zero (number x.t * 2 ^ (8 * x.byte) % 2 ^ 104) (mod-lt _ (pow_pos 104))))

pub returns : goal.returns
returns c =
    c.front.ensures ∙ ap (λ (n : ℕ). front_of n c.args.some) c.earlier.ensures
