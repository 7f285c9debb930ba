-- `front_of` meets its contract. Assumes nothing.
use mathlib.Core.Path.{◌≡◌, sym, ap, ◌∙◌}
use Prim.Native.Nat.{ℕ}
use native.Mathlib.Omega.{arith}
use Rattle.merge.specs.Thirteens.{front_of}
use Rattle.merge.proofs.Parts.{front_zero}
use Rattle.merge.proofs.Bodies.{body-fits}
use Rattle.merge.proofs.thirteen.front_of.Goals as goal

pub returns-then-some-eq0 : goal.returns-then-some-eq0
returns-then-some-eq0 c =
    let x = c.args in
    let e : x.some ≡ 0 = c.if-some-eq0.true in
    rw e (sym (front_zero _ (body-fits x.words.now x.packet)))

pub load-requires : goal.load-requires
load-requires c =
    (omega arith, c.requires.1.1 (omega arith))

pub returns : goal.returns
returns c =
    c.front.ensures ∙ ap (λ (n : ℕ). front_of n c.args.some) c.load.ensures
