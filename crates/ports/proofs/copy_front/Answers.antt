-- `ports::copy_front`: word after word, and behind the last one the others stay. Assumes nothing.
use Rattle.std.proofs.Common.{◌≡◌, ◌∙◌, sym, ap, ℕ, add-one, arith, length, get_or}
use native.Mathlib.Nat.{zero-add}
use lib.ListN.{set}
use lib.Seq.{paste, paste-suc, take_all}
use Rattle.ports.proofs.copy_front.Goals as goal

pub loop-index-preserved : goal.loop-index-preserved
loop-index-preserved c =
    let to = c.args.to.now in
    let from = c.args.from.now in
    let index = c.loop-index.index in
    rw (c.loop-index.invariant, add-one)
    (ap (λ (k : ℕ). set (paste to 0 from index) k (get_or from index 0)) (sym (zero-add index))
    ∙ paste-suc to 0 from index 0 (omega (arith, c.requires, c.loop-index-test.true)) (omega (arith, c.loop-index-test.true)))

pub returns : goal.returns
returns c =
    let e : c.loop-index.index ≡ length c.args.from.now = omega (arith, c.loop-index-test.false, c.loop-index.auto.index-end) in
    rw (e, take_all (length c.args.from.now) c.args.from.now (omega arith), zero-add) at c.loop-index.invariant
