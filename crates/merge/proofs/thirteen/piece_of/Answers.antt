-- `piece_of` meets its contract: fewer than five bytes, all 13, and those between. Assumes nothing.
use Rattle.std.proofs.Common.{ℕ, ◌+◌, ◌*◌, ◌^◌, sym, ap, ◌∙◌, arith}
use Rattle.flow.proofs.Digits.{val_nil}
use Rattle.merge.proofs.Parts.{by_words, five_first}
use Rattle.merge.proofs.thirteen.piece_of.Goals as goal

pub few_of-requires : goal.few_of-requires
few_of-requires c = (omega arith, (omega arith, sym (val_nil 13)))

pub returns-then-bytes-eq13 : goal.returns-then-bytes-eq13
returns-then-bytes-eq13 c =
    let five = c.five_of-high.ensures in
    rw (five.0, c.from.ensures, c.from-then-bytes-eq13.ensures, c.four_of.ensures, c.four_of-then-bytes-eq13.ensures) (sym (by_words c.args.bytes.now 0))

pub few_of-requires-2 : goal.few_of-requires-2
few_of-requires-2 c =
    let five = c.five_of-high.ensures in
    (omega arith, (omega arith, ap (λ (n : ℕ). n * 2 ^ 64 + 0) five.0 ∙ sym (five_first c.args.bytes.now)))
