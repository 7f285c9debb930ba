-- `five_of` meets its contract. Assumes nothing.
use Rattle.std.proofs.Common.{sym, arith}
use Rattle.merge.proofs.Parts.{five_words}
use Rattle.merge.proofs.thirteen.five_of.Goals as goal

pub returns : goal.returns
returns c =
    (rw (c.from.ensures, c.from-2.ensures, c.four_of.ensures) (sym (five_words c.args.bytes.now 0)), omega (arith, c.from.ensures, c.type_inv.bytes 0, c.from-2.ensures, c.four_of.type_inv))
