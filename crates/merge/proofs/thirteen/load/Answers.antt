-- `load` meets its contract. Assumes nothing.
use Rattle.std.proofs.Common.{◌≡◌, ◌+◌, ◌*◌, ◌%◌, get_or, sym, ◌∙◌, arith}
use Rattle.merge.proofs.Bodies.{body-number}
use Rattle.merge.proofs.thirteen.load.Goals as goal

pub returns : goal.returns
returns c =
    let w = c.args.words.now in
    let p = c.args.packet in
    let word = c.type_inv.words in
    let byte : c.from.result ≡ get_or w (4 * p) 0 % 256 = c.from.ensures ∙ omega (arith, c.octet_of.ensures) in
    rw (byte, c.from-2.ensures, c.from-3.ensures, c.from-4.ensures) (sym (body-number w p (omega (arith, word (4 * p + 1))) (omega (arith, word (4 * p + 2))) (omega (arith, word (4 * p + 3)))))
