-- `bit_ops::Field::get`: the index is too big, or the mask is one below 2 to the width. Assumes nothing.
use Rattle.std.proofs.Common.{sym, ◌≡◌, ◌-◌, ◌^◌, arith}
use Rattle.std.proofs.lemmas.Result.{err_from_is_err_and}
use lib.Bits.{and_mask}
use Rattle.ump.proofs.Fields.{get_given, get_refused}
use Rattle.bit_ops.proofs.Field.get.Goals as goal

pub returns-in_err-low : goal.returns-in_err-low
returns-in_err-low c =
    let p = err_from_is_err_and c.from_residual.result c.from_residual.ensures.1 in
    let e = c.in_err-low.ensures in
    rw (p.1, p.2, e.1) (sym (get_refused _ _ _ e.0))

pub returns : goal.returns
returns c =
    let e = c.in_ok-low.ensures in
    let most : c.most.result ≡ 2 ^ c.args.self.width - 1 = omega (arith, c.most.ensures) in
    rw (most, and_mask, e.1) (sym (get_given _ _ _ e.0))
