-- `bit_ops::Field::set`: the index or the value is too big, or the field is cleared and the value put in. Assumes nothing.
use Rattle.std.proofs.Common.{sym, ap, ◌∙◌, ◌<◌, ◌^◌, arith}
use Rattle.std.proofs.lemmas.Result.{err_from_is_err_and}
use Rattle.refusal.specs.Answer.{gives}
use Rattle.ump.proofs.Fields.{set_given, set_past, set_big}
use Rattle.ump.proofs.Masks.{set_code}
use Rattle.bit_ops.proofs.Field.set.Goals as goal

pub returns-in_err-low : goal.returns-in_err-low
returns-in_err-low c =
    let p = err_from_is_err_and c.from_residual.result c.from_residual.ensures.1 in
    let e = c.in_err-low.ensures in
    rw (p.1, p.2, e.1) (sym (set_past _ _ _ _ e.0))

pub returns-then-value-most : goal.returns-then-value-most
returns-then-value-most c =
    rw c.into.ensures (sym (set_big _ _ _ _ c.in_ok-low.ensures.0 (omega (arith, c.most.ensures))))

pub returns : goal.returns
returns c =
    let e = c.in_ok-low.ensures in let s = c.args.self in
    let fits : c.args.value < 2 ^ s.width = omega (arith, c.most.ensures) in
    ap gives (set_code s.width c.in_ok-low.low c.args.word c.args.value fits _ c.most-2.ensures e.2 c.ranges.word.fits)
    ∙ rw e.1 (sym (set_given _ _ _ _ e.0 fits))
