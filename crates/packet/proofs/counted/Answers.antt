-- `packet::counted`: the count is in its range, and the status is taken with its size, or it is out of range. Assumes nothing.
use Rattle.std.proofs.Common.{◌≡◌, ◌∙◌, ◌-◌, ◌≤◌, ◌<◌, arith}
use Rattle.std.proofs.lemmas.Result.{err_from_is_err_and}
use Rattle.packet.proofs.Laws.{counted_in, counted_low, counted_high}
use Rattle.packet.proofs.counted.Goals as goal

pub returns-in_err-try_from-in-Some-clause-decision : goal.returns-in_err-try_from-in-Some-clause-decision
returns-in_err-try_from-in-Some-clause-decision g c =
    let n = g.F.Format.numbers in
    let size = c.in-Some.ensures in
    let p = err_from_is_err_and c.from_residual.result c.from_residual.ensures.1 in
    let known = counted_in g.F.Format.shape c.args.status c.args.count (omega (arith, size, n.bias_is)) (omega (arith, size, n.bias_is, n.room_is)) in
    rw (p.1, p.2) (rw (← c.in_err-try_from-in-Some.ensures) at known)

pub returns-in_ok-try_from-in-Some-clause-decision : goal.returns-in_ok-try_from-in-Some-clause-decision
returns-in_ok-try_from-in-Some-clause-decision g c =
    let n = g.F.Format.numbers in
    let size = c.in-Some.ensures in
    let known = counted_in g.F.Format.shape c.args.status c.args.count (omega (arith, size, n.bias_is)) (omega (arith, size, n.bias_is, n.room_is)) in
    let less : c.in-Some.size ≡ c.args.count - g.F.Format.shape.bias = omega (arith, size, n.bias_is, c.BIAS.ensures) in
    rw less (rw (← c.in_ok-try_from-in-Some.ensures) at known)

pub returns-in_default-clause-decision : goal.returns-in_default-clause-decision
returns-in_default-clause-decision g c =
    let n = g.F.Format.numbers in
    counted_high g.F.Format.shape _ _ (omega (arith, c.in-Some.ensures, n.bias_is, n.room_is))

pub returns-in_default-2-clause-decision : goal.returns-in_default-2-clause-decision
returns-in_default-2-clause-decision g c = counted_low g.F.Format.shape _ _ (omega (arith, c.in_default.ensures, g.F.Format.numbers.bias_is))
