-- `packet::set_group`: the group of the packet that was read is set, or the reader's refusal, or Field. Assumes nothing.
use Rattle.std.proofs.Common.{◌≡◌, ◌%◌, arith}
use Rattle.std.proofs.lemmas.Result.{err_from_is_err_and}
use Rattle.packet.proofs.Laws.{group_refused, group_big, group_given}
use Rattle.packet.proofs.set_group.Goals as goal

pub returns-in_err-read : goal.returns-in_err-read
returns-in_err-read g c =
    let p = err_from_is_err_and c.from_residual.result c.from_residual.ensures.1 in
    rw (p.1, p.2) (group_refused _ _ _ c.in_err-read.ensures.packet)

pub returns-then-group-gt15 : goal.returns-then-group-gt15
returns-then-group-gt15 g c = rw c.into.ensures (group_big _ _ _ c.in_ok-read.ensures.packet c.if-group-gt15.true)

pub returns : goal.returns
returns g c =
    let whole : c.args.group % 16 ≡ c.args.group = omega (arith, c.if-group-gt15.false) in
    rw (c.with_group.ensures, whole) (group_given _ _ _ c.in_ok-read.ensures.packet c.if-group-gt15.false)
