-- `ports::OpenStreams::begin`: no slot for it, no room, or its packet is the first of its part. Assumes nothing.
use Rattle.std.proofs.Common.{refl, ap, arith, length}
use Rattle.std.proofs.lemmas.Result.{err_from_is_err_and}
use Rattle.ports.proofs.Steps.{start_refused, start_room, start_done}
use Rattle.ports.proofs.OpenStreams.begin.Goals as goal

pub returns-in_err-slot : goal.returns-in_err-slot
returns-in_err-slot c output =
    let p = err_from_is_err_and c.from_residual.result c.from_residual.ensures.1 in
    (rw (p.1, p.2) (start_refused _ _ _ _ _ output c.in_err-slot.ensures.meaning), refl, refl)

pub returns-then-part-lt4 : goal.returns-then-part-lt4
returns-then-part-lt4 c output = (rw c.into.ensures (start_room _ _ _ _ _ output c.in_ok-slot.ensures.meaning c.if-part-lt4.true), refl, refl)

pub returns : goal.returns
returns c output =
    (rw c.copy_from_slice.ensures.after (start_done _ _ _ _ _ output (omega (arith, c.copy_from_slice.ensures.len, ap length c.copy_from_slice.ensures.after)) c.in_ok-slot.ensures.meaning c.if-part-lt4.false), refl, refl)
