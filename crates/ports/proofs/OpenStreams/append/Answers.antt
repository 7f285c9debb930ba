-- `ports::OpenStreams::append`: no slot has the key, no room, or its packet stands behind those of its part. Assumes nothing.
use Rattle.std.proofs.Common.{refl, ap, arith, length, sym, ◌∙◌}
use Rattle.ports.proofs.Steps.{passed_closed, continue_room, continue_done}
use Rattle.ports.proofs.OpenStreams.append.Goals as goal

pub returns-in_err-slot : goal.returns-in_err-slot
returns-in_err-slot c output =
    (passed_closed c.from_residual.result _ _ _ _ _ output _ refl c.from_residual.ensures.1 c.in_err-slot.ensures.value c.find.ensures, refl, refl)

pub returns-then-part-used : goal.returns-then-part-used
returns-then-part-used c output =
    let is = sym c.find.ensures ∙ c.in_ok-slot.ensures.ok_part in
    (rw c.into.ensures (continue_room _ _ _ _ _ output is c.used_of-used.ensures c.if-part-used.true), refl, refl)

pub returns : goal.returns
returns c output =
    let is = sym c.find.ensures ∙ c.in_ok-slot.ensures.ok_part in
    (rw c.copy_from_slice.ensures.after (continue_done _ _ _ _ _ output (omega (arith, c.copy_from_slice.ensures.len, ap length c.copy_from_slice.ensures.after)) is c.used_of-used.ensures c.if-part-used.false), refl, refl)
