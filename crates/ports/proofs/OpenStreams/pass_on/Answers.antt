-- `ports::OpenStreams::pass_on`: too little output, no slot has the key, or its slot is free. Assumes nothing.
use Rattle.std.proofs.Common.{refl, ap, arith, length, sym}
use Rattle.ports.proofs.Steps.{complete_room, complete_alone, complete_closes}
use Rattle.ports.proofs.OpenStreams.pass_on.Goals as goal

pub returns-then-output-lt4 : goal.returns-then-output-lt4
returns-then-output-lt4 c = (rw c.into.ensures (complete_room _ _ _ _ _ _ c.if-output-lt4.true), refl, refl)

pub returns-in-Some : goal.returns-in-Some
returns-in-Some c =
    (rw c.copy_from_slice.ensures.after (complete_closes _ _ _ _ _ _ (omega (arith, c.copy_from_slice.ensures.len, ap length c.copy_from_slice.ensures.after)) (sym c.in-Some.ensures) c.if-output-lt4.false), refl, refl)

pub returns-in_default : goal.returns-in_default
returns-in_default c =
    (rw c.copy_from_slice.ensures.after (complete_alone _ _ _ _ _ _ (omega (arith, c.copy_from_slice.ensures.len, ap length c.copy_from_slice.ensures.after)) (sym c.in_default.ensures) c.if-output-lt4.false), refl, refl)
