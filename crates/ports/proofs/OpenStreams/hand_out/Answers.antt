-- `ports::OpenStreams::hand_out`: no slot has the key, too little output, or the packets of its part and its own are handed out.
use Rattle.std.proofs.Common.{◌≡◌, refl, ap, arith, length, sym, ◌∙◌}
use Rattle.ports.proofs.Steps.{passed_closed, end_room, end_done}
use Rattle.ports.proofs.OpenStreams.hand_out.Goals as goal

pub returns-in_err-slot : goal.returns-in_err-slot
returns-in_err-slot c =
    (passed_closed c.from_residual.result _ _ _ _ _ _ _ refl c.from_residual.ensures.1 c.in_err-slot.ensures.value c.find.ensures, refl, refl)

pub returns-then-output-used : goal.returns-then-output-used
returns-then-output-used c =
    let is = sym c.find.ensures ∙ c.in_ok-slot.ensures.ok_part in
    (rw c.into.ensures (end_room _ _ _ _ _ _ is c.stored-stored.ensures c.if-output-used.true), refl, refl)

pub returns : goal.returns
returns c =
    let is = sym c.find.ensures ∙ c.in_ok-slot.ensures.ok_part in
    let four : length c.args.arrival.words.now ≡ 4 = omega (arith, c.copy_from_slice.ensures.len, ap length c.copy_from_slice.ensures.after) in
    (rw (c.copy_front.ensures, c.copy_from_slice.ensures.after) (end_done _ _ _ _ _ _ four is c.stored-stored.ensures c.if-output-used.false), refl, refl)
