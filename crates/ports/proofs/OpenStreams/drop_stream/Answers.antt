-- `ports::OpenStreams::drop_stream`: no slot has the key, or its slot is free. Assumes nothing.
use Rattle.std.proofs.Common.{refl, sym, ◌∙◌}
use Rattle.ports.proofs.Steps.{passed_closed, drop_done}
use Rattle.ports.proofs.OpenStreams.drop_stream.Goals as goal

pub returns-in_err-slot : goal.returns-in_err-slot
returns-in_err-slot c output =
    (passed_closed c.from_residual.result _ _ _ _ _ output _ refl c.from_residual.ensures.1 c.in_err-slot.ensures.value c.find.ensures, refl, refl)

pub returns : goal.returns
returns c output = (drop_done _ _ _ _ _ output (sym c.find.ensures ∙ c.in_ok-slot.ensures.ok_part), refl, refl)
