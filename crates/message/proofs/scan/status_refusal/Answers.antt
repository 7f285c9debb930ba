-- `message::scan::status_refusal`: the refusals stand in the order of the statuses. Assumes nothing.
use Rattle.std.proofs.Common.{◌≡◌, sym, ◌∙◌, arith}
use Rattle.ump.specs.Packing.{status_for}
use Rattle.ump.proofs.Sizes.{status_small}
use Rattle.message.proofs.Laws.{wrong_status}
use Rattle.message.proofs.scan.status_refusal.Goals as goal

pub returns-in-0 : goal.returns-in-0
returns-in-0 c = wrong_status c.args.word c.args.packets c.args.packet (sym c.in-0.is ∙ c.status_for-status.ensures) (λ e. c.if-status_of-status.false (omega (arith, c.status_of.ensures)))

pub returns-in-1 : goal.returns-in-1
returns-in-1 c = wrong_status c.args.word c.args.packets c.args.packet (sym c.in-1.is ∙ c.status_for-status.ensures) (λ e. c.if-status_of-status.false (omega (arith, c.status_of.ensures)))

pub returns-in-2 : goal.returns-in-2
returns-in-2 c = wrong_status c.args.word c.args.packets c.args.packet (sym c.in-2.is ∙ c.status_for-status.ensures) (λ e. c.if-status_of-status.false (omega (arith, c.status_of.ensures)))

pub returns-in_default : goal.returns-in_default
returns-in_default c =
    let three : 3 ≡ status_for c.args.packets c.args.packet = omega (arith, c.status_for-status.ensures, status_small c.args.packets c.args.packet) in
    wrong_status c.args.word c.args.packets c.args.packet three (λ e. c.if-status_of-status.false (omega (arith, c.status_of.ensures, c.status_for-status.ensures)))
