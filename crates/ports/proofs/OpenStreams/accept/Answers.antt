-- `ports::OpenStreams::accept`: by the kind of the packet. Assumes nothing.
use Rattle.std.proofs.Common.{◌∙◌}
use Rattle.ports.proofs.Steps.{valid_end}
use Rattle.ports.proofs.OpenStreams.accept.Goals as goal

pub returns-in-Start : goal.returns-in-Start
returns-in-Start c = rw c.in-Start.is (c.begin.ensures c.args.output.now)

pub returns-in-Continue : goal.returns-in-Continue
returns-in-Continue c = rw c.in-Continue.is (c.append.ensures c.args.output.now)

pub returns-in-UnexpectedEnd-Valid : goal.returns-in-UnexpectedEnd-Valid
returns-in-UnexpectedEnd-Valid c =
    let valid = rw c.in-UnexpectedEnd-Valid.is at c.in-UnexpectedEnd-Valid.field-0-is in
    let h = c.hand_out-in-UnexpectedEnd-Valid.ensures in
    rw (c.in-UnexpectedEnd-Valid.is, valid) (h.0 ∙ valid_end _ _ _ _ _ _, h.1, h.2)

pub returns-in-UnexpectedEnd-Invalid : goal.returns-in-UnexpectedEnd-Invalid
returns-in-UnexpectedEnd-Invalid c =
    let invalid = rw c.in-UnexpectedEnd-Invalid.is at c.in-UnexpectedEnd-Invalid.field-0-is in
    rw (c.in-UnexpectedEnd-Invalid.is, invalid) (c.drop_stream.ensures c.args.output.now)
