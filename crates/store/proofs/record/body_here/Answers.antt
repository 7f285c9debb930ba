-- `store::record::body_here`. Assumes nothing.
use Rattle.std.proofs.Common.{arith}
use Rattle.store.proofs.Records.{body_short, body_min}
use Rattle.store.proofs.record.body_here.Goals as goal

pub returns-then-at-store : goal.returns-then-at-store
returns-then-at-store c =
    let x = c.args in
    record { body = body_short x.store.now x.at 0 (omega (arith, c.if-at-store.true)) (omega arith); inside = λ h. absurd (omega (arith, h, c.if-at-store.true)) }

pub returns : goal.returns
returns c =
    let x = c.args in
    record { body = body_min x.store.now x.at c.body_size.ensures.0 c.min.ensures; inside = λ h. omega arith }
