-- `packet::sysex8::decide`: the status is in its range, the packet is no end of zeros, or the status is too big. Assumes nothing.
use Rattle.std.proofs.Common.{◌≡◌, ◌∙◌, ◌<◌, false, arith}
use mathlib.Core.Bool.{and-false}
use borrow.Author.Tests.{ne_eqb}
use Rattle.ump.specs.Single.{unexpected, blank}
use Rattle.packet.proofs.Laws.{decide_plain, decide_status}
use Rattle.packet.proofs.sysex8.Sysex8Single.decide.Goals as goal

pub returns-in-0-to-2-clause-decision : goal.returns-in-0-to-2-clause-decision
returns-in-0-to-2-clause-decision c =
    let no_end : unexpected c.status_of-status.result c.count_of-count.result (blank c.args.words.now) ≡ false =
    rw (ne_eqb c.status_of-status.result 3 (λ e. omega arith)) in
    rw (c.status_of-status.ensures, c.count_of-count.ensures) at
    (c.counted-in-0-to-2.ensures.decision ∙ decide_plain _ _ _ (omega arith) no_end)

pub returns-in-3-2-clause-decision : goal.returns-in-3-2-clause-decision
returns-in-3-2-clause-decision c =
    let no_end : unexpected c.status_of-status.result c.count_of-count.result (blank c.args.words.now) ≡ false =
    rw (← c.is_blank.ensures, c.if-is_blank.false, and-false) in
    rw (c.status_of-status.ensures, c.count_of-count.ensures) at
    (c.counted.ensures.decision ∙ decide_plain _ _ _ (omega arith) no_end)

pub returns-in_default-clause-decision : goal.returns-in_default-clause-decision
returns-in_default-clause-decision c =
    let big : 3 < c.status_of-status.result = omega arith in
    decide_status _ _ _ (rw c.status_of-status.ensures at big)
