-- `bit_ops::bit`: what is read is below 2, so that it is the number of its test. Assumes nothing.
use Rattle.std.proofs.Common.{ap, ◌∙◌}
use Rattle.refusal.specs.Answer.{gives}
use Rattle.bit_ops.proofs.Laws.{got_lt, bit_tested}
use Rattle.bit_ops.proofs.bit.Goals as goal

pub returns : goal.returns
returns c = let e = c.in_ok-get.ensures in ap gives (bit_tested _ (got_lt _ _ _ e)) ∙ e
