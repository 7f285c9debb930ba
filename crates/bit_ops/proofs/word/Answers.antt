-- `bit_ops::word`: what is read is below 2 to the 16. Assumes nothing.
use Rattle.bit_ops.proofs.Laws.{got_lt}
use Rattle.bit_ops.proofs.word.Goals as goal

pub overflow_cast-result : goal.overflow_cast-result
overflow_cast-result c = record { fits = got_lt _ _ _ c.in_ok-get.ensures }
