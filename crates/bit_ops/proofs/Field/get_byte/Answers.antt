-- `bit_ops::Field::get_byte`: what is read is below 2 to the width, and the width is 8 at most. Assumes nothing.
use native.Mathlib.Nat.{lt_of_lt_of_le}
use lib.Pow.{pow_mono}
use Rattle.bit_ops.proofs.Laws.{got_lt}
use Rattle.bit_ops.proofs.Field.get_byte.Goals as goal

pub overflow_cast-result : goal.overflow_cast-result
overflow_cast-result c = record { fits = lt_of_lt_of_le (got_lt _ _ _ c.in_ok-get.ensures) (pow_mono c.requires) }
