-- `packet_of` meets its contract. Assumes nothing.
use Rattle.std.proofs.Common.{arith}
use Rattle.merge.proofs.merging.packet_of.Goals as goal

pub load-requires : goal.load-requires
load-requires c = (omega arith, c.requires.1 (omega arith))
