-- `repack` meets its contract: the splice of nothing is possible. Assumes nothing.
use Rattle.splice.proofs.Calls.{nothing_possible}
use Rattle.splice.proofs.splicing.repack.Goals as goal

pub splice-requires : goal.splice-requires
splice-requires c = nothing_possible c.requires
