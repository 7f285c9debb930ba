-- `ports::OpenStreams::stored`: the words in use of the slot's part. Assumes nothing.
use Rattle.std.proofs.Common.{◌≡◌, ◌+◌, ◌-◌, ◌*◌, ◌/◌, length, arith}
use Rattle.ports.specs.Table.{stored_at}
use Rattle.ports.proofs.OpenStreams.stored.Goals as goal

pub returns : goal.returns
unfolding stored_at
returns c =
    let at = length c.args.self.now.words.now / 16 * c.args.slot in
    let used : at + c.used_of.result - at ≡ c.used_of.result = omega arith in
    rw (used, c.used_of.ensures)
