-- `layout::payload_size`: a count in range carries its size, any other none. Assumes nothing.
use Rattle.std.proofs.Common.{arith}
use Rattle.ump.proofs.Sizes.{size_of_count, size_too_big}
use Rattle.layout.proofs.payload_size.Goals as goal

pub returns-then-size-ROOM : goal.returns-then-size-ROOM
returns-then-size-ROOM g c =
    let s = g.F.Format.shape in let n = g.F.Format.numbers in
    grind (arith, n.bias_is, n.room_is, s.count_fits, size_of_count s c.args.count)

pub returns-else-size-ROOM : goal.returns-else-size-ROOM
returns-else-size-ROOM g c =
    let s = g.F.Format.shape in let n = g.F.Format.numbers in
    grind (arith, n.bias_is, n.room_is, s.count_fits, size_of_count s c.args.count, size_too_big s c.args.count)
