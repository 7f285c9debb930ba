-- Assumes nothing.
use Rattle.std.proofs.Common.{◌<◌}
use Rattle.ump.specs.Stream.{without_real_time}
use Rattle.stream.specs.Steps.{onward}
use Rattle.stream.proofs.Writing.{Wrote, Led}
use Rattle.stream.proofs.write_packets.Given as goal

abbrev pub invariant-loop-packet : goal.invariant-loop-packet
invariant-loop-packet l =
    (l.head < 0x40000000)
    × Wrote l.group (without_real_time l.inner) l.initial.words l.words (onward l.inner l.at) l.packet
    × Led l.group l.packets l.packet l.head
