-- `reader::remaining`: of the count, `ahead` are looked for from (packet, byte) on, and the rest stand before. Assumes nothing.
use Rattle.std.proofs.Common.{◌≡◌, ◌+◌, ◌-◌, ◌≤◌, length, take}
use Rattle.ump.specs.Packet.{sysex8}
use Rattle.ump.specs.Reader.{places}
use Rattle.reader.proofs.remaining.Given as goal

abbrev pub invariant-loop-packet : goal.invariant-loop-packet
invariant-loop-packet l =
    (l.ahead ≤ l.count)
    × (length (take l.ahead (places sysex8 l.fn.words l.packet l.byte)) + (l.count - l.ahead)
    ≡ length (take l.count (places sysex8 l.fn.words l.fn.cursor.packet l.fn.cursor.byte)))
