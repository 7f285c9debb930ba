-- `reader::nth`: `ahead` places on from (packet, byte) is `skip` places on from the cursor. Assumes nothing.
use Rattle.std.proofs.Common.{◌≡◌, drop}
use Rattle.ump.specs.Packet.{sysex8}
use Rattle.ump.specs.Reader.{places}
use Rattle.reader.proofs.nth.Given as goal

abbrev pub invariant-loop-packet : goal.invariant-loop-packet
invariant-loop-packet l =
    drop l.ahead (places sysex8 l.fn.words l.packet l.byte) ≡ drop l.fn.skip (places sysex8 l.fn.words l.fn.cursor.packet l.fn.cursor.byte)
