-- `carries::bytes_differ`: byte after byte, both lists begin with the same. Assumes nothing.
use Rattle.std.proofs.Common.{◌≡◌, ◌+◌, drop}
use Rattle.ump.specs.Packet.{sysex8, payload_at}
use Rattle.carries.specs.Carries.{unlike}
use Rattle.carries.proofs.bytes_differ.Given as goal

abbrev pub invariant-loop-byte : goal.invariant-loop-byte
invariant-loop-byte l =
    unlike (drop l.fn.from (payload_at sysex8 l.fn.words l.fn.packet)) (drop (l.fn.at + l.fn.from) l.fn.payload)
    ≡ unlike (drop l.byte (payload_at sysex8 l.fn.words l.fn.packet)) (drop (l.fn.at + l.byte) l.fn.payload)
