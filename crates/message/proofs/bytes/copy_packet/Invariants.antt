-- `message::bytes::copy_packet`: the bytes passed are pasted. Assumes nothing.
use Rattle.std.proofs.Common.{◌≡◌}
use Rattle.ump.specs.Packet.{sysex8, payload_at}
use lib.Seq.{paste}
use Rattle.message.proofs.bytes.copy_packet.Given as goal

abbrev pub invariant-loop-byte : goal.invariant-loop-byte
invariant-loop-byte l = l.bytes ≡ paste l.fn.bytes l.at (payload_at sysex8 l.words l.packet) l.byte
