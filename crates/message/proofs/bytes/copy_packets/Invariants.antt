-- `message::bytes::copy_packets`: the payload of the packets passed is copied. Assumes nothing.
use Rattle.std.proofs.Common.{◌≡◌, length}
use mathlib.Core.List.{◌++◌}
use lib.ListN.{drop}
use Rattle.ump.specs.Packet.{sysex8, payload}
use Rattle.message.proofs.bytes.copy_packets.Given as goal

abbrev pub invariant-loop-packet : goal.invariant-loop-packet
invariant-loop-packet l =
    (l.at ≡ length (payload sysex8 l.words l.packet)) × (length l.bytes ≡ length l.fn.bytes) × (l.bytes ≡ payload sysex8 l.words l.packet ++ drop l.at l.fn.bytes)
