-- `carries::first_differing`: no packet that is passed differs, and the bytes before the next are counted. Assumes nothing.
use Rattle.std.proofs.Common.{◌≡◌, length}
use Rattle.ump.specs.Packet.{sysex8, payload}
use Rattle.ump.proofs.First.{Passed}
use Rattle.carries.specs.Carries.{other_bytes}
use Rattle.carries.proofs.first_differing.Given as goal

abbrev pub invariant-loop-packet : goal.invariant-loop-packet
invariant-loop-packet l = Passed (other_bytes sysex8 l.words l.payload) l.fn.packets l.packet × (l.at ≡ length (payload sysex8 l.words l.packet))
