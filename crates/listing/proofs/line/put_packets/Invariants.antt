-- `listing::line::put_packets`: line after line. Assumes nothing.
use Rattle.std.proofs.Common.{◌≡◌, ◌++◌}
use Rattle.ump.specs.Packet.{joined}
use Rattle.listing.specs.Listing.{packet_line}
use Rattle.listing.proofs.line.put_packets.Given as goal

abbrev pub invariant-loop-number : goal.invariant-loop-number
invariant-loop-number g l = l.text ≡ l.fn.text ++ joined (packet_line l.words) l.number
