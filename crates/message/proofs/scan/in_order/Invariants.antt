-- `message::scan::in_order`: faults and counts of the packets passed are gathered. Assumes nothing.
use Rattle.message.proofs.InOrder.{Gathered}
use Rattle.message.proofs.scan.in_order.Given as goal

abbrev pub invariant-loop-packet : goal.invariant-loop-packet
invariant-loop-packet g l = Gathered g.F.Format.shape l.fn.words l.fn.packets l.last l.packet l.bad l.counts
