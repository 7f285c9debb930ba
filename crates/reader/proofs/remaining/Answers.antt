-- `reader::remaining`: all of the count stand, or those that were found. Assumes nothing.
use Rattle.std.proofs.Common.{arith}
use Rattle.ump.specs.Packet.{sysex8}
use Rattle.ump.specs.Reader.{unread, bytes_remaining}
use Rattle.ump.proofs.Reading.{counted_here, all_here, counted_out}
use Rattle.reader.proofs.remaining.Goals as goal

pub returns-then-ahead-here : goal.returns-then-ahead-here
unfolding bytes_remaining unread
returns-then-ahead-here c =
    let w = c.args.words.now in
    let l = c.loop-packet in
    let k = c.standing-here in
    all_here sysex8 w l.packet l.byte k.result (omega arith) k.ensures l.ahead _ _ (omega arith) l.invariant.0 l.invariant.1

pub loop-packet-preserved : goal.loop-packet-preserved
loop-packet-preserved c =
    let w = c.args.words.now in
    let l = c.loop-packet in
    let k = c.standing-here in (
      omega arith,
      counted_here sysex8 w l.packet l.byte k.result (omega arith) k.ensures l.ahead _ _ (omega arith) l.invariant.0 l.invariant.1,
    )

pub returns : goal.returns
unfolding bytes_remaining unread
returns c =
    let l = c.loop-packet in
    counted_out sysex8 c.args.words.now l.packet l.byte l.ahead (omega arith) _ _ l.invariant.1
