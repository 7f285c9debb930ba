-- `reader::nth`: the byte stands in the packet where `ahead` is less than what stands there; else it is not there. Assumes nothing.
use Rattle.std.proofs.Common.{◌≡◌, sym, ◌+◌, ◌<◌, arith}
use Rattle.ump.specs.Packet.{sysex8, count_at, byte_at}
use Rattle.ump.proofs.Sizes.{size_small}
use Rattle.ump.proofs.Reading.{passed, found, out, nth-over}
use Rattle.reader.specs.Meaning.{cursor_meaning}
use Rattle.reader.proofs.nth.Goals.{Then-ahead-here}
use Rattle.reader.proofs.nth.Goals as goal

-- the byte that is read is one of the 13 of a packet
inner : (c : Then-ahead-here) → c.loop-packet.byte + c.loop-packet.ahead < 13
inner c = omega (arith, size_small sysex8 (count_at sysex8 c.args.words.now c.loop-packet.packet))

pub overflow_add-at : goal.overflow_add-at
overflow_add-at c = omega (arith, inner c)

pub overflow_add-at-then-ahead-here : goal.overflow_add-at-then-ahead-here
overflow_add-at-then-ahead-here c = omega (arith, inner c)

pub offset_bounds-words-packet : goal.offset_bounds-words-packet
offset_bounds-words-packet c = omega (arith, inner c)

pub bounds-words-packet : goal.bounds-words-packet
bounds-words-packet c = omega (arith, inner (goal.at.bounds-words-packet c).Then-ahead-here)

pub overflow_add-at-then-ahead-here-2 : goal.overflow_add-at-then-ahead-here-2
overflow_add-at-then-ahead-here-2 c = omega (arith, inner (goal.at.overflow_add-at-then-ahead-here-2 c).Then-ahead-here)

pub overflow_add-result : goal.overflow_add-result
overflow_add-result c = omega (arith, inner (goal.at.overflow_add-result c).Then-ahead-here)

pub returns-then-ahead-here : goal.returns-then-ahead-here
returns-then-ahead-here c =
    let a = c.args in
    let l = c.loop-packet in
    let k = c.standing-here in
    let e : c.octet_of.result ≡ byte_at sysex8 a.words.now l.packet (l.byte + l.ahead) = c.octet_of.ensures in
    rw e
    (found sysex8 a.words.now l.packet l.byte k.result (omega arith) k.ensures l.ahead (cursor_meaning a.cursor) a.skip
    (omega arith) (omega arith) l.invariant)

pub loop-packet-preserved : goal.loop-packet-preserved
loop-packet-preserved c =
    let l = c.loop-packet in
    let k = c.standing-here in
    passed sysex8 c.args.words.now l.packet l.byte k.result (omega arith) k.ensures l.ahead _ (omega arith) l.invariant

pub returns-after-loop-packet : goal.returns-after-loop-packet
returns-after-loop-packet c =
    let l = c.loop-packet in
    out sysex8 c.args.words.now l.packet l.byte l.ahead (omega arith) (cursor_meaning c.args.cursor) c.args.skip (omega arith) l.invariant

pub returns-else-skip-remaining : goal.returns-else-skip-remaining
returns-else-skip-remaining c = sym (nth-over sysex8 c.args.words.now (cursor_meaning c.args.cursor) c.args.skip (omega arith))
