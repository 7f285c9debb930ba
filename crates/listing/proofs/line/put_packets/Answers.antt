-- `listing::line::put_packets`: line after line. Assumes nothing.
use Rattle.std.proofs.Common.{sym, ◌∙◌, ap, length, length-append, append_assoc, append-nil, add-one, arith, rules}
use Rattle.ump.specs.Packet.{joined}
use Rattle.listing.specs.Listing.{packet_line}
use Rattle.listing.proofs.Lines.{few_packets, length_lines, lines_none, lines_more}
use Rattle.listing.proofs.line.put_packets.Goals as goal

pub loop-number-init : goal.loop-number-init
loop-number-init g c = rw (lines_none c.args.words.now) (sym (append-nil _))

-- the next line has room
pub put_packet-requires : goal.put_packet-requires
put_packet-requires g c =
    let w = c.args.words.now in
    let l = c.loop-number in
    let n = length_lines w l.number (omega (arith, few_packets _ _ c.requires.0)) in
    let t = ap length l.invariant ∙ length-append c.args.text.now (joined (packet_line w) l.number) in
    (search rules, (c.requires.0, omega arith, omega (arith, n, t, c.requires.1)))

pub loop-number-preserved : goal.loop-number-preserved
loop-number-preserved g c =
    let w = c.args.words.now in
    let i = c.loop-number.number in
    rw (add-one, lines_more w i, c.put_packet.ensures, c.loop-number.invariant)
    (append_assoc c.args.text.now (joined (packet_line w) i) (packet_line w i))
