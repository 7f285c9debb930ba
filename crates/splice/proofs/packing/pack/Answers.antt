-- `pack` meets its contract: the packets written and the bytes that wait are those of the packets read. Assumes nothing.
use Rattle.std.proofs.Common.{◌≡◌, ◌/◌, refl, ◌∙◌, arith}
use Rattle.splice.proofs.Messages.{inside}
use Rattle.splice.proofs.Repacks.{bounds, repack-start, repack_ready, repack-step, repack_end}
use Rattle.splice.proofs.packing.pack.Goals as goal

pub bounds-words-0 : goal.bounds-words-0
bounds-words-0 c = omega (arith, inside c.requires)

pub loop-packet-init : goal.loop-packet-init
loop-packet-init c = rw c.nothing-flow.ensures (repack-start c.requires _)

pub take_packet-flow-requires : goal.take_packet-flow-requires
take_packet-flow-requires c =
    let b = (bounds c.requires c.base_of-base.result c.inner_head-head.result c.words_needed-end.result (c.args.length / 4) c.base_of-base.ensures c.inner_head-head.ensures c.words_needed-end.ensures refl) in
    let r = repack_ready c.requires _ c.loop-packet.packet c.loop-packet.flow c.loop-packet.words c.loop-packet.invariant (omega (arith, b.whole)) b.free in
    record { packet_le_packet = r.0; packet_nonzero = r.1 }

pub loop-packet-preserved : goal.loop-packet-preserved
loop-packet-preserved c =
    let b = (bounds c.requires c.base_of-base.result c.inner_head-head.result c.words_needed-end.result (c.args.length / 4) c.base_of-base.ensures c.inner_head-head.ensures c.words_needed-end.ensures refl) in
    repack-step c.requires _ c.loop-packet.packet c.loop-packet.flow c.loop-packet.words c.loop-packet.invariant (omega (arith, b.whole)) _ _ c.take_packet-flow.ensures

pub flush-requires : goal.flush-requires
flush-requires c =
    let b = (bounds c.requires c.base_of-base.result c.inner_head-head.result c.words_needed-end.result (c.args.length / 4) c.base_of-base.ensures c.inner_head-head.ensures c.words_needed-end.ensures refl) in
    let i = c.loop-packet.invariant in
    (omega (arith, b.reach, b.room, b.small), (omega (arith, b.reach, b.room, i.flows.long), b.free))

pub finish-requires : goal.finish-requires
finish-requires c =
    let b = (bounds c.requires c.base_of-base.result c.inner_head-head.result c.words_needed-end.result (c.args.length / 4) c.base_of-base.ensures c.inner_head-head.ensures c.words_needed-end.ensures refl) in
    (b.fits, (b.ends, (omega (arith, b.reach, b.room), omega (arith, b.room))))

pub returns : goal.returns
returns c =
    let b = (bounds c.requires c.base_of-base.result c.inner_head-head.result c.words_needed-end.result (c.args.length / 4) c.base_of-base.ensures c.inner_head-head.ensures c.words_needed-end.ensures refl) in
    let all : c.loop-packet.packet ≡ c.args.length / 4 = omega arith in
    (b.ends, c.finish.ensures ∙ repack_end c.requires b (rw all at c.loop-packet.invariant) _ c.flush.ensures)
