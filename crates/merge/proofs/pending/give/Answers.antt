-- `give` meets its contract: piece after piece is taken. Assumes nothing.
use Rattle.std.proofs.Common.{◌≡◌, ◌+◌, ◌-◌, length, drop, ap, length-append, length-take, length-drop, ◌∙◌, arith}
use Rattle.flow.specs.Digits.{val}
use Rattle.merge.proofs.Keeps.{left_all, left_piece, left_rest, gave_none, gave_more, gave_ready}
use Rattle.merge.proofs.pending.give.Goals as goal

pub loop-piece-init : goal.loop-piece-init
loop-piece-init c =
    let x = c.args in
    let e = rw (← c.into_iter-piece-iterator.ensures.into_iter_gives) at c.chunks-piece-items.ensures.rest in
    let left = left_all x.bytes.now x.from x.to (omega arith) (omega arith) in
    let n : x.to - length c.into_iter-piece-iterator.result.rest.now ≡ x.from = omega (arith, ap length e, left.inside, length-take (x.to - x.from) (drop x.from x.bytes.now), length-drop x.from x.bytes.now) in
    (cc, rw e left, rw n (gave_none x.pending x.from x.bytes.now x.words.now x.head))

pub append-flow-requires : goal.append-flow-requires
append-flow-requires c =
    let i = c.loop-piece.invariant in
    let s = c.in-Some.ensures.steps.1 in
    let long = length-append c.in-Some.piece.now c.next.new.self.rest.now in (
      omega (arith, s.1, i.0),
      gave_ready c.args.from c.args.bytes.now i.2 (omega (arith, i.1.inside)) c.args.to _ c.requires.1.1 (omega (arith, i.1.inside, ap length s.0, long)),
    )

pub loop-piece-preserved : goal.loop-piece-preserved
loop-piece-preserved c =
    let i = c.loop-piece.invariant in
    let s = c.in-Some.ensures.steps.1 in
    let piece = c.in-Some.piece.now in
    let rest = c.next.new.self.rest.now in
    let e : c.args.to - length c.loop-piece.piece-iterator.rest.now + length piece ≡ c.args.to - length rest = omega (arith, ap length s.0, length-append piece rest, i.1.inside) in (
      cc (c.in-Some.ensures.steps.0, i.0),
      left_rest i.1 piece rest s.0,
      rw (← e)
          (gave_more c.args.from c.args.bytes.now i.2 (omega (arith, i.1.inside)) _ _ (omega (arith, s.1, i.0)) (c.piece_of.ensures ∙ ap (val 13) (left_piece i.1 piece rest s.0)) c.append-flow.ensures),
    )

pub returns : goal.returns
returns c =
    let i = c.loop-piece.invariant in
    let e : c.args.to - length c.loop-piece.piece-iterator.rest.now ≡ c.args.to = omega (arith, c.in-None.ensures.steps.1.0) in
    rw e at i.2
