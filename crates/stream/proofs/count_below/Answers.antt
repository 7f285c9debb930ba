-- `stream::count_below`: part after part. Assumes nothing.
use Rattle.std.proofs.Common.{ap, arith}
use Rattle.stream.specs.Steps.{count_below}
use Rattle.stream.proofs.Counting.{count-append, count_most}
use Rattle.stream.proofs.count_below.Goals as goal

pub loop-part-init : goal.loop-part-init
loop-part-init c =
    let e = rw (← c.into_iter-part-iterator.ensures.into_iter_gives) at c.chunks-part-items.ensures.rest in
    (cc, omega (arith, ap (count_below c.args.limit) e))

pub overflow_add-number : goal.overflow_add-number
overflow_add-number c =
    let limit = c.args.limit in
    omega (arith, c.loop-part.invariant.1, ap (count_below limit) c.in-Some.ensures.steps.1.0, count-append limit c.in-Some.part.now c.next.new.self.rest.now, c.count_few.ensures, count_most limit c.args.bytes.now)

pub loop-part-preserved : goal.loop-part-preserved
loop-part-preserved c =
    let limit = c.args.limit in (
      cc (c.in-Some.ensures.steps.0, c.loop-part.invariant.0),
      omega (arith, c.loop-part.invariant.1, ap (count_below limit) c.in-Some.ensures.steps.1.0, count-append limit c.in-Some.part.now c.next.new.self.rest.now, c.count_few.ensures),
    )

pub returns : goal.returns
returns c = omega (arith, c.loop-part.invariant.1, c.in-None.ensures.steps.1.0, count_most c.args.limit c.loop-part.part-iterator.rest.now)
