-- `chain::measuring::measure_data`. Assumes nothing.
use borrow.Author.Rules.{rules}
use Prim.Native.Nat.{◌-◌}
use native.Mathlib.Omega.{arith}
use lib.ListN.{length}
use Rattle.store.specs.Store.{is_data}
use Rattle.store.proofs.Parts.{test_is, data_inside}
use Rattle.chain.proofs.Sizing.{Counting, counting_none, counting_more, counting_end}
use Rattle.chain.proofs.measuring.measure_data.Statement.{statement}
use Rattle.chain.proofs.measuring.measure_data.Tie as tie

abbrev invariant-loop : tie.invariant-loop-size
invariant-loop store at place₀ size₀ place size = Counting store at place size

abbrev decreases-loop : tie.decreases-loop-size
decreases-loop store at place₀ size₀ place size = length store - place

add-size : tie.Need-overflow_add-size invariant-loop decreases-loop
add-size c =
    let h = data_inside c.args.store.now c.loop-size.place (test_is is_data c.is_data.ensures c.byte.ensures c.loop-size-test.true) in
    omega (arith, c.loop-size.invariant.fewer, c.body_here-size.ensures.inside h)

loop-less : tie.Need-loop-size-smaller invariant-loop decreases-loop
loop-less c =
    let h = data_inside c.args.store.now c.loop-size.place (test_is is_data c.is_data.ensures c.byte.ensures c.loop-size-test.true) in
    omega (arith, h, (c.next-place.ensures.on h).0)

loop-again : tie.Need-loop-size-preserved invariant-loop decreases-loop
loop-again c =
    let here = test_is is_data c.is_data.ensures c.byte.ensures c.loop-size-test.true in
    let h = data_inside c.args.store.now c.loop-size.place here in
    counting_more c.loop-size.invariant here _ c.body_here-size.ensures.body (c.body_here-size.ensures.inside h) (c.next-place.ensures.is h)

returns : tie.Need-returns invariant-loop decreases-loop
returns c = counting_end c.loop-size.invariant (test_is is_data c.is_data.ensures c.byte.ensures c.loop-size-test.false)

pub measure_data_spec : {M : Type 1} → statement M
measure_data_spec =
    tie.close
    (tie.spec
    invariant-loop
    decreases-loop
    (λ c. counting_none _ _)
    (λ c κs. search rules)
    (λ c κs. search rules)
    (λ c κs. search rules)
    add-size
    (λ c κs. search rules)
    loop-less
    loop-again
    returns)
