-- `chain::measuring::measure_edits`. Assumes nothing.
use borrow.Author.Rules.{rules}
use Prim.Native.Nat.{◌-◌}
use native.Mathlib.Omega.{arith}
use lib.ListN.{length}
use Rattle.store.specs.Store.{is_edit}
use Rattle.store.proofs.Parts.{test_is, edit_inside}
use Rattle.chain.specs.Laying.{DataSized}
use Rattle.chain.proofs.Sizing.{Putting, putting_start, edit_early, putting_more, putting_end}
use Rattle.chain.proofs.measuring.measure_edits.Statement.{statement}
use Rattle.chain.proofs.measuring.measure_edits.Tie as tie

abbrev invariant-loop : tie.invariant-loop-reached
invariant-loop store at size place₀ end₀ done₀ place end done = Putting store at size place end done

abbrev decreases-loop : tie.decreases-loop-reached
decreases-loop store at size place₀ end₀ done₀ place end done = length store - place

loop-holds : tie.Need-loop-reached-init invariant-loop decreases-loop
loop-holds c =
    putting_start c.args.store.now c.args.at c.args.size c.requires.1.0 c.requires.1.1 c.skip_data-place.ensures

add-number-at : tie.Need-overflow_add-place invariant-loop decreases-loop
add-number-at c =
    omega (arith, edit_inside c.args.store.now c.loop-reached.place (test_is is_edit c.is_edit.ensures c.byte.ensures c.loop-reached-test.true))

sub-done : tie.Need-overflow_sub-done invariant-loop decreases-loop
sub-done c =
    let store = c.args.store.now in
    let e = test_is is_edit c.is_edit.ensures c.byte.ensures c.loop-reached-test.true in
    let h = edit_inside store c.loop-reached.place e in
    omega (arith, edit_early c.loop-reached.invariant e, c.number_at.ensures.0)

add_done : tie.Need-overflow_add-done invariant-loop decreases-loop
add_done c =
    let store = c.args.store.now in
    let e = test_is is_edit c.is_edit.ensures c.byte.ensures c.loop-reached-test.true in
    let h = edit_inside store c.loop-reached.place e in
    let r : DataSized _ _ _ = rw (c.next.ensures.is h) at c.measure_data-reached.ensures in
    omega (arith, h, r.inside, c.number_at.ensures.1)

add-done-2 : tie.Need-overflow_add-done-in-loop-reached invariant-loop decreases-loop
add-done-2 c =
    let store = c.args.store.now in
    let e = test_is is_edit c.is_edit.ensures c.byte.ensures c.loop-reached-test.true in
    let h = edit_inside store c.loop-reached.place e in
    let r : DataSized _ _ _ = rw (c.next.ensures.is h) at c.measure_data-reached.ensures in
    omega (arith, h, r.inside, c.loop-reached.invariant.fewer, edit_early c.loop-reached.invariant e, c.number_at.ensures.0, c.number_at.ensures.1)

add-number-at-2 : tie.Need-overflow_add-place-in-loop-reached invariant-loop decreases-loop
add-number-at-2 c =
    let store = c.args.store.now in
    let e = test_is is_edit c.is_edit.ensures c.byte.ensures c.loop-reached-test.true in
    let h = edit_inside store c.loop-reached.place e in
    omega (arith, h)

loop-less : tie.Need-loop-reached-smaller invariant-loop decreases-loop
loop-less c =
    let store = c.args.store.now in
    let e = test_is is_edit c.is_edit.ensures c.byte.ensures c.loop-reached-test.true in
    let h = edit_inside store c.loop-reached.place e in
    let r : DataSized _ _ _ = rw (c.next.ensures.is h) at c.measure_data-reached.ensures in
    omega (arith, h, r.fewer)

loop-again : tie.Need-loop-reached-preserved invariant-loop decreases-loop
loop-again c =
    let store = c.args.store.now in
    let e = test_is is_edit c.is_edit.ensures c.byte.ensures c.loop-reached-test.true in
    let h = edit_inside store c.loop-reached.place e in
    let r : DataSized _ _ _ = rw (c.next.ensures.is h) at c.measure_data-reached.ensures in
    putting_more c.loop-reached.invariant e r c.number_at.ensures.0 c.number_at-end.ensures.0

sub-result : tie.Need-overflow_sub-result invariant-loop decreases-loop
sub-result c =
    omega (arith, c.loop-reached.invariant.inside)

add-result : tie.Need-overflow_add-result invariant-loop decreases-loop
add-result c =
    omega (arith, c.loop-reached.invariant.inside, c.loop-reached.invariant.bounded, c.requires.0)

returns : tie.Need-returns invariant-loop decreases-loop
returns c = putting_end c.loop-reached.invariant (test_is is_edit c.is_edit.ensures c.byte.ensures c.loop-reached-test.false)

pub measure_edits_spec : {M : Type 1} → statement M
measure_edits_spec =
    tie.close
    (tie.spec
    invariant-loop
    decreases-loop
    (λ c κs. search rules)
    loop-holds
    (λ c κs. search rules)
    (λ c κs. search rules)
    (λ c κs. search rules)
    (λ c κs. search rules)
    add-number-at
    (λ c κs. search rules)
    sub-done
    add_done
    add-done-2
    add-number-at-2
    (λ c κs. search rules)
    loop-less
    loop-again
    sub-result
    add-result
    returns)
