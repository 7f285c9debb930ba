-- `look_store::looking::source_of`. Assumes nothing.
use borrow.Author.Rules.{rules}
use Prim.Native.Nat.{◌-◌}
use native.Mathlib.Omega.{arith}
use lib.ListN.{length}
use Rattle.store.specs.Store.{is_edit}
use Rattle.store.proofs.Parts.{test_is, edit_inside}
use Rattle.chain.specs.Laying.{DataSized}
use Rattle.look_store.proofs.Edits.{Passing, passing_start, edit_early, from-base, from_edit, passing_gap, passing_data, passing_more, passing_end}
use Rattle.look_store.proofs.looking.source_of.Statement.{statement}
use Rattle.look_store.proofs.looking.source_of.Tie as tie

abbrev invariant-loop : tie.invariant-loop-gap
invariant-loop store at position place₀ end₀ left₀ place end left = Passing store at position place end left

abbrev decreases-loop : tie.decreases-loop-gap
decreases-loop store at position place₀ end₀ left₀ place end left = length store - place

loop-holds : tie.Need-loop-gap-init invariant-loop decreases-loop
loop-holds c =
    passing_start c.args.store.now c.args.at c.args.position c.requires.1 c.skip_data-place.ensures

add-number-at : tie.Need-overflow_add-place invariant-loop decreases-loop
add-number-at c =
    let e = test_is is_edit c.is_edit.ensures c.byte.ensures c.loop-gap-test.true in
    omega (arith, edit_inside c.args.store.now c.loop-gap.place e)

sub-gap : tie.Need-overflow_sub-gap invariant-loop decreases-loop
sub-gap c =
    let e = test_is is_edit c.is_edit.ensures c.byte.ensures c.loop-gap-test.true in
    omega (arith, edit_early c.loop-gap.invariant e, c.number_at.ensures.0)

returns : tie.Need-returns-then-left-gap invariant-loop decreases-loop
returns c =
    let e = test_is is_edit c.is_edit.ensures c.byte.ensures c.loop-gap-test.true in
    from-base (passing_gap c.loop-gap.invariant e c.number_at.ensures.0 c.if-left-gap.true)

returns_2 : tie.Need-returns-then-index-size invariant-loop decreases-loop
returns_2 c =
    let e = test_is is_edit c.is_edit.ensures c.byte.ensures c.loop-gap-test.true in
    let h = edit_inside c.args.store.now c.loop-gap.place e in
    let r : DataSized _ _ _ = rw (c.next-data.ensures.is h) at c.measure_data-reached.ensures in
    from_edit
    (passing_data c.loop-gap.invariant e c.number_at.ensures.0 c.if-left-gap.false (c.next-data.ensures.is h) (omega (arith, c.if-index-size.true, r.size))
    c.data_byte.ensures)

add-number-at-2 : tie.Need-overflow_add-place-in-loop-gap invariant-loop decreases-loop
add-number-at-2 c =
    let e = test_is is_edit c.is_edit.ensures c.byte.ensures c.loop-gap-test.true in
    omega (arith, edit_inside c.args.store.now c.loop-gap.place e)

loop-less : tie.Need-loop-gap-smaller invariant-loop decreases-loop
loop-less c =
    let e = test_is is_edit c.is_edit.ensures c.byte.ensures c.loop-gap-test.true in
    let h = edit_inside c.args.store.now c.loop-gap.place e in
    let r : DataSized _ _ _ = rw (c.next-data.ensures.is h) at c.measure_data-reached.ensures in
    omega (arith, h, r.fewer)

loop-again : tie.Need-loop-gap-preserved invariant-loop decreases-loop
loop-again c =
    let e = test_is is_edit c.is_edit.ensures c.byte.ensures c.loop-gap-test.true in
    let h = edit_inside c.args.store.now c.loop-gap.place e in
    let r : DataSized _ _ _ = rw (c.next-data.ensures.is h) at c.measure_data-reached.ensures in
    passing_more c.loop-gap.invariant e c.number_at.ensures.0 c.if-left-gap.false r c.if-index-size.false c.number_at-end.ensures.0 c.number_at-end.ensures.1

returns-3 : tie.Need-returns invariant-loop decreases-loop
returns-3 c =
    from-base (passing_end c.loop-gap.invariant (test_is is_edit c.is_edit.ensures c.byte.ensures c.loop-gap-test.false))

pub source_of_spec : {M : Type 1} → statement M
source_of_spec =
    tie.close
    (tie.spec
    invariant-loop
    decreases-loop
    (λ c κs. search rules)
    loop-holds
    (λ c κs. search rules)
    (λ c κs. search rules)
    add-number-at
    (λ c κs. search rules)
    sub-gap
    (λ c. omega (arith, c.loop-gap.invariant.low, c.loop-gap.invariant.fewer, c.requires.0))
    returns
    (λ c κs. search rules)
    (λ c κs. search rules)
    (λ c κs. search rules)
    returns_2
    add-number-at-2
    (λ c κs. search rules)
    loop-less
    loop-again
    (λ c. omega (arith, c.loop-gap.invariant.low, c.loop-gap.invariant.fewer, c.requires.0))
    returns-3)
