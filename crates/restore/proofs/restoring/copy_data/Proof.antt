-- `restore::restoring::copy_data`: what is laid out and what is to come are the data from the place on. Assumes nothing.
use borrow.Author.Rules.{rules}
use Prim.Native.Nat.{◌-◌}
use native.Mathlib.Omega.{arith}
use lib.ListN.{length}
use Rattle.store.specs.Store.{is_data}
use Rattle.store.proofs.Parts.{test_is, data_inside}
use Rattle.restore.proofs.Copying.{Laying, laying_none, laying_over, laying_more, laying_end}
use Rattle.restore.proofs.Editing.{over_ran, done_ran}
use Rattle.restore.proofs.restoring.copy_data.Statement.{statement}
use Rattle.restore.proofs.restoring.copy_data.Tie as tie

abbrev invariant-loop : tie.invariant-loop-count
invariant-loop store at to₀ done place₀ size₀ to place size = Laying store at done to₀ place size to

abbrev decreases-loop : tie.decreases-loop-count
decreases-loop store at to₀ done place₀ size₀ to place size = length store - place

sub-if2 : tie.Need-overflow_sub-to invariant-loop decreases-loop
sub-if2 c = let l = c.loop-count in omega (arith, l.invariant.long, l.invariant.fits)

same_length : tie.Need-shape_of-to-then-to-size invariant-loop decreases-loop
same_length c = c.loop-count.invariant.long

returns : tie.Need-returns-then-to-size invariant-loop decreases-loop
returns c =
    let here = test_is is_data c.is_data.ensures c.byte.ensures c.loop-count-test.true in
    let h = data_inside c.args.store.now c.loop-count.place here in
    over_ran (laying_over c.loop-count.invariant here c.body_here-count.ensures.body (c.body_here-count.ensures.inside h) c.requires c.if-to-size.true)

add-copy : tie.Need-overflow_add-place invariant-loop decreases-loop
add-copy c =
    let here = test_is is_data c.is_data.ensures c.byte.ensures c.loop-count-test.true in
    omega (arith, data_inside c.args.store.now c.loop-count.place here)

copy-requires : tie.Need-copy-requires invariant-loop decreases-loop
copy-requires c κs =
    let here = test_is is_data c.is_data.ensures c.byte.ensures c.loop-count-test.true in
    let h = data_inside c.args.store.now c.loop-count.place here in
    (omega (arith, c.loop-count.invariant.long, c.loop-count.invariant.fits), c.body_here-count.ensures.inside h)

add-size : tie.Need-overflow_add-size invariant-loop decreases-loop
add-size c = let l = c.loop-count in omega (arith, l.invariant.long, l.invariant.fits)

loop-less : tie.Need-loop-count-smaller invariant-loop decreases-loop
loop-less c =
    let here = test_is is_data c.is_data.ensures c.byte.ensures c.loop-count-test.true in
    let h = data_inside c.args.store.now c.loop-count.place here in
    omega (arith, h, (c.next-place.ensures.on h).0)

loop-again : tie.Need-loop-count-preserved invariant-loop decreases-loop
loop-again c =
    let here = test_is is_data c.is_data.ensures c.byte.ensures c.loop-count-test.true in
    let h = data_inside c.args.store.now c.loop-count.place here in
    laying_more c.loop-count.invariant here c.body_here-count.ensures.body (c.body_here-count.ensures.inside h) c.if-to-size.false c.copy.ensures (c.next-place.ensures.is h)

same-length-2 : tie.Need-shape_of-to invariant-loop decreases-loop
same-length-2 c = c.loop-count.invariant.long

returns_2 : tie.Need-returns invariant-loop decreases-loop
returns_2 c =
    done_ran (laying_end c.loop-count.invariant (test_is is_data c.is_data.ensures c.byte.ensures c.loop-count-test.false))

pub copy_data_spec : {M : Type 1} → statement M
copy_data_spec =
    tie.close
    (tie.spec
    invariant-loop
    decreases-loop
    (λ c. laying_none _ _ _ _ c.requires)
    (λ c κs. search rules)
    (λ c κs. search rules)
    (λ c κs. search rules)
    sub-if2
    same_length
    returns
    add-copy
    copy-requires
    add-size
    (λ c κs. search rules)
    loop-less
    loop-again
    same-length-2
    returns_2)
