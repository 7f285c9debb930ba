-- `look_store::looking::data_byte`. Assumes nothing.
use borrow.Author.Rules.{rules}
use mathlib.Core.Path.{◌≡◌, refl, sym, ap, ◌∙◌}
use mathlib.Core.List.{List}
use Prim.Native.Nat.{ℕ, ◌-◌}
use native.Mathlib.Omega.{arith}
use lib.ListN.{length, get_or}
use Rattle.store.specs.Store.{is_data, data_in}
use Rattle.store.specs.Places.{records_from}
use Rattle.store.proofs.Parts.{test_is, data_inside, data_stop}
use Rattle.look_store.proofs.Data.{data_here, data_later}
use Rattle.look_store.proofs.looking.data_byte.Statement.{statement}
use Rattle.look_store.proofs.looking.data_byte.Tie as tie

abbrev invariant-loop : tie.invariant-loop-size
invariant-loop store at index place₀ left₀ place left = get_or (data_in (records_from store place)) left 0 ≡ get_or (data_in (records_from store at)) index 0

abbrev decreases-loop : tie.decreases-loop-size
decreases-loop store at index place₀ left₀ place left = length store - place

add-result : tie.Need-overflow_add-result invariant-loop decreases-loop
add-result c =
    let here = test_is is_data c.is_data.ensures c.byte.ensures c.loop-size-test.true in
    omega (arith, data_inside c.args.store.now c.loop-size.place here)

add-result-2 : tie.Need-overflow_add-result-then-left-size invariant-loop decreases-loop
add-result-2 c =
    let here = test_is is_data c.is_data.ensures c.byte.ensures c.loop-size-test.true in
    let h = data_inside c.args.store.now c.loop-size.place here in
    omega (arith, c.body_here-size.ensures.inside h)

shared-slice-read-result : tie.Need-bounds-store-place invariant-loop decreases-loop
shared-slice-read-result c =
    let here = test_is is_data c.is_data.ensures c.byte.ensures c.loop-size-test.true in
    let h = data_inside c.args.store.now c.loop-size.place here in
    omega (arith, c.body_here-size.ensures.inside h)

returns : tie.Need-returns-then-left-size invariant-loop decreases-loop
returns c =
    let here = test_is is_data c.is_data.ensures c.byte.ensures c.loop-size-test.true in
    let h = data_inside c.args.store.now c.loop-size.place here in
    sym
    (data_here c.args.store.now c.loop-size.place here _ c.body_here-size.ensures.body (c.body_here-size.ensures.inside h) c.loop-size.left
    c.if-left-size.true)
    ∙ c.loop-size.invariant

loop-less : tie.Need-loop-size-smaller invariant-loop decreases-loop
loop-less c =
    let here = test_is is_data c.is_data.ensures c.byte.ensures c.loop-size-test.true in
    let h = data_inside c.args.store.now c.loop-size.place here in
    omega (arith, h, (c.next-place.ensures.on h).0)

loop-again : tie.Need-loop-size-preserved invariant-loop decreases-loop
loop-again c =
    let here = test_is is_data c.is_data.ensures c.byte.ensures c.loop-size-test.true in
    let h = data_inside c.args.store.now c.loop-size.place here in
    sym
    (data_later c.args.store.now c.loop-size.place here _ c.body_here-size.ensures.body (c.body_here-size.ensures.inside h) c.loop-size.left
    c.if-left-size.false (c.next-place.ensures.is h))
    ∙ c.loop-size.invariant

returns_2 : tie.Need-returns invariant-loop decreases-loop
returns_2 c =
    let stop = test_is is_data c.is_data.ensures c.byte.ensures c.loop-size-test.false in
    sym (ap (λ (d : List ℕ). get_or d c.loop-size.left 0) (data_stop c.args.store.now c.loop-size.place stop)) ∙ c.loop-size.invariant

pub data_byte_spec : {M : Type 1} → statement M
data_byte_spec =
    tie.close
    (tie.spec
    invariant-loop
    decreases-loop
    (λ c. refl)
    (λ c κs. search rules)
    (λ c κs. search rules)
    (λ c κs. search rules)
    add-result
    add-result-2
    shared-slice-read-result
    returns
    (λ c κs. search rules)
    loop-less
    loop-again
    returns_2)
