-- `chain::edits::some_outside`. Assumes nothing.
use borrow.Author.Rules.{rules}
use mathlib.Core.Path.{◌≡◌, refl, sym, ap, ◌∙◌}
use Prim.Native.Nat.{ℕ, ◌-◌}
use native.Mathlib.Omega.{arith}
use lib.ListN.{length}
use Rattle.store.specs.Store.{patches_in}
use Rattle.chain.specs.Restore.{outside}
use Rattle.store.specs.Places.{records_from}
use Rattle.store.proofs.Parts.{test_is}
use Rattle.chain.proofs.Outside.{is_part, part_inside, out_bad, out_past, out_stop}
use Rattle.chain.proofs.edits.some_outside.Statement.{statement}
use Rattle.chain.proofs.edits.some_outside.Tie as tie

abbrev invariant-loop : tie.invariant-loop-at
invariant-loop store at size place₀ place = outside size (patches_in (records_from store at)) ≡ outside size (patches_in (records_from store place))

abbrev decreases-loop : tie.decreases-loop-at
decreases-loop store at size place₀ place = length store - place

is-bad-edit-requires : tie.Need-is_bad_edit-requires invariant-loop decreases-loop
is-bad-edit-requires c κs =
    part_inside c.args.store.now c.loop-at.place (test_is is_part c.is_part.ensures c.byte.ensures c.loop-at-test.true)

returns : tie.Need-returns-then-is_bad_edit invariant-loop decreases-loop
returns c =
    let x = c.args in
    out_bad x.store.now c.loop-at.place x.size (sym c.is_bad_edit.ensures ∙ c.if-is_bad_edit.true) ∙ sym c.loop-at.invariant

loop-less : tie.Need-loop-at-smaller invariant-loop decreases-loop
loop-less c =
    let h = part_inside c.args.store.now c.loop-at.place (test_is is_part c.is_part.ensures c.byte.ensures c.loop-at-test.true) in
    omega (arith, h, (c.next-place.ensures.on h).0)

loop-again : tie.Need-loop-at-preserved invariant-loop decreases-loop
loop-again c =
    let x = c.args in
    let part = test_is is_part c.is_part.ensures c.byte.ensures c.loop-at-test.true in
    c.loop-at.invariant
    ∙ out_past x.store.now c.loop-at.place x.size part
    (sym c.is_bad_edit.ensures ∙ c.if-is_bad_edit.false)
    ∙ ap (λ (k : ℕ). outside x.size (patches_in (records_from x.store.now k))) (sym (c.next-place.ensures.is (part_inside x.store.now c.loop-at.place part)))

returns_2 : tie.Need-returns invariant-loop decreases-loop
returns_2 c =
    let x = c.args in
    out_stop x.store.now c.loop-at.place x.size (test_is is_part c.is_part.ensures c.byte.ensures c.loop-at-test.false) ∙ sym c.loop-at.invariant

pub some_outside_spec : {M : Type 1} → statement M
some_outside_spec =
    tie.close
    (tie.spec invariant-loop decreases-loop (λ c. refl) (λ c κs. search rules) (λ c κs. search rules) is-bad-edit-requires returns (λ c κs. search rules) loop-less loop-again returns_2)
