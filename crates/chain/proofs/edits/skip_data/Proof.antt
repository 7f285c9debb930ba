-- `chain::edits::skip_data`. Assumes nothing.
use borrow.Author.Rules.{rules}
use mathlib.Core.Path.{◌≡◌, refl, sym, ap, ◌∙◌}
use Prim.Native.Nat.{ℕ, ◌-◌, ◌≤◌}
use native.Mathlib.Omega.{arith}
use lib.ListN.{length}
use Rattle.store.specs.Store.{is_data, patches_in}
use Rattle.store.specs.Places.{records_from}
use Rattle.store.proofs.Parts.{test_is, data_inside, patches_data}
use Rattle.chain.proofs.edits.skip_data.Statement.{statement}
use Rattle.chain.proofs.edits.skip_data.Tie as tie

abbrev invariant-loop : tie.invariant-loop-place
invariant-loop store at place₀ place = (patches_in (records_from store place) ≡ patches_in (records_from store at)) × (at ≤ place)

abbrev decreases-loop : tie.decreases-loop-place
decreases-loop store at place₀ place = length store - place

loop-less : tie.Need-loop-place-smaller invariant-loop decreases-loop
loop-less c =
    let h = data_inside c.args.store.now c.loop-place.place (test_is is_data c.is_data.ensures c.byte.ensures c.loop-place-test.true) in
    omega (arith, h, (c.next-place.ensures.on h).0)

loop-again : tie.Need-loop-place-preserved invariant-loop decreases-loop
loop-again c =
    let store = c.args.store.now in
    let here = test_is is_data c.is_data.ensures c.byte.ensures c.loop-place-test.true in
    let h = data_inside store c.loop-place.place here in (
      ap (λ (k : ℕ). patches_in (records_from store k)) (c.next-place.ensures.is h) ∙ sym (patches_data store c.loop-place.place here) ∙ c.loop-place.invariant.0,
      omega (arith, (c.next-place.ensures.on h).0, c.loop-place.invariant.1),
    )

returns : tie.Need-returns invariant-loop decreases-loop
returns c =
    record { rest = c.loop-place.invariant.0; stops = test_is is_data c.is_data.ensures c.byte.ensures c.loop-place-test.false; on = c.loop-place.invariant.1 }

pub skip_data_spec : {M : Type 1} → statement M
skip_data_spec =
    tie.close
    (tie.spec invariant-loop decreases-loop (λ c. (refl, omega arith)) (λ c κs. search rules) (λ c κs. search rules) (λ c κs. search rules) loop-less loop-again returns)
