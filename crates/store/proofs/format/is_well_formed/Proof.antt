-- `store::format::is_well_formed`. Assumes nothing.
use borrow.Author.Rules.{rules}
use mathlib.Core.Path.{◌≡◌, refl, sym, ap, ◌∙◌}
use Prim.Native.Nat.{ℕ, ◌-◌}
use native.Mathlib.Omega.{arith}
use lib.ListN.{length, get_or}
use Rattle.store.specs.Store.{at_start, follows_by, well_formed}
use Rattle.store.specs.Places.{records_from}
use Rattle.store.proofs.Grammar.{follows_here, form_bad, form_past, form_end}
use Rattle.store.proofs.format.is_well_formed.Statement.{statement}
use Rattle.store.proofs.format.is_well_formed.Tie as tie

abbrev invariant-loop : tie.invariant-loop-at
invariant-loop store follow₀ at₀ follow at = well_formed at_start (records_from store 0) ≡ well_formed follow (records_from store at)

abbrev decreases-loop : tie.decreases-loop-at
decreases-loop store follow₀ at₀ follow at = length store - at

returns : tie.Need-returns-then-not-is_fit invariant-loop decreases-loop
returns c =
    form_bad c.args.store.now c.loop-at.at c.loop-at-test.true c.loop-at.follow (sym c.is_fit.ensures ∙ c.if-not-is_fit.true) ∙ sym c.loop-at.invariant

loop-again : tie.Need-loop-at-preserved invariant-loop decreases-loop
loop-again c =
    let x = c.args in
    c.loop-at.invariant
    ∙ form_past x.store.now c.loop-at.at c.loop-at-test.true c.loop-at.follow (sym c.is_fit.ensures ∙ c.if-not-is_fit.false)
    (c.after-follow.ensures ∙ ap (follows_by c.loop-at.follow (get_or x.store.now c.loop-at.at 0)) c.number_at.ensures.0 ∙ follows_here x.store.now c.loop-at.at c.loop-at.follow)
    ∙ ap (λ (k : ℕ). well_formed c.after-follow.result (records_from x.store.now k)) (sym (c.next-at.ensures.is c.loop-at-test.true))

returns_2 : tie.Need-returns invariant-loop decreases-loop
returns_2 c = form_end c.args.store.now c.loop-at.at c.loop-at.follow c.loop-at-test.false ∙ sym c.loop-at.invariant

pub is_well_formed_spec : {M : Type 1} → statement M
is_well_formed_spec =
    tie.close
    (tie.spec
    invariant-loop
    decreases-loop
    (λ c. refl)
    (λ c κs. search rules)
    returns
    (λ c. search rules)
    (λ c. search rules)
    (λ c κs. search rules)
    (λ c κs. search rules)
    (λ c κs. search rules)
    (λ c. omega (arith, c.loop-at-test.true, (c.next-at.ensures.on c.loop-at-test.true).0))
    loop-again
    returns_2)
