-- `reclaim::moving::compact`. Assumes nothing.
use borrow.Author.Rules.{rules}
use Prim.Native.Nat.{◌-◌}
use native.Mathlib.Omega.{arith}
use lib.ListN.{length}
use Rattle.reclaim.proofs.Moves.{Moving, moving_none, moving_more, moving_all}
use Rattle.reclaim.proofs.moving.compact.Statement.{statement}
use Rattle.reclaim.proofs.moving.compact.Tie as tie

abbrev invariant-loop : tie.invariant-loop-at
invariant-loop store₀ kept at₀ done₀ on₀ store at done on = Moving store₀ at done on store

abbrev decreases-loop : tie.decreases-loop-at
decreases-loop store₀ kept at₀ done₀ on₀ store at done on = length store₀ - at

add-size : tie.Need-overflow_add-size invariant-loop decreases-loop
add-size c = omega (arith, c.body_here-size.ensures.inside c.loop-at-test.true)

pass-down-requires : tie.Need-pass_down-done-requires invariant-loop decreases-loop
pass-down-requires c κs =
    (c.loop-at.invariant.low, omega (arith, c.body_here-size.ensures.inside c.loop-at-test.true))

add_at : tie.Need-overflow_add-at invariant-loop decreases-loop
add_at c =
    omega (arith, c.body_here-size.ensures.inside c.loop-at-test.true, c.loop-at.invariant.long)

loop-less : tie.Need-loop-at-smaller invariant-loop decreases-loop
loop-less c =
    omega (arith, c.loop-at-test.true, c.loop-at.invariant.long)

loop-again : tie.Need-loop-at-preserved invariant-loop decreases-loop
loop-again c =
    moving_more c.loop-at.invariant c.loop-at-test.true c.body_here-size.result c.body_here-size.ensures.body (c.body_here-size.ensures.inside c.loop-at-test.true) c.args.kept.now c.requires c.is_staying-on.ensures c.pass_down-done.ensures c.pass_down-done.auto.store

returns : tie.Need-returns invariant-loop decreases-loop
returns c = let m = c.loop-at.invariant in (omega (arith, m.low, m.inside, m.long), moving_all m c.loop-at-test.false)

pub compact_spec : {M : Type 1} → statement M
compact_spec =
    tie.close
    (tie.spec
    invariant-loop
    decreases-loop
    (λ c. moving_none _)
    (λ c κs. search rules)
    add-size
    (λ c κs. search rules)
    pass-down-requires
    add_at
    loop-less
    loop-again
    (λ c. c.loop-at.invariant.long)
    returns)
