-- `ports::slot_for`: the slot of the key, no share, no slot, the first free one. Assumes nothing.
use Rattle.std.proofs.Common.{◌≡◌, ◌≤◌, ◌+◌, ◌∙◌, add-one, sym, refl, arith, eq-eqb, ne_eqb, get_or}
use Rattle.ump.specs.Check.{first_where}
use Rattle.ump.proofs.First.{passed_zero, passed_one, passed_end, passed_here}
use Rattle.ports.specs.Streams.{is_of}
use Rattle.ports.specs.Table.{held_by, count, slot_of}
use Rattle.ports.proofs.Looks.{found_more}
use Rattle.ports.proofs.Slots.{count_more}
use Rattle.ports.proofs.Steps.{for_again, for_share, for_free}
use Rattle.ports.proofs.slot_for.Goals.{then-here-port, else-here-port}
use Rattle.ports.proofs.slot_for.Goals as goal

pub loop-slot-init : goal.loop-slot-init
unfolding count first_where
loop-slot-init c = record { passed = passed_zero; free_is = refl; held_is = refl; small = omega arith }

pub returns-then-here-key-clause-meaning : goal.returns-then-here-key-clause-meaning
unfolding slot_of
returns-then-here-key-clause-meaning c =
    let h = c.loop-slot-test.true in
    for_again _ _ _ (passed_here c.loop-slot.invariant.passed h (eq-eqb _ _ c.if-here-key.true)) h

pub loop-slot-preserved : goal.loop-slot-preserved
loop-slot-preserved c =
    let inv = c.loop-slot.invariant in
    let counts : (c.if-here-port.held ≡ count (λ k. is_of c.args.port (get_or c.args.table.now k 0)) (c.loop-slot.slot + 1)) × (c.if-here-port.held ≤ c.loop-slot.slot + 1) =
    elim c.if-here-port.branch [
      | then-here-port w ↦ count_more _ c.loop-slot.slot inv.held_is inv.small (rw (eq-eqb _ _ w.if-here-port.true) (w.held-is ∙ add-one _))
      | else-here-port w ↦ count_more _ c.loop-slot.slot inv.held_is inv.small (rw (ne_eqb _ _ w.if-here-port.false) w.held-is)
    ] in
    record {
      passed = passed_one inv.passed (omega (arith, c.loop-slot-test.true)) (ne_eqb _ _ c.if-here-key.false);
      free_is = c.or-free.ensures ∙ rw (c.then_some.ensures, inv.free_is) (sym (found_more _ c.loop-slot.slot));
      held_is = counts.0;
      small = counts.1;
    }

pub returns-then-held-ge12-clause-meaning : goal.returns-then-held-ge12-clause-meaning
unfolding held_by slot_of
returns-then-held-ge12-clause-meaning c =
    let e : c.loop-slot.slot ≡ 16 = omega (arith, c.loop-slot-test.false, c.loop-slot.auto.slot-end) in
    let new : 16 ≤ slot_of c.args.table.now c.args.key = omega (arith, e, passed_end c.loop-slot.invariant.passed (omega (arith, e))) in
    for_share _ _ _ refl (rw e at c.loop-slot.invariant.held_is) new c.if-held-ge12.true

pub returns-clause-meaning : goal.returns-clause-meaning
unfolding held_by slot_of
returns-clause-meaning c =
    let e : c.loop-slot.slot ≡ 16 = omega (arith, c.loop-slot-test.false, c.loop-slot.auto.slot-end) in
    let new : 16 ≤ slot_of c.args.table.now c.args.key = omega (arith, e, passed_end c.loop-slot.invariant.passed (omega (arith, e))) in
    let counts = rw e at c.loop-slot.invariant.held_is in
    let free = rw e at c.loop-slot.invariant.free_is in
    rw c.ok_or.ensures.value (for_free _ _ _ refl counts new c.if-held-ge12.false free).0
