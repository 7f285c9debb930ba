-- `merge` meets its contract: at each edit what is written and what waits is the new payload so far. Assumes nothing.
use Rattle.std.proofs.Common.{length, ◌∙◌, arith}
use Rattle.ump.proofs.Words.{below_at}
use Rattle.merge.proofs.Merges.{pass_starts, begin_asks, next_number, size_number, edit_asks, edit_inside, edit_keeps, edit_gives, edit_next, end_keeps, end_poured, poured_entry}
use Rattle.merge.proofs.merging.merge.Goals as goal

pub before-flow-requires : goal.before-flow-requires
before-flow-requires c = (begin_asks c.requires.merges c.begin_of-at.result c.packets_for-held.result c.saturating_sub-lag.result c.begin_of-at.ensures c.packets_for-held.ensures (omega (arith, c.saturating_sub-lag.ensures, c.packets_for-held.ensures, c.packets_for-needed.ensures))).before

pub move_up-requires : goal.move_up-requires
move_up-requires c =
    let a = (begin_asks c.requires.merges c.begin_of-at.result c.packets_for-held.result c.saturating_sub-lag.result c.begin_of-at.ensures c.packets_for-held.ensures (omega (arith, c.saturating_sub-lag.ensures, c.packets_for-held.ensures, c.packets_for-needed.ensures))).up in
    (a.0, (a.1.0, (a.1.1, c.requires.merges.free)))

pub packet_of-hand-requires : goal.packet_of-hand-requires
packet_of-hand-requires c = rw c.move_up.ensures.long (begin_asks c.requires.merges c.begin_of-at.result c.packets_for-held.result c.saturating_sub-lag.result c.begin_of-at.ensures c.packets_for-held.ensures (omega (arith, c.saturating_sub-lag.ensures, c.packets_for-held.ensures, c.packets_for-needed.ensures))).hand

pub loop-index-init : goal.loop-index-init
loop-index-init c source m =
    let f = c.before-flow in
    pass_starts m c.begin_of-at.result _ c.begin_of-at.ensures c.packets_for-held.ensures c.move_up.ensures f.result f.ensures.0 c.packet_of-hand.result f.ensures.1.0 f.ensures.1.1
    (omega (arith, c.saturating_sub-lag.ensures, c.packets_for-held.ensures, c.packets_for-needed.ensures)) (below_at 256 c.args.bytes.now (λ k l. omega (arith, c.type_inv.bytes k))) c.packet_of-hand.ensures

pub step_of-step-requires : goal.step_of-step-requires
step_of-step-requires c =
    let a = edit_asks (c.loop-index.invariant c.requires.source c.requires.merges) (omega arith) in
    (omega arith, (a.0, (a.1.0, a.1.1)))

pub overflow_add-from : goal.overflow_add-from
overflow_add-from c =
    let here = c.loop-index.invariant c.requires.source c.requires.merges in
    omega (arith, (edit_inside here (omega arith) c.step_of-step.result c.step_of-step.ensures).read, size_number c.args.size c.args.size c.saturating_sub-lag.result (length c.move_up.new.words) (omega arith) here.top here.small)

pub overflow_add-next : goal.overflow_add-next
overflow_add-next c =
    let here = c.loop-index.invariant c.requires.source c.requires.merges in
    omega (arith, (edit_inside here (omega arith) c.step_of-step.result c.step_of-step.ensures).read, size_number c.args.size c.args.size c.saturating_sub-lag.result (length c.move_up.new.words) (omega arith) here.top here.small)

pub next_of-coming-requires : goal.next_of-coming-requires
next_of-coming-requires c =
    let here = c.loop-index.invariant c.requires.source c.requires.merges in
    rw here.flows.long (next_number _ _ _ _ (edit_inside here (omega arith) c.step_of-step.result c.step_of-step.ensures).read here.top here.small)

pub keep-flow-requires : goal.keep-flow-requires
keep-flow-requires c = (omega arith, edit_keeps (c.loop-index.invariant c.requires.source c.requires.merges) (omega arith) c.step_of-step.result c.step_of-step.ensures)

pub overflow_add-start : goal.overflow_add-start
overflow_add-start c =
    let here = c.loop-index.invariant c.requires.source c.requires.merges in
    omega (arith, (edit_inside here (omega arith) c.step_of-step.result c.step_of-step.ensures).put, c.well_formed)

pub give-flow-requires : goal.give-flow-requires
give-flow-requires c =
    let here = c.loop-index.invariant c.requires.source c.requires.merges in
    (omega arith, ((edit_inside here (omega arith) c.step_of-step.result c.step_of-step.ensures).put, edit_gives here (omega arith) c.step_of-step.result c.step_of-step.ensures c.keep-flow.ensures))

pub overflow_add-start-in-loop-index-2 : goal.overflow_add-start-in-loop-index-2
overflow_add-start-in-loop-index-2 c =
    let here = c.loop-index.invariant c.requires.source c.requires.merges in
    omega (arith, (edit_inside here (omega arith) c.step_of-step.result c.step_of-step.ensures).supplied, c.well_formed)

pub loop-index-preserved : goal.loop-index-preserved
loop-index-preserved c source m =
    let n = c.next_of-coming in
    edit_next (c.loop-index.invariant source m) (omega arith) c.step_of-step.result c.step_of-step.ensures c.keep-flow.ensures n.result c.give-flow.ensures n.ensures

-- behind the last edit
pub keep-flow-requires-2 : goal.keep-flow-requires-2
keep-flow-requires-2 c = end_keeps (c.loop-index.invariant c.requires.source c.requires.merges) (omega arith)

pub flush-requires : goal.flush-requires
flush-requires c =
    let here = c.loop-index.invariant c.requires.source c.requires.merges in
    let long = c.keep-flow-2.ensures.long ∙ here.flows.long in
    (omega (arith, c.packets_for-needed.ensures, here.room, here.small), (omega (arith, c.packets_for-needed.ensures, here.room, long), here.free))

pub returns : goal.returns
returns c source m =
    poured_entry c.move_up.ensures (omega (arith, c.saturating_sub-lag.ensures, c.packets_for-needed.ensures))
    (end_poured (c.loop-index.invariant source m) (omega arith) _ c.keep-flow-2.ensures c.packets_for-needed.ensures c.flush.ensures)
