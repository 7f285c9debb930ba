-- `edit::listed::Edits::find_byte`: what is left of the position, at each edit. Assumes nothing.
use Rattle.std.proofs.Common.{arith}
use Rattle.edit.proofs.Lists.{list_passes, range_after}
use Rattle.edit.proofs.Walking.{walk_all, walk-lent, walk-gap, walk_here, walk_on, walk_tail, walk_past}
use Rattle.edit.proofs.listed.Edits.find_byte.Goals as goal

pub loop-index-init : goal.loop-index-init
loop-index-init c = let l = list_passes _ _ _ c.args.self.now.passed in walk_all _ _ _ l.good l.apart

pub overflow_sub-gap : goal.overflow_sub-gap
overflow_sub-gap c = range_after c.loop-index.invariant.ranges c.loop-index-test.true c.edit_at-edit.ensures

pub returns-then-left-gap : goal.returns-then-left-gap
returns-then-left-gap c = walk-gap c.loop-index.invariant c.loop-index-test.true c.edit_at-edit.ensures c.if-left-gap.true

pub overflow_add-result-then-byte-edit : goal.overflow_add-result-then-byte-edit
overflow_add-result-then-byte-edit c =
    let l = list_passes _ _ _ c.args.self.now.passed in
    omega (arith, walk-lent c.loop-index.invariant c.loop-index-test.true c.edit_at-edit.ensures, l.all-bytes)

pub returns-then-byte-edit : goal.returns-then-byte-edit
returns-then-byte-edit c =
    walk_here c.loop-index.invariant c.loop-index-test.true c.edit_at-edit.ensures c.if-left-gap.false c.if-byte-edit.true

pub overflow_add-start : goal.overflow_add-start
overflow_add-start c =
    let l = list_passes _ _ _ c.args.self.now.passed in
    omega (arith, walk-lent c.loop-index.invariant c.loop-index-test.true c.edit_at-edit.ensures, l.all-bytes)

pub loop-index-preserved : goal.loop-index-preserved
loop-index-preserved c =
    walk_on c.loop-index.invariant c.loop-index-test.true c.edit_at-edit.ensures c.if-left-gap.false c.if-byte-edit.false

pub returns-then-left-self : goal.returns-then-left-self
returns-then-left-self c = walk_tail c.loop-index.invariant c.loop-index-test.false c.if-left-self.true

pub returns : goal.returns
returns c = walk_past c.loop-index.invariant c.loop-index-test.false c.if-left-self.false
