-- `layout::status_for`: each branch is a place; a packet past the last is an inner one. Assumes nothing.
use Rattle.std.proofs.Common.{sym, arith}
use Rattle.ump.specs.Packing.{status_for}
use Rattle.ump.proofs.Sizes.{place_alone, place_begin, place_last, place_inner}
use Rattle.layout.proofs.status_for.Goals as goal

pub returns-then-packets-eq1 : goal.returns-then-packets-eq1
unfolding status_for
returns-then-packets-eq1 c = sym (place_alone 0 1 2 3 _ c.args.packet c.if-packets-eq1.true)

pub returns-then-packet-eq0 : goal.returns-then-packet-eq0
unfolding status_for
returns-then-packet-eq0 c = sym (place_begin 0 1 2 3 _ c.args.packet c.if-packets-eq1.false c.if-packet-eq0.true)

pub returns-then-saturating_sub-eq1 : goal.returns-then-saturating_sub-eq1
unfolding status_for
returns-then-saturating_sub-eq1 c = sym (place_last 0 1 2 3 _ _ c.if-packets-eq1.false c.if-packet-eq0.false (omega arith))

pub returns-else-saturating_sub-eq1 : goal.returns-else-saturating_sub-eq1
unfolding status_for
returns-else-saturating_sub-eq1 c = sym (place_inner 0 1 2 3 _ _ c.if-packets-eq1.false c.if-packet-eq0.false (λ e. omega arith))
