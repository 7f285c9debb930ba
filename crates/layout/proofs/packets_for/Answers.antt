-- `layout::packets_for`: case by case as the definition. Assumes nothing.
use Rattle.std.proofs.Common.{◌≡◌, refl, ◌∙◌}
use borrow.Author.Tests.{ne_eqb}
use Rattle.ump.specs.Packing.{packets_for}
use Rattle.layout.proofs.packets_for.Goals as goal

pub returns-then-size-eq0 : goal.returns-then-size-eq0
unfolding packets_for
returns-then-size-eq0 g c = rw c.if-size-eq0.true refl

pub returns-else-size-eq0 : goal.returns-else-size-eq0
unfolding packets_for
returns-else-size-eq0 g c =
    let room : c.ROOM.result ≡ g.F.Format.shape.room = c.ROOM.ensures ∙ g.F.Format.numbers.room_is in
    rw (ne_eqb c.args.size 0 c.if-size-eq0.false, room)
