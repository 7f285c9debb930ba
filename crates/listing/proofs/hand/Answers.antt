-- `listing::hand`: Room, or a copy. Assumes nothing.
use Rattle.listing.proofs.Loading.{handed_room, handed_whole}
use Rattle.listing.proofs.hand.Goals as goal

pub returns-then-text-size : goal.returns-then-text-size
returns-then-text-size c = rw c.into.ensures (handed_room _ _ c.if-text-size.true)

pub returns : goal.returns
returns c = rw (c.copy_from_slice.ensures.after, handed_whole _ _ c.if-text-size.false)
