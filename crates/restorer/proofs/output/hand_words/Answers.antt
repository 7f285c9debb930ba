-- `restorer::output::hand_words`: Room, or the bytes. Assumes nothing.
use Rattle.std.proofs.Common.{sym, arith}
use Rattle.ump.proofs.Words.{length-octets}
use Rattle.listing.proofs.Loading.{handed_room, handed_whole}
use Rattle.restorer.proofs.output.hand_words.Goals as goal

pub returns-then-text-words : goal.returns-then-text-words
returns-then-text-words c =
    rw c.into.ensures (handed_room _ _ (omega (arith, c.if-text-words.true, length-octets c.args.words.now)))

pub returns : goal.returns
returns c =
    rw (← (length-octets c.args.words.now), c.put_words.ensures)
    (sym (handed_whole _ _ (omega (arith, c.if-text-words.false, length-octets c.args.words.now))))
