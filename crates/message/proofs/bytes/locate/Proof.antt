-- `message::bytes::locate`: no packet passed reaches the byte. Assumes nothing.
use borrow.Author.Rules.{rules}
use Prim.Native.Nat.{◌-◌, ◌<◌}
use native.Mathlib.Omega.{arith}
use Rattle.message.proofs.Laws.{Here, here}
use Rattle.message.proofs.Sizes.{Seeking, seek_start, seek_below, seek_more, seek_found, below_size}
use Rattle.message.proofs.bytes.locate.Statement.{statement}
use Rattle.message.proofs.bytes.locate.Tie as tie

abbrev invariant-loop : tie.invariant-loop-byte
invariant-loop words packets size index packet₀ byte₀ packet byte = Seeking 4 1 words packets index packet byte

abbrev decreases-loop : tie.decreases-loop-byte
decreases-loop words packets size index packet₀ byte₀ packet byte = packets - packet

below : (c : tie.At-loop-byte invariant-loop decreases-loop) → c.loop-byte.packet < c.args.packets
below c = let p = c.requires in seek_below (below_size p.0 p.1) c.loop-byte.invariant

at : (c : tie.At-loop-byte invariant-loop decreases-loop) → Here 4 c.loop-byte.packet c.args.words.now
at c = here c.loop-byte.packet c.requires.0.inside (below c)

pub locate_spec : {M : Type 1} → statement M
locate_spec =
    tie.close
    (tie.spec
    invariant-loop
    decreases-loop
    (λ c. seek_start)
    (λ c. (at c).fits)
    (λ c. (at c).bytes_fit)
    (λ c. (at c.before).index)
    (λ c κs. search rules)
    (λ c. search rules)
    (λ c. omega (arith, c.count_of.ensures, (c.requires.0.counted _ (below c.before.before)).0))
    (λ c. seek_found c.loop-byte.invariant (below c.before.before.before) c.count_of.ensures c.if-byte-size.true)
    (λ c. omega (arith, (at c.before.before.before).number))
    (λ c. omega (arith, below c.before.before.before))
    (λ c. seek_more c.loop-byte.invariant (below c.before.before.before) c.count_of.ensures c.if-byte-size.false))
