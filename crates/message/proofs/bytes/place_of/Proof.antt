-- `message::bytes::place_of`: at once where the size says that every packet but the last is full. Assumes nothing.
use borrow.Author.Rules.{rules}
use Prim.Native.Nat.{◌-◌}
use native.Mathlib.Omega.{arith}
use Rattle.message.proofs.Laws.{Here, here}
use Rattle.message.proofs.Sizes.{size_few, some_packet, at_once}
use Rattle.message.proofs.bytes.place_of.Statement.{statement}
use Rattle.message.proofs.bytes.place_of.Tie as tie

at_end : (c : tie.After-shared_slice_known-1) → Here 4 (c.args.packets - 1) c.args.words.now
at_end c = let p = c.requires in here _ p.0.inside (omega (arith, some_packet p.0 p.1))

pub place_of_spec : {M : Type 1} → statement M
place_of_spec =
    tie.close
    (tie.spec
    (λ c. let p = c.requires in omega (arith, some_packet p.0 p.1))
    (λ c. search rules)
    (λ c. search rules)
    (λ c. (at_end c.before).index)
    (λ c κs. search rules)
    (λ c. search rules)
    (λ c. omega (arith, size_few c.requires.0))
    (λ c. omega (arith, (at_end c.before.before).number))
    (λ c. omega (arith, (at_end c.before.before).number, c.count_of-count.ensures))
    (λ c. let p = c.requires in at_once p.0 p.1 (rw c.count_of-count.ensures at c.if-size-last.true))
    (λ c κs. c.requires)
    (λ c. search rules))
