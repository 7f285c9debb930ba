-- `finish` meets its contract. Assumes nothing.
use mathlib.Core.Path.{◌≡◌, ◌∙◌}
use Prim.Native.Nat.{◌/◌, ◌≤◌, ◌<◌}
use native.Mathlib.Omega.{arith}
use borrow.Author.Rules.{rules}
use Rattle.ump.specs.Packet.{sysex8}
use Rattle.ump.specs.Packing.{packets_for}
use Rattle.ump.proofs.Sizes.{packets_pos}
use Rattle.splice.specs.Zeros.{zeroed}
use Rattle.splice.proofs.packing.finish.Statement.{statement}
use Rattle.splice.proofs.packing.finish.Tie as tie

-- the packets
packets : (s : tie.Start) → (s.args.end / 4 ≡ packets_for sysex8 s.args.size) × ((0 < s.args.end / 4) × (4 ≤ s.args.end))
packets s = omega (arith, s.requires, packets_pos sysex8 s.args.size)

abbrev start : tie.After-put_head-arg-2-1 → tie.Start
start c = c.before.before.before.before.before.before.before

returns : tie.Need-returns
returns c =
    let x = c.args in
    let zeros : c.zero.new.words ≡ zeroed c.put_head-2.new.words x.end x.old = c.zero.ensures in
    zeros ∙ rw (c.put_head-2.ensures, c.head-2.ensures.0, c.put_head.ensures, c.head.ensures.0)

pub finish_spec : {M : Type 1} → statement M
finish_spec =
    tie.close
    (tie.spec
    (λ c κs. let p = packets c.before.before in (c.requires.0, (p.0, p.1.0)))
    (λ c κs. (c.head.ensures.1, omega (arith, c.requires, packets c.before.before.before)))
    (λ c. (packets (start c)).1.0)
    (λ c κs. let p = packets (start c) in ((start c).requires.0, (p.0, omega (arith, p.1.0))))
    (λ c. (packets (start c.before)).1.1)
    (λ c κs. let s = start c.before in (c.head-2.ensures.1, omega (arith, s.requires, packets s)))
    (λ c κs. let s = start c.before.before.before.before.before in (omega (arith, s.requires), omega (arith, s.requires)))
    (λ c. search rules)
    returns)
