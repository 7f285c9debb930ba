-- `splice::replacing::merge_all` meets its contract, in one pass and in two. Assumes nothing.
use Rattle.std.proofs.Common.{◌≡◌, ◌-◌, arith}
use Rattle.ump.proofs.Words.{below_at}
use Rattle.ump.specs.Packet.{sysex8}
use Rattle.ump.specs.Packing.{packets_for}
use Rattle.splice.proofs.Passing.{summed}
use Rattle.splice.proofs.Passes.{merges_all, ends_all, merges_shrink, merges_grow, ends_grow}
use Rattle.splice.proofs.replacing.merge_all.Goals as goal

pub outgrows-requires : goal.outgrows-requires
outgrows-requires c = (
  omega (arith, c.saturating_sub-gained.ensures, c.packets_for-needed.ensures, c.packets_for.ensures, c.requires.lists.needed, c.requires.lists.small),
  summed c.requires.lists,
)

pub less_after-less-requires : goal.less_after-less-requires
less_after-less-requires c = summed c.requires.lists

-- two passes
pub merge-requires : goal.merge-requires
merge-requires c = record { source = _; merges = merges_shrink c.requires.lists c.less_after-less.ensures }

pub merge-requires-then-outgrows : goal.merge-requires-then-outgrows
merge-requires-then-outgrows c =
    let l = c.requires.lists in
    let less = c.less_after-less.ensures in
    record { source = _; merges = merges_grow l less (c.merge.ensures _ (merges_shrink l less)) (below_at 256 c.args.bytes.now (λ k h. omega (arith, c.type_inv.bytes k))) }

pub returns-then-outgrows : goal.returns-then-outgrows
returns-then-outgrows c source l =
    let less = c.less_after-less.ensures in
    let shrunk = c.merge.ensures source (merges_shrink l less) in
    ends_grow l less shrunk (c.merge-then-outgrows.ensures _ (merges_grow l less shrunk (below_at 256 c.args.bytes.now (λ k h. omega (arith, c.type_inv.bytes k)))))

-- one pass
pub merge-requires-2 : goal.merge-requires-2
merge-requires-2 c =
    let gained : c.saturating_sub-gained.result ≡ packets_for sysex8 c.args.total - packets_for sysex8 c.args.size = omega (arith, c.saturating_sub-gained.ensures, c.packets_for-needed.ensures, c.packets_for.ensures) in
    record { source = _; merges = merges_all c.requires.lists (rw gained at (c.outgrows.ensures c.if-outgrows.false)) }

pub returns : goal.returns
returns c source l =
    let gained : c.saturating_sub-gained.result ≡ packets_for sysex8 c.args.total - packets_for sysex8 c.args.size = omega (arith, c.saturating_sub-gained.ensures, c.packets_for-needed.ensures, c.packets_for.ensures) in
    ends_all l (c.merge-2.ensures source (merges_all l (rw gained at (c.outgrows.ensures c.if-outgrows.false))))
