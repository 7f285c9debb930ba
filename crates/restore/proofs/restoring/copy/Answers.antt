-- `restore::restoring::copy`: so many bytes are pasted. Assumes nothing.
use Rattle.std.proofs.Common.{add-one, arith, drop}
use lib.ListN.{length-drop}
use lib.Seq.{paste-suc, get_or-drop}
use Rattle.restore.proofs.restoring.copy.Goals as goal

pub loop-index-preserved : goal.loop-index-preserved
loop-index-preserved c =
    let from = c.args.from.now in
    let index = c.loop-index.index in
    rw (c.loop-index.invariant, add-one, ← (get_or-drop c.args.start from index 0))
    (paste-suc c.args.to.now c.args.done (drop c.args.start from) index 0
    (omega (arith, c.requires, c.loop-index-test.true))
    (simp length-drop (omega (arith, c.requires, c.loop-index-test.true))))
