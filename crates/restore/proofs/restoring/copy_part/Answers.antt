-- `restore::restoring::copy_part`. Assumes nothing.
use Rattle.restore.proofs.Editing.{part_done}
use Rattle.restore.proofs.restoring.copy_part.Goals as goal

pub returns : goal.returns
returns c = part_done c.args.base.now _ _ c.requires.0 _ _ c.requires.1 c.if-from-end.false c.if-to-done.false c.copy.ensures
