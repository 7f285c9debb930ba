-- `restore::restoring::copy_edit`. Assumes nothing.
use Rattle.restore.proofs.restoring.copy_edit.Goals as goal

pub copy_data-requires : goal.copy_data-requires
copy_data-requires c = (c.copy_part.ensures.sized _ c.in_ok-size.was).0
