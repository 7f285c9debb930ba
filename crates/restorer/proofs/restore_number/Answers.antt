-- `restorer::restore_number`: the array has as many bytes as it says. Assumes nothing.
use Rattle.std.proofs.Common.{sym, ℕ}
use lib.ListN.{length-replicate}
use Rattle.restorer.proofs.restore_number.Goals as goal

pub slice_bounds-restore_input-end : goal.slice_bounds-restore_input-end
slice_bounds-restore_input-end g c = sym (length-replicate {0} {A = ℕ} 1048577 0)
