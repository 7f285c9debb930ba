-- `listing_program::write_listing`: the text holds what the listing says. Assumes nothing.
use Rattle.std.proofs.Common.{sym}
use lib.Seq.{length-take-le}
use Rattle.listing.proofs.Loading.{handed-fits}
use Rattle.listing_program.proofs.write_listing.Goals as goal

pub slice_bounds-write_all-end : goal.slice_bounds-write_all-end
slice_bounds-write_all-end g c = handed-fits _ _ _ _ c.in-Ok.ensures

pub slice_bounds-write_all-end-2 : goal.slice_bounds-write_all-end-2
slice_bounds-write_all-end-2 g c = sym (length-take-le _ _ (handed-fits _ _ _ _ c.in-Ok.ensures))
