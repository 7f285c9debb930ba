-- `look::run`: the part that `find` answers stands inside its source, and is what the call shows. Assumes nothing.
use Rattle.std.proofs.Common.{sym}
use Rattle.look.proofs.Finding.{side_part, lent-part, none_lent}
use Rattle.look.proofs.run.Goals as goal

pub returns-in_default : goal.returns-in_default
returns-in_default c = none_lent _ _ _ _ _ _ _ (sym c.in_default.ensures)

pub slice_bounds-result-count : goal.slice_bounds-result-count
slice_bounds-result-count c = (lent-part _ _ _ _ _ c.args.payload.ref_ptr c.args.replacement.ref_ptr (sym (rw c.in-Within.is at c.in-Ok.ensures))).begins

pub slice_bounds-result-start : goal.slice_bounds-result-start
slice_bounds-result-start c = (lent-part _ _ _ _ _ c.args.payload.ref_ptr c.args.replacement.ref_ptr (sym (rw c.in-Within.is at c.in-Ok.ensures))).begins

pub slice_bounds-result-end-in-Within : goal.slice_bounds-result-end-in-Within
slice_bounds-result-end-in-Within c = (lent-part _ _ _ _ _ c.args.payload.ref_ptr c.args.replacement.ref_ptr (sym (rw c.in-Within.is at c.in-Ok.ensures))).ends

pub returns-in-Within : goal.returns-in-Within
returns-in-Within c = (lent-part _ _ _ _ _ c.args.payload.ref_ptr c.args.replacement.ref_ptr (sym (rw c.in-Within.is at c.in-Ok.ensures))).is

pub slice_bounds-result-count-in-Before : goal.slice_bounds-result-count-in-Before
slice_bounds-result-count-in-Before c = (side_part _ _ _ _ _ c.args.payload.ref_ptr c.args.replacement.ref_ptr c.in-Before.is (sym c.in-Ok.ensures)).begins

pub slice_bounds-result-start-in-Before : goal.slice_bounds-result-start-in-Before
slice_bounds-result-start-in-Before c = (side_part _ _ _ _ _ c.args.payload.ref_ptr c.args.replacement.ref_ptr c.in-Before.is (sym c.in-Ok.ensures)).begins

pub slice_bounds-result-end-in-Before : goal.slice_bounds-result-end-in-Before
slice_bounds-result-end-in-Before c = (side_part _ _ _ _ _ c.args.payload.ref_ptr c.args.replacement.ref_ptr c.in-Before.is (sym c.in-Ok.ensures)).ends

pub returns-in-Before : goal.returns-in-Before
returns-in-Before c = (side_part _ _ _ _ _ c.args.payload.ref_ptr c.args.replacement.ref_ptr c.in-Before.is (sym c.in-Ok.ensures)).is
