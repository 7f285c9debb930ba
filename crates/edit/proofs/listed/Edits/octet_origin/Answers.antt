-- `edit::listed::Edits::octet_origin`: a header, or a byte of the result. Assumes nothing.
use Rattle.std.proofs.Common.{◌∙◌}
use Rattle.edit.proofs.Walking.{octet_header, octet_byte}
use Rattle.edit.proofs.listed.Edits.octet_origin.Goals as goal

pub returns-then-within-lt-HEADER : goal.returns-then-within-lt-HEADER
returns-then-within-lt-HEADER c = octet_header _ _ _ c.if-within-lt-HEADER.true

pub returns : goal.returns
returns c = c.byte_origin.ensures ∙ octet_byte _ _ _ c.if-within-lt-HEADER.false
