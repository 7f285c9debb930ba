-- `edit::listed::Edits::checked`: why the list is refused, or what the walk found. Assumes nothing.
use Rattle.edit.proofs.Lists.{cut_none, cut_some}
use Rattle.edit.proofs.listed.Edits.checked.Goals as goal

pub returns-in_default-clause-err : goal.returns-in_default-clause-err
returns-in_default-clause-err c = rw c.into.ensures (c.why.ensures (cut_none _ _ _ c.in_default.ensures))

pub invariant_of-result : goal.invariant_of-result
invariant_of-result c = let found = cut_some _ _ _ c.in-Some.ensures in record { passed = found.0; counted = found.1 }
