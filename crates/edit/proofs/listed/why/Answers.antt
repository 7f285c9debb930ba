-- `edit::listed::why`: each return is a case of `list_check`. Assumes nothing.
use Rattle.std.proofs.Common.{sym, ◌∙◌}
use Rattle.edit.proofs.Lists.{list_bad, list_overlap}
use Rattle.edit.proofs.listed.why.Goals as goal

pub returns-then-is_bad_list : goal.returns-then-is_bad_list
returns-then-is_bad_list c none = list_bad _ _ _ (sym c.is_bad_list.ensures ∙ c.if-is_bad_list.true)

pub returns-else-is_bad_list : goal.returns-else-is_bad_list
returns-else-is_bad_list c none = list_overlap _ _ _ (sym c.is_bad_list.ensures ∙ c.if-is_bad_list.false) none
