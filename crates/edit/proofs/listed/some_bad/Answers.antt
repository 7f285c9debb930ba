-- `edit::listed::some_bad`: the call's answer is that of the test over the indices, and so over the edits. Assumes nothing.
use Rattle.std.proofs.Common.{rules, refl, length, ◌/◌, ◌∙◌, arith}
use borrow.Author.Tests.{tests}
use Rattle.std.proofs.lemmas.Iterator.{YieldsList-from_range}
use Rattle.std.proofs.lemmas.Iterator.Search.{any_from_yields_List}
use Rattle.ump.specs.Edits.{per_edit}
use Rattle.edit.proofs.Lists.{some_listed, is_past}
use Rattle.edit.proofs.listed.some_bad.Goals as goal

pub returns : goal.returns
returns c =
    any_from_yields_List (is_past c.args.size c.args.numbers.now) _ _ _ c.any.ensures.ran
    (YieldsList-from_range 0 _ (length c.args.numbers.now / per_edit) refl (omega arith))
    (λ x b q k. search (rules, tests))
    ∙ some_listed c.args.size c.args.numbers.now 0 (length c.args.numbers.now / per_edit)
