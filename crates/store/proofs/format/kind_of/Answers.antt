-- `store::format::kind_of`. Assumes nothing.
use Rattle.std.proofs.Common.{◌∙◌, sym}
use Rattle.store.proofs.Grammar.{kind_data}
use Rattle.store.proofs.format.kind_of.Goals as goal

pub returns-then-is_data : goal.returns-then-is_data
returns-then-is_data c = kind_data c.args.kind (sym c.is_data.ensures ∙ c.if-is_data.true)
