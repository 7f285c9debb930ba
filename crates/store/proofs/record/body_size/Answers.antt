-- `store::record::body_size`. Assumes nothing.
use Rattle.std.proofs.Common.{◌≡◌, sym, ◌∙◌, ap, arith}
use Rattle.store.proofs.Records.{data_range, body_data, body_other}
use Rattle.store.proofs.record.body_size.Goals as goal

pub overflow_sub-result : goal.overflow_sub-result
overflow_sub-result c = let r = data_range _ (sym c.is_data.ensures ∙ c.if-is_data.true) in omega (arith, c.from.ensures)

pub returns-then-is_data : goal.returns-then-is_data
returns-then-is_data c =
    let d = sym c.is_data.ensures ∙ c.if-is_data.true in
    let r = data_range _ d in
    let b = body_data _ d in
    (omega (arith, c.from.ensures, b), omega (arith, c.from.ensures))

pub returns : goal.returns
returns c = (sym (body_other _ (sym c.is_data.ensures ∙ c.if-is_data.false)), omega arith)
