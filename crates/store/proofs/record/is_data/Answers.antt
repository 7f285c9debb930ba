-- `store::record::is_data`. Assumes nothing.
use Rattle.std.proofs.Common.{arith}
use borrow.Author.Tests.{le-leb, lt-leb}
use Rattle.store.proofs.Records.{data_low, data_high}
use Rattle.store.proofs.record.is_data.Goals as goal

pub returns-in-129-to-141 : goal.returns-in-129-to-141
returns-in-129-to-141 c = rw (← data_high c.args.kind (omega arith), le-leb c.args.kind 141 (omega arith))

pub returns-in_default : goal.returns-in_default
returns-in_default c = data_low c.args.kind (omega arith)

pub returns-in_default-2 : goal.returns-in_default-2
returns-in_default-2 c = rw (← data_high c.args.kind (omega arith), lt-leb c.args.kind 141 (omega arith))
