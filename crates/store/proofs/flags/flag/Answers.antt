-- `store::flags::flag`. Assumes nothing.
use Rattle.store.proofs.Flagging.{flag_set}
use Rattle.store.proofs.flags.flag.Goals as goal

pub returns-then-number-table : goal.returns-then-number-table
returns-then-number-table c = flag_set c.args.table.now c.args.number c.if-number-table.true
