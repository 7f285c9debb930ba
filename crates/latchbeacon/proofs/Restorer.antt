-- The exported calls on a store of dumps, with any outcome that their promises allow. Definitions alone. Assumes nothing.
use mathlib.Core.Path.{◌≡◌}
use Rattle.refusal.specs.Tight.{Called}
use Rattle.chain.specs.Chained.{Restorer, Describer}
use Rattle.restore.proofs.Calls.{restore_given, describe_given}
use Rattle.reclaim.specs.Reclaimed.{Checker, Marker, Collector}
use Rattle.reclaim.proofs.Calls.{check_given, mark_given, collect_given}
use Rattle.answers.specs.Read.{number_read, done_read, dump_read}
use Rattle.latchbeacon.proofs.chains.latchbeacon_store_restore.Kinds as restore-kinds
use Rattle.latchbeacon.proofs.chains.latchbeacon_store_restore.Reads as exported-restore
use Rattle.latchbeacon.proofs.chains.latchbeacon_store_describe.Kinds as describe-kinds
use Rattle.latchbeacon.proofs.chains.latchbeacon_store_describe.Reads as exported-describe
use Rattle.latchbeacon.proofs.chains.latchbeacon_store_check.Kinds as check-kinds
use Rattle.latchbeacon.proofs.chains.latchbeacon_store_check.Reads as exported-check
use Rattle.latchbeacon.proofs.chains.latchbeacon_store_mark.Kinds as mark-kinds
use Rattle.latchbeacon.proofs.chains.latchbeacon_store_mark.Reads as exported-mark
use Rattle.latchbeacon.proofs.chains.latchbeacon_store_collect.Kinds as collect-kinds
use Rattle.latchbeacon.proofs.chains.latchbeacon_store_collect.Reads as exported-collect

-- `latchbeacon_store_restore` is called on this store, this number and these words; its struct is read so, and it leaves these words
abbrev pub Restores : Restorer
Restores store n words answer left =
    Called 2 restore-kinds.ps restore-kinds.r exported-restore.Post (restore_given store n words)
    (λ κs said. number_read said) (λ κs exit. exit.1.1.0.now ≡ left) answer

-- `latchbeacon_store_describe` is called on this store and this number; its struct is read so
abbrev pub Describes : Describer
Describes store n answer =
    Called 1 describe-kinds.ps describe-kinds.r exported-describe.Post (describe_given store n)
    (λ κs said. dump_read said) (λ κs exit. Unit {0}) answer

-- `latchbeacon_store_check` is called on this store; its struct is read so
abbrev pub Checks : Checker
Checks store answer =
    Called 1 check-kinds.ps check-kinds.r exported-check.Post (check_given store)
    (λ κs said. number_read said) (λ κs exit. Unit {0}) answer

-- `latchbeacon_store_mark` is called on this store and this number; its struct is read so, and it leaves this store
abbrev pub Marks : Marker
Marks store n verdict left =
    Called 1 mark-kinds.ps mark-kinds.r exported-mark.Post (mark_given store n)
    (λ κs said. done_read said) (λ κs exit. exit.0.now ≡ left) verdict

-- `latchbeacon_store_collect` is called on this store; its struct is read so, and it leaves this store
abbrev pub Collects : Collector
Collects store answer left =
    Called 1 collect-kinds.ps collect-kinds.r exported-collect.Post (collect_given store)
    (λ κs said. number_read said) (λ κs exit. exit.0.now ≡ left) answer
