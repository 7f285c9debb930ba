-- The exported calls that look at an edited dump, and at one of a store, with any outcome that their promises allow. Definitions alone.
-- Assumes nothing.
use mathlib.Core.Path.{◌≡◌}
use Rattle.refusal.specs.Tight.{Called}
use Rattle.look.specs.Looked.{Finder, Looker, MessageLooker, Reader}
use Rattle.look.proofs.Calls.{byte_given, message_given, read_given}
use Rattle.look_store.specs.Looked.{DumpLooker}
use Rattle.look_store.proofs.Calls.{dump_given}
use Rattle.answers.specs.Read.{number_read, run_read}
use Rattle.latchbeacon.proofs.looks.latchbeacon_look_run.Kinds as run-kinds
use Rattle.latchbeacon.proofs.looks.latchbeacon_look_run.Reads as exported-run
use Rattle.latchbeacon.proofs.looks.latchbeacon_look_byte.Kinds as byte-kinds
use Rattle.latchbeacon.proofs.looks.latchbeacon_look_byte.Reads as exported-byte
use Rattle.latchbeacon.proofs.looks.latchbeacon_sysex8_look_byte.Kinds as message-kinds
use Rattle.latchbeacon.proofs.looks.latchbeacon_sysex8_look_byte.Reads as exported-message
use Rattle.latchbeacon.proofs.messages.latchbeacon_sysex8_byte.Kinds as read-kinds
use Rattle.latchbeacon.proofs.messages.latchbeacon_sysex8_byte.Reads as exported-read
use Rattle.latchbeacon.proofs.chains.latchbeacon_store_look_byte.Kinds as dump_kinds
use Rattle.latchbeacon.proofs.chains.latchbeacon_store_look_byte.Reads as exported-dump

-- `latchbeacon_look_run` is called on this size, this edit and this position; its struct is read so
abbrev pub Finds : Finder
Finds n edit i answer =
    Called 0 run-kinds.ps run-kinds.r exported-run.Post (λ κs a. a ≡ (n, (edit.from, (edit.to, (edit.length, (i, tt))))))
    (λ κs said. run_read said) (λ κs exit. Unit {0}) answer

-- `latchbeacon_look_byte` is called on these bytes, numbers and replacement bytes and this position; its struct is read so
abbrev pub Looks : Looker
Looks dump numbers bytes i answer =
    Called 3 byte-kinds.ps byte-kinds.r exported-byte.Post (byte_given dump numbers bytes i)
    (λ κs said. number_read said) (λ κs exit. Unit {0}) answer

-- `latchbeacon_sysex8_look_byte` is called on these words, this length, these numbers and bytes and this position
abbrev pub LooksIn : MessageLooker
LooksIn words len numbers bytes i answer =
    Called 3 message-kinds.ps message-kinds.r exported-message.Post (message_given words len numbers bytes i)
    (λ κs said. number_read said) (λ κs exit. Unit {0}) answer

-- `latchbeacon_sysex8_byte` is called on these words, this length and this index
abbrev pub Reads : Reader
Reads words len i answer =
    Called 1 read-kinds.ps read-kinds.r exported-read.Post (read_given words len i) (λ κs said. number_read said) (λ κs exit. Unit {0}) answer

-- `latchbeacon_store_look_byte` is called on this store, this number and this position
abbrev pub LooksAt : DumpLooker
LooksAt store n i answer =
    Called 1 dump_kinds.ps dump_kinds.r exported-dump.Post (dump_given store n i) (λ κs said. number_read said) (λ κs exit. Unit {0}) answer
