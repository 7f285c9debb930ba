-- The exported call that checks what another sender wrote, with any outcome that its promise allows. Definitions alone. Assumes nothing.
use Rattle.refusal.specs.Tight.{Called}
use Rattle.carries.specs.Senders.{Carrier}
use Rattle.carries.proofs.Calls.{ask_given}
use Rattle.answers.specs.Read.{done_read}
use Rattle.latchbeacon.proofs.messages.latchbeacon_sysex8_carries.Kinds as carries-kinds
use Rattle.latchbeacon.proofs.messages.latchbeacon_sysex8_carries.Reads as exported-carries

-- `latchbeacon_sysex8_carries` is called on these words, this length, this payload, group and stream id; its struct is read so
abbrev pub Asks : Carrier
Asks words len bytes group id answer =
    Called 2 carries-kinds.ps carries-kinds.r exported-carries.Post (ask_given words len bytes group id)
    (λ κs said. done_read said) (λ κs exit. Unit {0}) answer
