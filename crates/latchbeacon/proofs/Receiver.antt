-- The exported calls on a table of open streams, with any outcome that their promises allow. Definitions alone. Assumes nothing.
use mathlib.Core.Path.{◌≡◌}
use Rattle.refusal.specs.Answer.{pass}
use Rattle.refusal.specs.Tight.{Called}
use Rattle.ports.specs.History.{Receiver, Clearer}
use Rattle.ports.proofs.Calls.{clear_given, receive_given}
use Rattle.answers.specs.Read.{received_read}
use Rattle.latchbeacon.proofs.receiving.latchbeacon_ports_clear.Kinds as clear-kinds
use Rattle.latchbeacon.proofs.receiving.latchbeacon_ports_clear.Reads as exported-clear
use Rattle.latchbeacon.proofs.receiving.latchbeacon_ports_receive.Kinds as receive-kinds
use Rattle.latchbeacon.proofs.receiving.latchbeacon_ports_receive.Reads as exported-receive

-- `latchbeacon_ports_clear` is called on this table, and leaves this one
abbrev pub Clears : Clearer
Clears table after =
    Called 1 clear-kinds.ps clear-kinds.r exported-clear.Post (clear_given table) (λ κs said. pass) (λ κs exit. exit.0.now ≡ after) pass

-- `latchbeacon_ports_receive` is called on these; its struct is read so, and it leaves these
abbrev pub Receives : Receiver
Receives table words port packet output (answer, lent) =
    Called 4 receive-kinds.ps receive-kinds.r exported-receive.Post (receive_given table words port packet output) (λ κs said. received_read said)
    (λ κs exit. (exit.0.now, exit.1.0.now, exit.1.1.1.1.0.now) ≡ lent) answer
