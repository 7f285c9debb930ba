-- Any two outcomes that the promises allow are equal: the answer, and all that is lent. Assumes nothing.
use mathlib.Core.Path.{refl, sym, ◌∙◌}
use Rattle.refusal.specs.Tight.{FixesOutcome}
use Rattle.refusal.proofs.Tight.{both_fixed, once}
use Rattle.ports.specs.Table.{Lent}
use Rattle.ports.specs.Meaning.{received_meaning}
use Rattle.ports.proofs.Named.{received_back, received-back}
use Rattle.ports.proofs.clear.Kinds as clear-kinds
use Rattle.ports.proofs.clear.Reads as clear
use Rattle.ports.proofs.receive.Kinds as receive-kinds
use Rattle.ports.proofs.receive.Reads as receive

clear_unique : FixesOutcome 1 clear-kinds.ps clear-kinds.r clear.Post (λ κs s. s.0.now)
clear_unique κs a x y s t p q = (refl, p ∙ sym q)

receive_unique : FixesOutcome {Lent = Lent} 4 receive-kinds.ps receive-kinds.r receive.Post (λ κs s. (s.0.now, s.1.0.now, s.1.1.1.1.0.now))
receive_unique κs a x y s t p q = both_fixed received_meaning (once received_meaning received_back received-back) p q
