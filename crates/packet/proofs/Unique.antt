-- Any two outcomes that a promise allows are equal: the answer, and all lent words after a call that writes. Assumes nothing.
use mathlib.Core.Path.{sym, ◌∙◌}
use Rattle.refusal.specs.Tight.{FixesResult, FixesOutcome}
use Rattle.refusal.proofs.Tight.{both_fixed}
use Rattle.packet.proofs.Once.{packet8_once, packet7_once}
use Rattle.packet.proofs.sysex8.read_packet.Kinds as read8-kinds
use Rattle.packet.proofs.sysex8.read_packet.Reads as read8
use Rattle.packet.proofs.sysex7.read_packet.Kinds as read7-kinds
use Rattle.packet.proofs.sysex7.read_packet.Reads as read7
use Rattle.packet.proofs.sysex8.byte.Kinds as byte-kinds
use Rattle.packet.proofs.sysex8.byte.Reads as byte8
use Rattle.packet.proofs.sysex7.byte.Reads as byte7
use Rattle.packet.proofs.sysex8.set_group.Kinds as set-kinds
use Rattle.packet.proofs.sysex8.set_group.Reads as set8
use Rattle.packet.proofs.sysex7.set_group.Reads as set7
use Rattle.refusal.specs.Meaning.{answer_of}
use Rattle.refusal.proofs.Laws.{answer_once}

read8_unique : FixesResult 1 read8-kinds.ps read8-kinds.r read8.Post
read8_unique κs a x y s t p q = packet8_once x y (p ∙ sym q)

read7_unique : FixesResult 1 read7-kinds.ps read7-kinds.r read7.Post
read7_unique κs a x y s t p q = packet7_once x y (p ∙ sym q)

byte8_unique : FixesResult 1 byte-kinds.ps byte-kinds.r byte8.Post
byte8_unique κs a x y s t p q = answer_once x y (p ∙ sym q)

byte7_unique : FixesResult 1 byte-kinds.ps byte-kinds.r byte7.Post
byte7_unique κs a x y s t p q = answer_once x y (p ∙ sym q)

set8_unique : FixesOutcome 1 set-kinds.ps set-kinds.r set8.Post (λ κs s. s.0.now)
set8_unique κs a x y s t p q = both_fixed answer_of answer_once p q

set7_unique : FixesOutcome 1 set-kinds.ps set-kinds.r set7.Post (λ κs s. s.0.now)
set7_unique κs a x y s t p q = both_fixed answer_of answer_once p q
