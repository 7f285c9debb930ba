-- Any two outcomes that a promise allows are equal: the answer, and all that is lent after a call that writes. Assumes nothing.
use mathlib.Core.Path.{sym, ◌∙◌}
use Rattle.refusal.specs.Tight.{FixesResult, FixesOutcome}
use Rattle.refusal.proofs.Tight.{both_fixed}
use Rattle.message.proofs.Once.{checked8_once, checked7_once}
use Rattle.message.proofs.sysex8.check.Kinds as check8-kinds
use Rattle.message.proofs.sysex8.check.Reads as check8
use Rattle.message.proofs.sysex7.check.Kinds as check7-kinds
use Rattle.message.proofs.sysex7.check.Reads as check7
use Rattle.message.proofs.sysex8.byte.Kinds as byte-kinds
use Rattle.message.proofs.sysex8.byte.Reads as byte
use Rattle.message.proofs.sysex8.payload.Kinds as payload-kinds
use Rattle.message.proofs.sysex8.payload.Reads as payload
use Rattle.message.proofs.sysex8.set_group.Kinds as group-kinds
use Rattle.message.proofs.sysex8.set_group.Reads as group
use Rattle.message.proofs.sysex8.set_stream_id.Kinds as id-kinds
use Rattle.message.proofs.sysex8.set_stream_id.Reads as id
use Rattle.message.proofs.sysex8.set_byte.Kinds as set-kinds
use Rattle.message.proofs.sysex8.set_byte.Reads as set
use Rattle.refusal.specs.Meaning.{answer_of}
use Rattle.refusal.proofs.Laws.{answer_once}

check8_unique : FixesResult 1 check8-kinds.ps check8-kinds.r check8.Post
check8_unique κs a x y s t p q = checked8_once x y (p ∙ sym q)

check7_unique : FixesResult 1 check7-kinds.ps check7-kinds.r check7.Post
check7_unique κs a x y s t p q = checked7_once x y (p ∙ sym q)

byte_unique : FixesResult 1 byte-kinds.ps byte-kinds.r byte.Post
byte_unique κs a x y s t p q = answer_once x y (p ∙ sym q)

payload_unique : FixesOutcome 2 payload-kinds.ps payload-kinds.r payload.Post (λ κs s. s.1.1.0.now)
payload_unique κs a x y s t p q = both_fixed answer_of answer_once p q

group_unique : FixesOutcome 1 group-kinds.ps group-kinds.r group.Post (λ κs s. s.0.now)
group_unique κs a x y s t p q = both_fixed answer_of answer_once p q

id_unique : FixesOutcome 1 id-kinds.ps id-kinds.r id.Post (λ κs s. s.0.now)
id_unique κs a x y s t p q = both_fixed answer_of answer_once p q

set_unique : FixesOutcome 1 set-kinds.ps set-kinds.r set.Post (λ κs s. s.0.now)
set_unique κs a x y s t p q = both_fixed answer_of answer_once p q
