-- Wrong answers that the promises shut out, two of each call, on P2's and P5's messages. Assumes nothing.
use Rattle.std.specs.Prelude.{Ok, Err}
use mathlib.Core.Path.{◌≡◌, refl, ap, ◌∙◌}
use mathlib.Core.List.{List, [], ◌∷◌, ◌++◌}
use Prim.Native.Nat.{ℕ}
use lib.ListN.{get_or}
use contract.Lifetimes.{Lfts}
use denote.Triple.Clauses.{AtExit}
use borrow.Fn.Kinds.{Dens, res_t, ended_of}
use Rattle.refusal.specs.Answer.{Answer, Verdict}
use Rattle.refusal.specs.declared.Refusal.TheVariants.{End, Group}
use Rattle.refusal.specs.Tight.{ShutOut}
use Rattle.refusal.proofs.Tight.{differ, told}
use Rattle.ump.specs.Word.{octets}
use Rattle.ump.specs.Packet.{sysex8, size_of, payload_at, joined, payload}
use Rattle.ump.specs.Packing.{status_for}
use Rattle.ump.specs.Check.{first_where, bad_type, bad_status, bad_count, bad_group, bad_id, status_number, check_packets, check, Summary, checked}
use Rattle.ump.specs.Setters.{get_byte, copy_payload, packet_of, byte_in, store_byte, set_byte, on_heads, set_group, set_id}
use Rattle.ump.specs.Samples.{alone, message2, message5}
use Rattle.message.proofs.sysex8.check.Kinds as check8-kinds
use Rattle.message.proofs.sysex8.check.Reads as check8
use Rattle.message.proofs.sysex7.check.Kinds as check7-kinds
use Rattle.message.proofs.sysex7.check.Reads as check7
use Rattle.message.proofs.sysex8.byte.Kinds as byte-kinds
use Rattle.message.proofs.sysex8.byte.Reads as byte
use Rattle.message.proofs.sysex8.payload.Kinds as payload-kinds
use Rattle.message.proofs.sysex8.payload.Reads as payload-promise
use Rattle.message.proofs.sysex8.set_group.Kinds as group-kinds
use Rattle.message.proofs.sysex8.set_group.Reads as group
use Rattle.message.proofs.sysex8.set_stream_id.Kinds as id-kinds
use Rattle.message.proofs.sysex8.set_stream_id.Reads as id
use Rattle.message.proofs.sysex8.set_byte.Kinds as set-kinds
use Rattle.message.proofs.sysex8.set_byte.Reads as set

abbrev size_in : Answer Summary → ℕ
size_in = told (λ (m : Summary). m.size)

-- ---- the check

-- P2: the count is not the payload size
check8_count : ShutOut 1 check8-kinds.ps check8-kinds.r check8.Post
    (λ κs a x s. (a.0.now ≡ message2) × (a.1.0 ≡ 4) × (x ≡ Ok (record { group = 2; id = 7; size = 3; words = 4 })))
unfolding checked check check_packets bad_type bad_status bad_count bad_group bad_id status_number first_where status_for payload payload_at size_of octets joined
check8_count κs a x s w p = differ size_in tt (rw (w.0, w.1, w.2) at p)

-- a start alone is refused Complete, not End
check8_alone : ShutOut 1 check8-kinds.ps check8-kinds.r check8.Post
    (λ κs a x s. (a.0.now ≡ alone 0x50110000) × (a.1.0 ≡ 4) × (x ≡ Err (record { refusal = End; place = 0 })))
unfolding checked check check_packets bad_type bad_status bad_count bad_group bad_id status_number first_where status_for payload payload_at size_of octets joined
check8_alone κs a x s w p = differ size_in tt (rw (w.0, w.1, w.2) at p)

-- SysEx7: the count is the payload size, with nothing added
check7_count : ShutOut 1 check7-kinds.ps check7-kinds.r check7.Post
    (λ κs a x s. (a.0.now ≡ 0x3002C142 ∷ 0 ∷ []) × (a.1.0 ≡ 2) × (x ≡ Ok (record { group = 0; size = 3; words = 2 })))
unfolding checked check check_packets bad_type bad_status bad_count bad_group bad_id status_number first_where status_for payload payload_at size_of octets joined
check7_count κs a x s w p = differ size_in tt (rw (w.0, w.1, w.2) at p)

-- the first packet that differs is named, not the first of all
check7_place : ShutOut 1 check7-kinds.ps check7-kinds.r check7.Post
    (λ κs a x s. (a.0.now ≡ 0x30100000 ∷ 0 ∷ 0x31300000 ∷ 0 ∷ []) × (a.1.0 ≡ 4) × (x ≡ Err (record { refusal = Group; place = 0 })))
unfolding checked check check_packets bad_type bad_status bad_count bad_group bad_id status_number first_where status_for payload payload_at size_of octets joined
check7_place κs a x s w p = differ size_in tt (rw (w.0, w.1, w.2) at p)

-- ---- a payload byte of P5's message

abbrev Byte : ℕ → ℕ → (κs : Lfts 1) → Dens κs byte-kinds.ps → (res_t byte-kinds.r κs).Denot → AtExit (ended_of 1 byte-kinds.ps byte-kinds.r) κs → Type 0
Byte index value κs a x s = (a.0.now ≡ message5) × (a.1.0 ≡ 12) × (a.1.1.0 ≡ index) × (x ≡ Ok value)

-- the stream id is no byte; the empty packet is passed
byte_id : ShutOut 1 byte-kinds.ps byte-kinds.r byte.Post (Byte 0 0x05)
unfolding get_byte check check_packets bad_type bad_status bad_count bad_group bad_id status_number first_where status_for payload payload_at size_of octets joined
byte_id κs a x s w p = differ (told (λ v. v)) tt (rw (w.0, w.1, w.2, w.3) at p)

byte_empty : ShutOut 1 byte-kinds.ps byte-kinds.r byte.Post (Byte 2 0)
unfolding get_byte check check_packets bad_type bad_status bad_count bad_group bad_id status_number first_where status_for payload payload_at size_of octets joined
byte_empty κs a x s w p = differ (told (λ v. v)) tt (rw (w.0, w.1, w.2, w.3) at p)

-- ---- the payload of P5's message

-- taken where the bytes lent are too few
payload_room : ShutOut 2 payload-kinds.ps payload-kinds.r payload-promise.Post
    (λ κs a x s. (a.0.now ≡ message5) × (a.1.0 ≡ 12) × (a.1.1.0.now ≡ 0 ∷ 0 ∷ []) × (x ≡ Ok 3))
unfolding copy_payload check check_packets bad_type bad_status bad_count bad_group bad_id status_number first_where status_for payload payload_at size_of octets joined
payload_room κs a x s w p = differ (λ (o : Answer ℕ × List ℕ). told (λ v. v) o.0) tt (rw (w.0, w.1, w.2, w.3) at p)

-- a byte past it is written
payload_past : ShutOut 2 payload-kinds.ps payload-kinds.r payload-promise.Post
    (λ κs a x s. (a.0.now ≡ message5) × (a.1.0 ≡ 12) × (a.1.1.0.now ≡ 9 ∷ 9 ∷ 9 ∷ 9 ∷ []) × (s.1.1.0.now ≡ 0xA0 ∷ 0xA1 ∷ 0xA2 ∷ 0 ∷ []))
unfolding copy_payload check check_packets bad_type bad_status bad_count bad_group bad_id status_number first_where status_for payload payload_at size_of octets joined
payload_past κs a x s w p = differ (λ (o : Answer ℕ × List ℕ). get_or o.1 3 0) tt (rw (w.0, w.1, w.2, w.3) at p)

-- ---- the setters on P5's message: word k is left as it was, or changed into something else

abbrev word_in : ℕ → Verdict × List ℕ → ℕ
word_in k outcome = get_or outcome.1 k 0

-- only the first packet's group is set
group_first : ShutOut 1 group-kinds.ps group-kinds.r group.Post
    (λ κs a x s. (a.0.now ≡ message5) × (a.1.0 ≡ 12) × (a.1.1.0 ≡ 2)
    × (s.0.now ≡ 0x521305A0 ∷ 0xA1000000 ∷ 0 ∷ 0 ∷ (alone 0x51210500 ++ alone 0x513205A2)))
unfolding set_group on_heads check check_packets bad_type bad_status bad_count bad_group bad_id status_number first_where status_for
group_first κs a x s w p = differ (word_in 4) tt (rw (w.0, w.1, w.2, w.3) at p)

group_left : ShutOut 1 group-kinds.ps group-kinds.r group.Post
    (λ κs a x s. (a.0.now ≡ message5) × (a.1.0 ≡ 12) × (a.1.1.0 ≡ 2) × (s.0.now ≡ message5))
unfolding set_group on_heads check check_packets bad_type bad_status bad_count bad_group bad_id status_number first_where status_for
group_left κs a x s w p = differ (word_in 0) tt (rw (w.0, w.1, w.2, w.3) at p)

-- group 16 is refused, but was stored first
group_refused : ShutOut 1 group-kinds.ps group-kinds.r group.Post
    (λ κs a x s. (a.0.now ≡ message5) × (a.1.0 ≡ 12) × (a.1.1.0 ≡ 16)
    × (s.0.now ≡ 0x501305A0 ∷ 0xA1000000 ∷ 0 ∷ 0 ∷ (alone 0x50210500 ++ alone 0x503205A2)))
unfolding set_group on_heads check check_packets bad_type bad_status bad_count bad_group bad_id status_number first_where status_for
group_refused κs a x s w p = differ (word_in 0) tt (rw (w.0, w.1, w.2, w.3) at p)

-- the id is stored in octet 3, which is a payload byte (D1)
id_in_data : ShutOut 1 id-kinds.ps id-kinds.r id.Post
    (λ κs a x s. (a.0.now ≡ message5) × (a.1.0 ≡ 12) × (a.1.1.0 ≡ 7)
    × (s.0.now ≡ 0x51130507 ∷ 0xA1000000 ∷ 0 ∷ 0 ∷ (alone 0x51210507 ++ alone 0x51320507)))
unfolding set_id on_heads check check_packets bad_type bad_status bad_count bad_group bad_id status_number first_where status_for
id_in_data κs a x s w p = differ (word_in 0) tt (rw (w.0, w.1, w.2, w.3) at p)

id_first : ShutOut 1 id-kinds.ps id-kinds.r id.Post
    (λ κs a x s. (a.0.now ≡ message5) × (a.1.0 ≡ 12) × (a.1.1.0 ≡ 7)
    × (s.0.now ≡ 0x511307A0 ∷ 0xA1000000 ∷ 0 ∷ 0 ∷ (alone 0x51210500 ++ alone 0x513205A2)))
unfolding set_id on_heads check check_packets bad_type bad_status bad_count bad_group bad_id status_number first_where status_for
id_first κs a x s w p = differ (word_in 4) tt (rw (w.0, w.1, w.2, w.3) at p)

-- byte 2 set: the first packet's word stays, the last packet's has it
set_stays : word_in 1 (set_byte sysex8 message5 12 2 0xEE) ≡ 0xA1000000
unfolding set_byte store_byte packet_of byte_in check check_packets bad_type bad_status bad_count bad_group bad_id status_number first_where status_for payload payload_at size_of octets joined
set_stays = refl

set_there : word_in 8 (set_byte sysex8 message5 12 2 0xEE) ≡ 0x513205EE
unfolding set_byte store_byte packet_of byte_in check check_packets bad_type bad_status bad_count bad_group bad_id status_number first_where status_for payload payload_at size_of octets joined
set_there = refl

-- byte 2, of the last packet, is set in the first packet, or is left
set_in_first : ShutOut 1 set-kinds.ps set-kinds.r set.Post
    (λ κs a x s. (a.0.now ≡ message5) × (a.1.0 ≡ 12) × (a.1.1.0 ≡ 2) × (a.1.1.1.0 ≡ 0xEE)
    × (s.0.now ≡ 0x511305A0 ∷ 0xA1EE0000 ∷ 0 ∷ 0 ∷ (alone 0x51210500 ++ alone 0x513205A2)))
set_in_first κs a x s w p = differ (λ n. n) tt (ap (word_in 1) (rw (w.0, w.1, w.2, w.3, w.4) at p) ∙ set_stays)

set_left : ShutOut 1 set-kinds.ps set-kinds.r set.Post
    (λ κs a x s. (a.0.now ≡ message5) × (a.1.0 ≡ 12) × (a.1.1.0 ≡ 2) × (a.1.1.1.0 ≡ 0xEE) × (s.0.now ≡ message5))
set_left κs a x s w p = differ (λ n. n) tt (ap (word_in 8) (rw (w.0, w.1, w.2, w.3, w.4) at p) ∙ set_there)
