-- Wrong answers that the promises shut out, two of each call or more. Assumes nothing.
use Rattle.std.specs.Prelude.{Ok, Err}
use mathlib.Core.Path.{◌≡◌}
use mathlib.Core.Bool.{true, false}
use mathlib.Core.List.{List, [], ◌∷◌}
use Prim.Native.Nat.{ℕ}
use contract.Lifetimes.{Lfts}
use denote.Triple.Clauses.{AtExit}
use lib.ListN.{get_or}
use borrow.Fn.Kinds.{Dens, res_t, ended_of}
use Rattle.refusal.specs.Answer.{Answer, Verdict}
use Rattle.refusal.specs.Tight.{ShutOut}
use Rattle.refusal.specs.declared.Refusal.TheVariants.{Status}
use Rattle.refusal.proofs.Tight.{differ, told}
use Rattle.ump.specs.Word.{octets}
use Rattle.ump.specs.Packet.{size_of}
use Rattle.ump.specs.Check.{bad_type, bad_count}
use Rattle.ump.specs.Single.{Kind, complete, start, continue, end, unexpected_end, Packet, blank, read_packet8, read_packet7, packet_byte, set_packet_group}
use Rattle.ump.specs.Samples.{alone, message2}
use Rattle.packet.specs.declared.Earlier.TheVariants.{Invalid}
use Rattle.packet.specs.declared.Kind.TheVariants.{Complete, End, UnexpectedEnd}
use Rattle.packet.proofs.sysex8.read_packet.Kinds as read8-kinds
use Rattle.packet.proofs.sysex8.read_packet.Reads as read8
use Rattle.packet.proofs.sysex7.read_packet.Kinds as read7-kinds
use Rattle.packet.proofs.sysex7.read_packet.Reads as read7
use Rattle.packet.proofs.sysex8.byte.Kinds as byte-kinds
use Rattle.packet.proofs.sysex8.byte.Reads as byte8
use Rattle.packet.proofs.sysex7.byte.Reads as byte7
use Rattle.packet.proofs.sysex8.set_group.Kinds as set-kinds
use Rattle.packet.proofs.sysex8.set_group.Reads as set8
use Rattle.packet.proofs.sysex7.set_group.Reads as set7

abbrev message11 : List ℕ
message11 = 0x3002C142 ∷ 0 ∷ []

-- ---- reading a packet

abbrev size_in : Answer Packet → ℕ
size_in = told (λ (p : Packet). p.size)

abbrev kind_number : Kind → ℕ
kind_number complete = 0
kind_number start = 1
kind_number continue = 2
kind_number end = 3
kind_number (unexpected_end false) = 4
kind_number (unexpected_end true) = 5

abbrev kind_in : Answer Packet → ℕ
kind_in = told (λ (p : Packet). kind_number p.kind)

-- P2: the count is not the payload size
read8_count : ShutOut 1 read8-kinds.ps read8-kinds.r read8.Post
    (λ κs a x s. (a.0.now ≡ message2) × (x ≡ Ok (record { kind = Complete; group = 2; id = 7; size = 3 })))
unfolding read_packet8 bad_type bad_count blank octets size_of
read8_count κs a x s w p = differ size_in tt (rw (w.0, w.1) at p)

-- P10: an end with a dirty octet is refused Count at count 15, and is no unexpected end
read8_dirty : ShutOut 1 read8-kinds.ps read8-kinds.r read8.Post
    (λ κs a x s. (a.0.now ≡ alone 0x503F0901) × (x ≡ Ok (record { kind = UnexpectedEnd Invalid; group = 0; id = 9; size = 0 })))
unfolding read_packet8 bad_type bad_count blank octets size_of
read8_dirty κs a x s w p = differ size_in tt (rw (w.0, w.1) at p)

-- an end of zeros with count 1 is unexpected with valid data before it: it is no plain end, and its data is not invalid
read8_plain : ShutOut 1 read8-kinds.ps read8-kinds.r read8.Post
    (λ κs a x s. (a.0.now ≡ alone 0x50310900) × (x ≡ Ok (record { kind = End; group = 0; id = 9; size = 0 })))
unfolding read_packet8 bad_type bad_count blank octets size_of
read8_plain κs a x s w p = differ kind_in tt (rw (w.0, w.1) at p)

read8_invalid : ShutOut 1 read8-kinds.ps read8-kinds.r read8.Post
    (λ κs a x s. (a.0.now ≡ alone 0x50310900) × (x ≡ Ok (record { kind = UnexpectedEnd Invalid; group = 0; id = 9; size = 0 })))
unfolding read_packet8 bad_type bad_count blank octets size_of
read8_invalid κs a x s w p = differ kind_in tt (rw (w.0, w.1) at p)

-- P11: the count is the payload size
read7_count : ShutOut 1 read7-kinds.ps read7-kinds.r read7.Post
    (λ κs a x s. (a.0.now ≡ message11) × (x ≡ Ok (record { kind = Complete; group = 0; size = 3 })))
unfolding read_packet7 bad_type bad_count size_of
read7_count κs a x s w p = differ size_in tt (rw (w.0, w.1) at p)

-- P11: Count comes before Status
read7_order : ShutOut 1 read7-kinds.ps read7-kinds.r read7.Post
    (λ κs a x s. (a.0.now ≡ 0x30F90000 ∷ 0 ∷ []) × (x ≡ Err (record { refusal = Status; place = 0 })))
unfolding read_packet7 bad_type bad_count size_of
read7_order κs a x s w p = differ size_in tt (rw (w.0, w.1) at p)

-- ---- a payload byte

-- such a byte of such words at such an index
abbrev Byte : List ℕ → ℕ → ℕ → (κs : Lfts 1) → Dens κs byte-kinds.ps → (res_t byte-kinds.r κs).Denot → AtExit (ended_of 1 byte-kinds.ps byte-kinds.r) κs → Type 0
Byte words index value κs a x s = (a.0.now ≡ words) × (a.1.0 ≡ index) × (x ≡ Ok value)

-- P2 at 0: the octet before the payload is the stream id; at 2 there is no byte
byte8_id : ShutOut 1 byte-kinds.ps byte-kinds.r byte8.Post (Byte message2 0 7)
unfolding read_packet8 bad_type bad_count blank octets size_of packet_byte
byte8_id κs a x s w p = differ (told (λ (v : ℕ). v)) tt (rw (w.0, w.1, w.2) at p)

byte8_past : ShutOut 1 byte-kinds.ps byte-kinds.r byte8.Post (Byte message2 2 0)
unfolding read_packet8 bad_type bad_count blank octets size_of packet_byte
byte8_past κs a x s w p = differ (told (λ (v : ℕ). v)) tt (rw (w.0, w.1, w.2) at p)

-- P11 at 0: the top bit is no part of the byte; at 2 there is no byte
byte7_top : ShutOut 1 byte-kinds.ps byte-kinds.r byte7.Post (Byte message11 0 0xC1)
unfolding read_packet7 bad_type bad_count size_of packet_byte
byte7_top κs a x s w p = differ (told (λ (v : ℕ). v)) tt (rw (w.0, w.1, w.2) at p)

byte7_past : ShutOut 1 byte-kinds.ps byte-kinds.r byte7.Post (Byte message11 2 0)
unfolding read_packet7 bad_type bad_count size_of packet_byte
byte7_past κs a x s w p = differ (told (λ (v : ℕ). v)) tt (rw (w.0, w.1, w.2) at p)

-- ---- setting the group to 5

-- such words before, and such words after, whatever the answer
abbrev Words : List ℕ → List ℕ → (κs : Lfts 1) → Dens κs set-kinds.ps → (res_t set-kinds.r κs).Denot → AtExit (ended_of 1 set-kinds.ps set-kinds.r) κs → Type 0
Words before after κs a x s = (a.0.now ≡ before) × (a.1.0 ≡ 5) × (s.0.now ≡ after)

abbrev first_word : Verdict × List ℕ → ℕ
first_word outcome = get_or outcome.1 0 0

-- the words are left, or octet 1 changes
set8_left : ShutOut 1 set-kinds.ps set-kinds.r set8.Post (Words message2 message2)
unfolding read_packet8 bad_type bad_count blank octets size_of set_packet_group
set8_left κs a x s w p = differ first_word tt (rw (w.0, w.1, w.2) at p)

set8_octet : ShutOut 1 set-kinds.ps set-kinds.r set8.Post (Words message2 (0x55530741 ∷ 0x42000000 ∷ 0 ∷ 0 ∷ []))
unfolding read_packet8 bad_type bad_count blank octets size_of set_packet_group
set8_octet κs a x s w p = differ first_word tt (rw (w.0, w.1, w.2) at p)

set7_left : ShutOut 1 set-kinds.ps set-kinds.r set7.Post (Words message11 message11)
unfolding read_packet7 bad_type bad_count size_of set_packet_group
set7_left κs a x s w p = differ first_word tt (rw (w.0, w.1, w.2) at p)

set7_octet : ShutOut 1 set-kinds.ps set-kinds.r set7.Post (Words message11 (0x3552C142 ∷ 0 ∷ []))
unfolding read_packet7 bad_type bad_count size_of set_packet_group
set7_octet κs a x s w p = differ first_word tt (rw (w.0, w.1, w.2) at p)
