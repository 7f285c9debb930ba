-- Wrong structs that the promises shut out, two of each kind of struct, each on a concrete input. What else is wrong is shut out by the
-- promise of the wrapped call, of which an exported call answers the struct. Assumes nothing.
use mathlib.Core.Path.{◌≡◌, refl, sym, ap, ◌∙◌}
use mathlib.Core.Bool.{Bool, true, false, not, cond}
use mathlib.Core.List.{List, [], ◌∷◌, ◌++◌}
use Prim.Native.Nat.{ℕ, ◌+◌, ◌*◌}
use lib.Dec.{T, eqb}
use lib.IntN.{ℤ, pos, negsuc}
use lib.ListN.{get_or, replicate}
use Rattle.refusal.specs.Tight.{ShutOut, Shuts}
use Rattle.refusal.proofs.Tight.{differ}
use Rattle.ump.specs.Word.{get_field, octets, words_of}
use Rattle.ump.specs.Packet.{sysex8, size_of, payload_at, joined, payload}
use Rattle.ump.specs.Packing.{status_for, frame, packs_at, packs, packets_for, pack}
use Rattle.ump.specs.Single.{read_packet8, blank}
use Rattle.ump.specs.Check.{first_where, bad_type, bad_status, bad_count, bad_group, bad_id, status_number, check_packets, check, checked}
use Rattle.ump.specs.Splice.{stored, rewritten, splice}
use Rattle.ump.specs.Edits.{move_edit, edits_from, replaced}
use Rattle.ump.specs.Runs.{run_from}
use Rattle.ump.specs.Origin.{origin_of, origin_in, origin}
use Rattle.ump.specs.Reader.{row, walk, places, unread, nth, reader}
use Rattle.ump.specs.Samples.{alone, message2, message5, bytes6}
use Rattle.edit.specs.Growth.{growth_of}
use Rattle.carries.specs.Carries.{other_bytes, carries}
use Rattle.carries.proofs.Calls.{ask_given}
use Rattle.look.specs.Look.{find}
use Rattle.ports.specs.Streams.{arrived}
use Rattle.ports.specs.Table as ports
use Rattle.ports.specs.Samples.{one_stream, words64}
use Rattle.ports.proofs.Calls.{clear_given, receive_given}
use Rattle.store.specs.Store.{is_data, body_size, records_after, follows_by, allowed_by, well_formed, data_in, patches_in, dump_of, dumps_in, twice, sound, held}
use Rattle.store.specs.Samples as store
use Rattle.chain.specs.Restore.{roomed, outside, rebuilt, restored, sizes, described, describe}
use Rattle.reclaim.specs.Reclaim.{bytes_in, marked_kind, marked_in, mark, wanted_in, walked, reaches, kept_in, collected, collect}
use Rattle.reclaim.specs.Samples.{gone, one_gone}
use Rattle.answers.specs.Answers.{dump_answer}
use Rattle.answers.specs.declared.NumberAnswer.{NumberAnswer}
use Rattle.answers.specs.declared.PacketAnswer.{PacketAnswer}
use Rattle.answers.specs.declared.MessageAnswer.{MessageAnswer}
use Rattle.answers.specs.declared.ChangeAnswer.{ChangeAnswer}
use Rattle.answers.specs.declared.GrowthAnswer.{GrowthAnswer}
use Rattle.answers.specs.declared.RangeAnswer.{RangeAnswer}
use Rattle.answers.specs.declared.OriginAnswer.{OriginAnswer}
use Rattle.answers.specs.declared.RunAnswer.{RunAnswer}
use Rattle.answers.specs.declared.ReceivedAnswer.{ReceivedAnswer}
use Rattle.answers.specs.declared.CursorAnswer.{CursorAnswer}
use Rattle.answers.specs.declared.ReadAnswer.{ReadAnswer}
use Rattle.answers.specs.declared.DumpAnswer.{DumpAnswer}
use Rattle.answers.specs.Answers.{done_answer, received_answer}
use Rattle.latchbeacon.proofs.fields.latchbeacon_bit.Reads as bit
use Rattle.latchbeacon.proofs.packets.latchbeacon_sysex8_packet.Kinds as packet-kinds
use Rattle.latchbeacon.proofs.packets.latchbeacon_sysex8_packet.Reads as packet
use Rattle.latchbeacon.proofs.messages.latchbeacon_sysex8_check.Kinds as check-kinds
use Rattle.latchbeacon.proofs.messages.latchbeacon_sysex8_check.Reads as check-promise
use Rattle.latchbeacon.proofs.messages.latchbeacon_sysex8_carries.Kinds as carries-kinds
use Rattle.latchbeacon.proofs.messages.latchbeacon_sysex8_carries.Reads as carries-promise
use Rattle.latchbeacon.proofs.splices.latchbeacon_sysex8_splice.Kinds as splice-kinds
use Rattle.latchbeacon.proofs.splices.latchbeacon_sysex8_splice.Reads as splice-promise
use Rattle.latchbeacon.proofs.splices.latchbeacon_sysex8_origin.Kinds as origin-kinds
use Rattle.latchbeacon.proofs.splices.latchbeacon_sysex8_origin.Reads as origin-promise
use Rattle.latchbeacon.proofs.looks.latchbeacon_look_run.Reads as look-run
use Rattle.latchbeacon.proofs.edits.latchbeacon_growth.Reads as growth
use Rattle.latchbeacon.proofs.edits.latchbeacon_move_edit.Reads as move
use Rattle.latchbeacon.proofs.cursors.latchbeacon_sysex8_open.Kinds as open-kinds
use Rattle.latchbeacon.proofs.cursors.latchbeacon_sysex8_open.Reads as opened
use Rattle.latchbeacon.proofs.cursors.latchbeacon_sysex8_next.Kinds as next-kinds
use Rattle.latchbeacon.proofs.cursors.latchbeacon_sysex8_next.Reads as next
use Rattle.latchbeacon.proofs.chains.latchbeacon_store_describe.Kinds as describe-kinds
use Rattle.latchbeacon.proofs.chains.latchbeacon_store_describe.Reads as describe-promise
use Rattle.latchbeacon.proofs.chains.latchbeacon_store_mark.Kinds as mark-kinds
use Rattle.latchbeacon.proofs.chains.latchbeacon_store_mark.Reads as mark-promise
use Rattle.latchbeacon.proofs.chains.latchbeacon_store_collect.Kinds as collect-kinds
use Rattle.latchbeacon.proofs.chains.latchbeacon_store_collect.Reads as collect-promise
use Rattle.latchbeacon.proofs.receiving.latchbeacon_ports_clear.Kinds as clear-kinds
use Rattle.latchbeacon.proofs.receiving.latchbeacon_ports_clear.Reads as clear-promise
use Rattle.latchbeacon.proofs.receiving.latchbeacon_ports_receive.Kinds as receive-kinds
use Rattle.latchbeacon.proofs.receiving.latchbeacon_ports_receive.Reads as receive-promise

abbrev signed : ℤ → ℕ
signed (pos n) = 2 * n
signed (negsuc n) = 2 * n + 1

-- ---- a number: bit 32 of a word of ones

-- a refused call does not say that it is accepted
bit_accepted : Shuts bit.Post (0xFFFFFFFF, (32, tt)) (record { refusal = 0; place = 0; value = 0 })
unfolding get_field
bit_accepted κs s p = differ (λ (r : NumberAnswer). r.refusal) tt p

-- and answers no value
bit_value : Shuts bit.Post (0xFFFFFFFF, (32, tt)) (record { refusal = 16; place = 0; value = 1 })
unfolding get_field
bit_value κs s p = differ (λ (r : NumberAnswer). r.value) tt p

-- ---- a packet: the ends of P10

-- earlier data that is invalid is not valid
packet_valid : ShutOut 1 packet-kinds.ps packet-kinds.r packet.Post
    (λ κs a x s. (a.0.now ≡ alone 0x503F0900) × (x ≡ record { refusal = 0; place = 0; kind = 4; group = 0; id = 9; size = 0 }))
unfolding read_packet8 blank size_of bad_type bad_count octets
packet_valid κs a x s w p = differ (λ (r : PacketAnswer). r.kind) tt (rw (w.0, w.1) at p)

-- an end with one byte is no unexpected end
packet_end : ShutOut 1 packet-kinds.ps packet-kinds.r packet.Post
    (λ κs a x s. (a.0.now ≡ alone 0x50320900) × (x ≡ record { refusal = 0; place = 0; kind = 4; group = 0; id = 9; size = 1 }))
unfolding read_packet8 blank size_of bad_type bad_count octets
packet_end κs a x s w p = differ (λ (r : PacketAnswer). r.kind) tt (rw (w.0, w.1) at p)

-- ---- a message: P2's, and a start alone

-- the stream id is not left out
check_id : ShutOut 1 check-kinds.ps check-kinds.r check-promise.Post
    (λ κs a x s. (a.0.now ≡ message2) × (a.1.0 ≡ 4) × (x ≡ record { refusal = 0; place = 0; group = 2; id = 0; size = 2; words = 4 }))
unfolding checked check check_packets bad_type bad_status bad_count bad_group bad_id status_number first_where status_for payload payload_at size_of octets joined
check_id κs a x s w p = differ (λ (r : MessageAnswer). r.id) tt (rw (w.0, w.1, w.2) at p)

-- a refused message has no words
check-words : ShutOut 1 check-kinds.ps check-kinds.r check-promise.Post
    (λ κs a x s. (a.0.now ≡ alone 0x50110000) × (a.1.0 ≡ 4) × (x ≡ record { refusal = 6; place = 0; group = 0; id = 0; size = 0; words = 4 }))
unfolding checked check check_packets bad_type bad_status bad_count bad_group bad_id status_number first_where status_for payload payload_at size_of octets joined
check-words κs a x s w p = differ (λ (r : MessageAnswer). r.words) tt (rw (w.0, w.1, w.2) at p)

-- ---- a yes or no: P5's message, which carries A0 A1 A2, asked for A0 A1 B2

abbrev asked : List ℕ
asked = 0xA0 ∷ 0xA1 ∷ 0xB2 ∷ []

abbrev NotSaid : NumberAnswer → Type 0
NotSaid wrong = ShutOut 2 carries-kinds.ps carries-kinds.r carries-promise.Post (λ κs a x s. ask_given message5 12 asked 1 (0x05 ∷ []) κs a × (x ≡ wrong))

not_said : (f : NumberAnswer → ℕ) (wrong : NumberAnswer) → T (not (eqb (f wrong) (f (done_answer (carries sysex8 message5 12 asked 1 (0x05 ∷ [])))))) → NotSaid wrong
not_said f wrong t κs a x s w p = let g = w.0 in differ f t (rw (g.0, g.1, g.2, g.3, g.4, w.1) at p)

-- a no is not said to be a yes
carries_yes : NotSaid (record { refusal = 0; place = 0; value = 0 })
unfolding carries other_bytes check check_packets bad_type bad_status bad_count bad_group bad_id status_number first_where status_for payload payload_at size_of octets joined
carries_yes = not_said (λ r. r.refusal) _ tt

-- the place is a word index, not the number of a packet
carries_place : NotSaid (record { refusal = 26; place = 2; value = 0 })
unfolding carries other_bytes check check_packets bad_type bad_status bad_count bad_group bad_id status_number first_where status_for payload payload_at size_of octets joined
carries_place = not_said (λ r. r.place) _ tt

-- ---- a change: P2's message with its last byte taken out

abbrev shorter : List ℕ
shorter = 0x52020741 ∷ 0 ∷ 0 ∷ 0 ∷ []

-- the growth is below zero
change_growth : ShutOut 2 splice-kinds.ps splice-kinds.r splice-promise.Post
    (λ κs a x s. (a.0.now ≡ message2) × (a.1.0 ≡ 4) × (a.1.1.0 ≡ 1) × (a.1.1.1.0 ≡ 2) × (a.1.1.1.1.0.now ≡ [])
    × (x ≡ record { refusal = 0; place = 0; length = 4; growth = pos 1 }) × (s.0.now ≡ shorter))
unfolding splice check check_packets bad_type bad_status bad_count bad_group bad_id status_number first_where status_for payload payload_at size_of octets joined stored rewritten frame packs_at packs packets_for pack words_of
change_growth κs a x s w p =
    differ (λ (o : ChangeAnswer × List ℕ). signed o.0.growth) tt (rw (w.0, w.1, w.2, w.3, w.4, w.5, w.6) at p)

-- the words are not those that were lent
change_words : ShutOut 2 splice-kinds.ps splice-kinds.r splice-promise.Post
    (λ κs a x s. (a.0.now ≡ message2) × (a.1.0 ≡ 4) × (a.1.1.0 ≡ 1) × (a.1.1.1.0 ≡ 2) × (a.1.1.1.1.0.now ≡ [])
    × (x ≡ record { refusal = 0; place = 0; length = 4; growth = negsuc 0 }) × (s.0.now ≡ message2))
unfolding splice check check_packets bad_type bad_status bad_count bad_group bad_id status_number first_where status_for payload payload_at size_of octets joined stored rewritten frame packs_at packs packets_for pack words_of
change_words κs a x s w p =
    differ (λ (o : ChangeAnswer × List ℕ). get_or o.1 0 0) tt (rw (w.0, w.1, w.2, w.3, w.4, w.5, w.6) at p)

-- ---- the growth of an edit, and the range of one that is moved

growth_unsigned : Shuts growth.Post (2, (3, (0, tt))) (record { refusal = 0; place = 0; growth = pos 1 })
unfolding growth_of
growth_unsigned κs s p = differ (λ (r : GrowthAnswer). signed r.growth) tt p

growth_reversed : Shuts growth.Post (3, (2, (0, tt))) (record { refusal = 0; place = 0; growth = pos 1 })
unfolding growth_of
growth_reversed κs s p = differ (λ (r : GrowthAnswer). r.refusal) tt p

-- the done edit of P8 is first and grows: the pending one does not stay
range_unmoved : Shuts move.Post (0, (1, (2, (2, (3, (0, (true, tt))))))) (record { refusal = 0; place = 0; from = 2; to = 3 })
unfolding move_edit
range_unmoved κs s p = differ (λ (r : RangeAnswer). r.from) tt p

-- edits that overlap are refused 20, and no range is answered
range_overlap : Shuts move.Post (0, (3, (2, (2, (3, (0, (true, tt))))))) (record { refusal = 20; place = 0; from = 2; to = 3 })
unfolding move_edit
range_overlap κs s p = differ (λ (r : RangeAnswer). r.from) tt p

-- ---- where an octet comes from: P6's message, whose octet 19 is the last byte put in, and octet 20 byte 1 of the dump

-- a question for octet q of P2's message with 10..1C put in at 1, in eight words, answered so
abbrev OriginShut : ℕ → OriginAnswer → Type 0
OriginShut q answer =
    ShutOut 3 origin-kinds.ps origin-kinds.r origin-promise.Post
    (λ κs a x s. (a.0.now ≡ message2 ++ replicate 4 9) × (a.1.0 ≡ 4) × (a.1.1.0.now ≡ 1 ∷ 1 ∷ 13 ∷ []) × (a.1.1.1.0.now ≡ bytes6)
    × (a.1.1.1.1.0 ≡ q) × (x ≡ answer))

-- a byte of the edit has its place in the replacement and not in the packet
origin_place : OriginShut 19 (record { refusal = 0; place = 0; kind = 2; number = 0; index = 0 })
unfolding origin origin_in origin_of run_from edits_from replaced check check_packets bad_type bad_status bad_count bad_group bad_id status_number first_where status_for payload payload_at size_of octets joined packets_for
origin_place κs a x s w p = differ (λ (r : OriginAnswer). r.index) tt (rw (w.0, w.1, w.2, w.3, w.4, w.5) at p)

-- a byte of the dump has no number
origin_number : OriginShut 20 (record { refusal = 0; place = 0; kind = 1; number = 1; index = 1 })
unfolding origin origin_in origin_of run_from edits_from replaced check check_packets bad_type bad_status bad_count bad_group bad_id status_number first_where status_for payload payload_at size_of octets joined packets_for
origin_number κs a x s w p = differ (λ (r : OriginAnswer). r.number) tt (rw (w.0, w.1, w.2, w.3, w.4, w.5) at p)

-- ---- a run of five bytes with 1..3 by three: its source, its start, and that a refused one has none

run_source : Shuts look-run.Post (5, (1, (3, (3, (4, tt))))) (record { refusal = 0; place = 0; source = 0; start = 3; end = 5 })
unfolding find run_from
run_source κs s p = differ (λ (r : RunAnswer). r.source) tt p

run_start : Shuts look-run.Post (5, (1, (3, (3, (2, tt))))) (record { refusal = 0; place = 0; source = 1; start = 2; end = 3 })
unfolding find run_from
run_start κs s p = differ (λ (r : RunAnswer). r.start) tt p

run_refused : Shuts look-run.Post (5, (1, (3, (3, (6, tt))))) (record { refusal = 13; place = 0; source = 2; start = 5; end = 5 })
unfolding find run_from
run_refused κs s p = differ (λ (r : RunAnswer). r.end) tt p

-- ---- a cursor, and what it reads: P2's message

cursor_size : ShutOut 1 open-kinds.ps open-kinds.r opened.Post
    (λ κs a x s. (a.0.now ≡ message2) × (a.1.0 ≡ 4) × (x ≡ record { refusal = 0; place = 0; packet = 0; byte = 0; remaining = 3 }))
unfolding reader check check_packets bad_type bad_status bad_count bad_group bad_id status_number first_where status_for payload payload_at size_of octets joined
cursor_size κs a x s w p = differ (λ (r : CursorAnswer). r.remaining) tt (rw (w.0, w.1, w.2) at p)

cursor_refused : ShutOut 1 open-kinds.ps open-kinds.r opened.Post
    (λ κs a x s. (a.0.now ≡ alone 0x50110000) × (a.1.0 ≡ 4) × (x ≡ record { refusal = 0; place = 0; packet = 0; byte = 0; remaining = 0 }))
unfolding reader check check_packets bad_type bad_status bad_count bad_group bad_id status_number first_where status_for payload payload_at size_of octets joined
cursor_refused κs a x s w p = differ (λ (r : CursorAnswer). r.refusal) tt (rw (w.0, w.1, w.2) at p)

-- a byte that stands there is no end
read_ended : ShutOut 1 next-kinds.ps next-kinds.r next.Post
    (λ κs a x s. (a.0.now ≡ message2) × (a.1.0 ≡ 0) × (a.1.1.0 ≡ 1) × (a.1.1.1.0 ≡ 1)
    × (x ≡ record { ended = true; value = 0; packet = 0; byte = 1; remaining = 1 }))
unfolding nth unread places walk row size_of octets payload_at
read_ended κs a x s w p = differ (λ (r : ReadAnswer). cond r.ended 1 0) tt (rw (w.0, w.1, w.2, w.3, w.4) at p)

-- the end is no byte
read_on : ShutOut 1 next-kinds.ps next-kinds.r next.Post
    (λ κs a x s. (a.0.now ≡ message2) × (a.1.0 ≡ 0) × (a.1.1.0 ≡ 1) × (a.1.1.1.0 ≡ 0)
    × (x ≡ record { ended = false; value = 0x42; packet = 0; byte = 1; remaining = 0 }))
unfolding nth unread places walk row size_of octets payload_at
read_on κs a x s w p = differ (λ (r : ReadAnswer). cond r.ended 1 0) tt (rw (w.0, w.1, w.2, w.3, w.4) at p)

-- ---- a dump: dump 1 of 14 bytes, and dump 2 over it without the first two; a dump that is its own base

abbrev shortened : List ℕ
shortened = 0x01 ∷ 0 ∷ 1 ∷ 2 ∷ 7 ∷ 0x8D ∷ (replicate 13 0x41 ++ (0x81 ∷ 0x42 ∷ (store.bare 2 1 ++ store.edit 0 2)))

-- what is answered there
dump_words_other : eqb 4 (dump_answer (describe shortened 2)).words ≡ false
unfolding is_data body_size records_after follows_by allowed_by well_formed data_in patches_in dump_of dumps_in twice sound held roomed outside rebuilt restored sizes described describe replaced joined packets_for
dump_words_other = refl

dump_base_other : eqb 1 (dump_answer (describe (store.bare 1 1) 1)).base ≡ false
unfolding is_data body_size records_after follows_by allowed_by well_formed data_in patches_in dump_of dumps_in twice sound held roomed outside rebuilt restored sizes described describe replaced joined packets_for
dump_base_other = refl

other : {b : Bool} → b ≡ false → T (not b)
other e = rw e tt

-- the words are those that its base needs, and not its own alone
dump_words : ShutOut 1 describe-kinds.ps describe-kinds.r describe-promise.Post
    (λ κs a x s. (a.0.now ≡ shortened) × (a.1.0 ≡ 2)
    × (x ≡ record { refusal = 0; place = 0; delta = true; group = 2; id = 7; base = 1; size = 12; words = 4; steps = 1 }))
dump_words κs a x s w p = differ (λ (r : DumpAnswer). r.words) (other dump_words_other) (rw (w.0, w.1, w.2) at p)

-- a refused dump has no base
dump_base : ShutOut 1 describe-kinds.ps describe-kinds.r describe-promise.Post
    (λ κs a x s. (a.0.now ≡ store.bare 1 1) × (a.1.0 ≡ 1)
    × (x ≡ record { refusal = 25; place = 0; delta = false; group = 0; id = 0; base = 1; size = 0; words = 0; steps = 0 }))
dump_base κs a x s w p = differ (λ (r : DumpAnswer). r.base) (other dump_base_other) (rw (w.0, w.1, w.2) at p)

-- ---- a store: dump 1; an unwanted delta 2 before it

-- marking answers no value
mark_value : ShutOut 1 mark-kinds.ps mark-kinds.r mark-promise.Post
    (λ κs a x s. (a.0.now ≡ store.one) × (a.1.0 ≡ 1) × (x ≡ record { refusal = 0; place = 0; value = 1 }) × (s.0.now ≡ one_gone))
unfolding is_data body_size records_after follows_by allowed_by well_formed data_in patches_in dump_of dumps_in twice sound held bytes_in marked_kind marked_in mark
mark_value κs a x s w p = differ (λ (o : NumberAnswer × List ℕ). o.0.value) tt (rw (w.0, w.1, w.2, w.3) at p)

-- collecting answers the new length and not that of the bytes lent
collect-length : ShutOut 1 collect-kinds.ps collect-kinds.r collect-promise.Post
    (λ κs a x s. (a.0.now ≡ gone 2 1 ++ store.one) × (x ≡ record { refusal = 0; place = 0; value = 14 }) × (s.0.now ≡ store.one ++ replicate 5 0))
unfolding is_data body_size records_after follows_by allowed_by well_formed data_in patches_in dump_of dumps_in twice sound held bytes_in wanted_in walked reaches kept_in collected collect
collect-length κs a x s w p = differ (λ (o : NumberAnswer × List ℕ). o.0.value) tt (rw (w.0, w.1, w.2) at p)

-- ---- a received packet: one stream of port 0 is open

abbrev Received : List ℕ → ReceivedAnswer → Type 0
Received packet wrong =
    ShutOut 4 receive-kinds.ps receive-kinds.r receive-promise.Post (λ κs a x s. receive_given one_stream words64 0 packet (replicate 8 9) κs a × (x ≡ wrong))

received_wrong : (number : ReceivedAnswer → ℕ) (packet : List ℕ) (wrong : ReceivedAnswer)
    → T (not (eqb (number wrong) (number (received_answer (ports.receive one_stream words64 0 packet (replicate 8 9)).0)))) → Received packet wrong
received_wrong number packet wrong t κs a x s w p =
    let g = w.0 in
    differ number t (ap (λ (o : ReceivedAnswer × ports.Lent). o.0) (rw (g.0, g.1, g.2, g.3, g.4, w.1) at p))

-- a dropped stream is told from a packet that is kept
received_dropped : Received (0x503F0900 ∷ 0 ∷ 0 ∷ 0 ∷ []) (record { refusal = 0; place = 0; kind = 0; words = 0 })
unfolding ports.receive ports.accept arrived ports.stream_at ports.slot_of first_where ports.held_by ports.count ports.stored_at read_packet8 blank size_of bad_type bad_count octets
received_dropped = received_wrong (λ r. r.kind) _ _ tt

-- what is handed out is the stream's packets and the end, not the end alone
received_words : Received (0x50320944 ∷ 0 ∷ 0 ∷ 0 ∷ []) (record { refusal = 0; place = 0; kind = 2; words = 4 })
unfolding ports.receive ports.accept arrived ports.stream_at ports.slot_of first_where ports.held_by ports.count ports.stored_at read_packet8 blank size_of bad_type bad_count octets
received_words = received_wrong (λ r. r.words) _ _ tt

-- a cleared table has no key, and no length
abbrev Cleared : ℕ → ℕ → Type 0
Cleared k word = ShutOut 1 clear-kinds.ps clear-kinds.r clear-promise.Post (λ κs a x s. clear_given one_stream κs a × (get_or s.0.now k 0 ≡ word))

cleared_key : Cleared 0 0x10009
cleared_key κs a x s w p = differ (λ (n : ℕ). n) tt (sym w.1 ∙ ap (λ (table : List ℕ). get_or table 0 0) p)

cleared_length : Cleared 16 4
cleared_length κs a x s w p = differ (λ (n : ℕ). n) tt (sym w.1 ∙ ap (λ (table : List ℕ). get_or table 16 0) p)
