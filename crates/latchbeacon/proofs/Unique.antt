-- Any two outcomes that a promise allows are equal: the answer, and what is lent for writing as it is after the call. Assumes nothing.
use mathlib.Core.Path.{◌≡◌, refl, sym, ◌∙◌}
use Prim.Native.Nat.{ℕ}
use contract.Lifetimes.{Lfts}
use denote.Triple.Clauses.{AtExit}
use borrow.Fn.Kinds.{ended_of}
use Rattle.refusal.specs.Tight.{FixesResult, FixesOutcome}
use Rattle.refusal.proofs.Tight.{both_fixed}
use Rattle.ump.specs.Packet.{sysex8}
use Rattle.ump.specs.Withdrawn.{words_before}
use Rattle.ump.proofs.Withdrawn.{words_as_before}
use Rattle.ports.specs.Table.{Lent}
use Rattle.latchbeacon.proofs.fields.latchbeacon_bit.Kinds as bit-kinds
use Rattle.latchbeacon.proofs.fields.latchbeacon_bit.Reads as bit
use Rattle.latchbeacon.proofs.fields.latchbeacon_set_bit.Kinds as set-bit-kinds
use Rattle.latchbeacon.proofs.fields.latchbeacon_set_bit.Reads as set-bit
use Rattle.latchbeacon.proofs.fields.latchbeacon_crumb.Kinds as crumb-kinds
use Rattle.latchbeacon.proofs.fields.latchbeacon_crumb.Reads as crumb
use Rattle.latchbeacon.proofs.fields.latchbeacon_set_crumb.Kinds as set-crumb-kinds
use Rattle.latchbeacon.proofs.fields.latchbeacon_set_crumb.Reads as set-crumb
use Rattle.latchbeacon.proofs.fields.latchbeacon_nibble.Kinds as nibble-kinds
use Rattle.latchbeacon.proofs.fields.latchbeacon_nibble.Reads as nibble
use Rattle.latchbeacon.proofs.fields.latchbeacon_set_nibble.Kinds as set-nibble-kinds
use Rattle.latchbeacon.proofs.fields.latchbeacon_set_nibble.Reads as set-nibble
use Rattle.latchbeacon.proofs.fields.latchbeacon_septet.Kinds as septet-kinds
use Rattle.latchbeacon.proofs.fields.latchbeacon_septet.Reads as septet
use Rattle.latchbeacon.proofs.fields.latchbeacon_set_septet.Kinds as set-septet-kinds
use Rattle.latchbeacon.proofs.fields.latchbeacon_set_septet.Reads as set-septet
use Rattle.latchbeacon.proofs.fields.latchbeacon_octet.Kinds as octet-kinds
use Rattle.latchbeacon.proofs.fields.latchbeacon_octet.Reads as octet
use Rattle.latchbeacon.proofs.fields.latchbeacon_set_octet.Kinds as set-octet-kinds
use Rattle.latchbeacon.proofs.fields.latchbeacon_set_octet.Reads as set-octet
use Rattle.latchbeacon.proofs.fields.latchbeacon_word.Kinds as word-kinds
use Rattle.latchbeacon.proofs.fields.latchbeacon_word.Reads as word
use Rattle.latchbeacon.proofs.fields.latchbeacon_set_word.Kinds as set-word-kinds
use Rattle.latchbeacon.proofs.fields.latchbeacon_set_word.Reads as set_word
use Rattle.latchbeacon.proofs.packets.latchbeacon_sysex8_packet.Kinds as sysex8-packet-kinds
use Rattle.latchbeacon.proofs.packets.latchbeacon_sysex8_packet.Reads as sysex8-packet
use Rattle.latchbeacon.proofs.packets.latchbeacon_sysex8_packet_byte.Kinds as sysex8-packet-byte-kinds
use Rattle.latchbeacon.proofs.packets.latchbeacon_sysex8_packet_byte.Reads as sysex8-packet-byte
use Rattle.latchbeacon.proofs.packets.latchbeacon_sysex8_packet_set_group.Kinds as sysex8-packet-set-group-kinds
use Rattle.latchbeacon.proofs.packets.latchbeacon_sysex8_packet_set_group.Reads as sysex8-packet-set-group
use Rattle.latchbeacon.proofs.packets.latchbeacon_sysex7_packet.Kinds as sysex7-packet-kinds
use Rattle.latchbeacon.proofs.packets.latchbeacon_sysex7_packet.Reads as sysex7-packet
use Rattle.latchbeacon.proofs.packets.latchbeacon_sysex7_packet_byte.Kinds as sysex7-packet-byte-kinds
use Rattle.latchbeacon.proofs.packets.latchbeacon_sysex7_packet_byte.Reads as sysex7-packet-byte
use Rattle.latchbeacon.proofs.packets.latchbeacon_sysex7_packet_set_group.Kinds as sysex7-packet-set-group-kinds
use Rattle.latchbeacon.proofs.packets.latchbeacon_sysex7_packet_set_group.Reads as sysex7-packet-set-group
use Rattle.latchbeacon.proofs.messages.latchbeacon_sysex8_check.Kinds as sysex8-check-kinds
use Rattle.latchbeacon.proofs.messages.latchbeacon_sysex8_check.Reads as sysex8-check
use Rattle.latchbeacon.proofs.messages.latchbeacon_sysex7_check.Kinds as sysex7-check-kinds
use Rattle.latchbeacon.proofs.messages.latchbeacon_sysex7_check.Reads as sysex7-check
use Rattle.latchbeacon.proofs.messages.latchbeacon_sysex8_byte.Kinds as sysex8-byte-kinds
use Rattle.latchbeacon.proofs.messages.latchbeacon_sysex8_byte.Reads as sysex8-byte
use Rattle.latchbeacon.proofs.messages.latchbeacon_sysex8_payload.Kinds as sysex8-payload-kinds
use Rattle.latchbeacon.proofs.messages.latchbeacon_sysex8_payload.Reads as sysex8-payload
use Rattle.latchbeacon.proofs.messages.latchbeacon_sysex8_carries.Kinds as sysex8-carries-kinds
use Rattle.latchbeacon.proofs.messages.latchbeacon_sysex8_carries.Reads as sysex8-carries
use Rattle.latchbeacon.proofs.messages.latchbeacon_sysex8_set_group.Kinds as sysex8-set-group-kinds
use Rattle.latchbeacon.proofs.messages.latchbeacon_sysex8_set_group.Reads as sysex8-set-group
use Rattle.latchbeacon.proofs.messages.latchbeacon_sysex8_set_stream_id.Kinds as sysex8-set-stream-id-kinds
use Rattle.latchbeacon.proofs.messages.latchbeacon_sysex8_set_stream_id.Reads as sysex8-set-stream-id
use Rattle.latchbeacon.proofs.messages.latchbeacon_sysex8_set_byte.Kinds as sysex8-set-byte-kinds
use Rattle.latchbeacon.proofs.messages.latchbeacon_sysex8_set_byte.Reads as sysex8-set-byte
use Rattle.latchbeacon.proofs.splices.latchbeacon_sysex8_words_needed.Kinds as sysex8-words-needed-kinds
use Rattle.latchbeacon.proofs.splices.latchbeacon_sysex8_words_needed.Reads as sysex8-words-needed
use Rattle.latchbeacon.proofs.splices.latchbeacon_sysex8_repack.Kinds as sysex8-repack-kinds
use Rattle.latchbeacon.proofs.splices.latchbeacon_sysex8_repack.Reads as sysex8-repack
use Rattle.latchbeacon.proofs.splices.latchbeacon_sysex8_splice.Kinds as sysex8-splice-kinds
use Rattle.latchbeacon.proofs.splices.latchbeacon_sysex8_splice.Reads as sysex8-splice
use Rattle.latchbeacon.proofs.splices.latchbeacon_sysex8_set_payload.Kinds as sysex8-set-payload-kinds
use Rattle.latchbeacon.proofs.splices.latchbeacon_sysex8_set_payload.Reads as sysex8-set-payload
use Rattle.latchbeacon.proofs.splices.latchbeacon_sysex8_splice_all.Kinds as sysex8-splice-all-kinds
use Rattle.latchbeacon.proofs.splices.latchbeacon_sysex8_splice_all.Reads as sysex8-splice-all
use Rattle.latchbeacon.proofs.splices.latchbeacon_sysex8_origin.Kinds as sysex8-origin-kinds
use Rattle.latchbeacon.proofs.splices.latchbeacon_sysex8_origin.Reads as sysex8-origin
use Rattle.latchbeacon.proofs.looks.latchbeacon_look_run.Kinds as look-run-kinds
use Rattle.latchbeacon.proofs.looks.latchbeacon_look_run.Reads as look-run
use Rattle.latchbeacon.proofs.looks.latchbeacon_look_byte.Kinds as look-byte-kinds
use Rattle.latchbeacon.proofs.looks.latchbeacon_look_byte.Reads as look-byte
use Rattle.latchbeacon.proofs.looks.latchbeacon_sysex8_look_byte.Kinds as sysex8-look-byte-kinds
use Rattle.latchbeacon.proofs.looks.latchbeacon_sysex8_look_byte.Reads as sysex8-look-byte
use Rattle.latchbeacon.proofs.chains.latchbeacon_store_look_byte.Kinds as store-look-byte-kinds
use Rattle.latchbeacon.proofs.chains.latchbeacon_store_look_byte.Reads as store-look-byte
use Rattle.latchbeacon.proofs.edits.latchbeacon_growth.Kinds as growth-kinds
use Rattle.latchbeacon.proofs.edits.latchbeacon_growth.Reads as growth
use Rattle.latchbeacon.proofs.edits.latchbeacon_move_edit.Kinds as move-edit-kinds
use Rattle.latchbeacon.proofs.edits.latchbeacon_move_edit.Reads as move-edit
use Rattle.latchbeacon.proofs.cursors.latchbeacon_sysex8_open.Kinds as sysex8-open-kinds
use Rattle.latchbeacon.proofs.cursors.latchbeacon_sysex8_open.Reads as sysex8-open
use Rattle.latchbeacon.proofs.cursors.latchbeacon_sysex8_next.Kinds as sysex8-next-kinds
use Rattle.latchbeacon.proofs.cursors.latchbeacon_sysex8_next.Reads as sysex8-next
use Rattle.latchbeacon.proofs.cursors.latchbeacon_sysex8_nth.Kinds as sysex8-nth-kinds
use Rattle.latchbeacon.proofs.cursors.latchbeacon_sysex8_nth.Reads as sysex8-nth
use Rattle.latchbeacon.proofs.cursors.latchbeacon_sysex8_remaining.Kinds as sysex8-remaining-kinds
use Rattle.latchbeacon.proofs.cursors.latchbeacon_sysex8_remaining.Reads as sysex8-remaining
use Rattle.latchbeacon.proofs.streams.latchbeacon_bytes_to_sysex7.Kinds as bytes-to-sysex7-kinds
use Rattle.latchbeacon.proofs.streams.latchbeacon_bytes_to_sysex7.Reads as bytes-to-sysex7
use Rattle.latchbeacon.proofs.chains.latchbeacon_store_check.Kinds as store-check-kinds
use Rattle.latchbeacon.proofs.chains.latchbeacon_store_check.Reads as store-check
use Rattle.latchbeacon.proofs.chains.latchbeacon_store_describe.Kinds as store-describe-kinds
use Rattle.latchbeacon.proofs.chains.latchbeacon_store_describe.Reads as store-describe
use Rattle.latchbeacon.proofs.chains.latchbeacon_store_restore.Kinds as store-restore-kinds
use Rattle.latchbeacon.proofs.chains.latchbeacon_store_restore.Reads as store-restore
use Rattle.latchbeacon.proofs.chains.latchbeacon_store_mark.Kinds as store-mark-kinds
use Rattle.latchbeacon.proofs.chains.latchbeacon_store_mark.Reads as store-mark
use Rattle.latchbeacon.proofs.chains.latchbeacon_store_collect.Kinds as store-collect-kinds
use Rattle.latchbeacon.proofs.chains.latchbeacon_store_collect.Reads as store-collect
use Rattle.latchbeacon.proofs.receiving.latchbeacon_ports_clear.Kinds as ports-clear-kinds
use Rattle.latchbeacon.proofs.receiving.latchbeacon_ports_clear.Reads as ports-clear
use Rattle.latchbeacon.proofs.receiving.latchbeacon_ports_receive.Kinds as ports-receive-kinds
use Rattle.latchbeacon.proofs.receiving.latchbeacon_ports_receive.Reads as ports-receive

bit_unique : FixesResult 0 bit-kinds.ps bit-kinds.r bit.Post
bit_unique κs a x y s t p q = p ∙ sym q

set_bit_unique : FixesResult 0 set-bit-kinds.ps set-bit-kinds.r set-bit.Post
set_bit_unique κs a x y s t p q = p ∙ sym q

crumb_unique : FixesResult 0 crumb-kinds.ps crumb-kinds.r crumb.Post
crumb_unique κs a x y s t p q = p ∙ sym q

set_crumb_unique : FixesResult 0 set-crumb-kinds.ps set-crumb-kinds.r set-crumb.Post
set_crumb_unique κs a x y s t p q = p ∙ sym q

nibble_unique : FixesResult 0 nibble-kinds.ps nibble-kinds.r nibble.Post
nibble_unique κs a x y s t p q = p ∙ sym q

set_nibble_unique : FixesResult 0 set-nibble-kinds.ps set-nibble-kinds.r set-nibble.Post
set_nibble_unique κs a x y s t p q = p ∙ sym q

septet_unique : FixesResult 0 septet-kinds.ps septet-kinds.r septet.Post
septet_unique κs a x y s t p q = p ∙ sym q

set_septet_unique : FixesResult 0 set-septet-kinds.ps set-septet-kinds.r set-septet.Post
set_septet_unique κs a x y s t p q = p ∙ sym q

octet_unique : FixesResult 0 octet-kinds.ps octet-kinds.r octet.Post
octet_unique κs a x y s t p q = p ∙ sym q

set_octet_unique : FixesResult 0 set-octet-kinds.ps set-octet-kinds.r set-octet.Post
set_octet_unique κs a x y s t p q = p ∙ sym q

word_unique : FixesResult 0 word-kinds.ps word-kinds.r word.Post
word_unique κs a x y s t p q = p ∙ sym q

set_word_unique : FixesResult 0 set-word-kinds.ps set-word-kinds.r set_word.Post
set_word_unique κs a x y s t p q = p ∙ sym q

sysex8_packet_unique : FixesResult 1 sysex8-packet-kinds.ps sysex8-packet-kinds.r sysex8-packet.Post
sysex8_packet_unique κs a x y s t p q = p ∙ sym q

sysex8_packet_byte_unique : FixesResult 1 sysex8-packet-byte-kinds.ps sysex8-packet-byte-kinds.r sysex8-packet-byte.Post
sysex8_packet_byte_unique κs a x y s t p q = p ∙ sym q

sysex8_packet_set_group_unique : FixesOutcome 1 sysex8-packet-set-group-kinds.ps sysex8-packet-set-group-kinds.r sysex8-packet-set-group.Post (λ κs s. s.0.now)
sysex8_packet_set_group_unique κs a x y s t p q = both_fixed (λ r. r) (λ r r' e. e) p q

sysex7_packet_unique : FixesResult 1 sysex7-packet-kinds.ps sysex7-packet-kinds.r sysex7-packet.Post
sysex7_packet_unique κs a x y s t p q = p ∙ sym q

sysex7_packet_byte_unique : FixesResult 1 sysex7-packet-byte-kinds.ps sysex7-packet-byte-kinds.r sysex7-packet-byte.Post
sysex7_packet_byte_unique κs a x y s t p q = p ∙ sym q

sysex7_packet_set_group_unique : FixesOutcome 1 sysex7-packet-set-group-kinds.ps sysex7-packet-set-group-kinds.r sysex7-packet-set-group.Post (λ κs s. s.0.now)
sysex7_packet_set_group_unique κs a x y s t p q = both_fixed (λ r. r) (λ r r' e. e) p q

sysex8_check_unique : FixesResult 1 sysex8-check-kinds.ps sysex8-check-kinds.r sysex8-check.Post
sysex8_check_unique κs a x y s t p q = p ∙ sym q

sysex7_check_unique : FixesResult 1 sysex7-check-kinds.ps sysex7-check-kinds.r sysex7-check.Post
sysex7_check_unique κs a x y s t p q = p ∙ sym q

sysex8_byte_unique : FixesResult 1 sysex8-byte-kinds.ps sysex8-byte-kinds.r sysex8-byte.Post
sysex8_byte_unique κs a x y s t p q = p ∙ sym q

sysex8_payload_unique : FixesOutcome 2 sysex8-payload-kinds.ps sysex8-payload-kinds.r sysex8-payload.Post (λ κs s. s.1.1.0.now)
sysex8_payload_unique κs a x y s t p q = both_fixed (λ r. r) (λ r r' e. e) p q

sysex8_carries_unique : FixesResult 2 sysex8-carries-kinds.ps sysex8-carries-kinds.r sysex8-carries.Post
sysex8_carries_unique κs a x y s t p q = p ∙ sym q

sysex8_set_group_unique : FixesOutcome 1 sysex8-set-group-kinds.ps sysex8-set-group-kinds.r sysex8-set-group.Post (λ κs s. s.0.now)
sysex8_set_group_unique κs a x y s t p q = both_fixed (λ r. r) (λ r r' e. e) p q

sysex8_set_stream_id_unique : FixesOutcome 1 sysex8-set-stream-id-kinds.ps sysex8-set-stream-id-kinds.r sysex8-set-stream-id.Post (λ κs s. s.0.now)
sysex8_set_stream_id_unique κs a x y s t p q = both_fixed (λ r. r) (λ r r' e. e) p q

sysex8_set_byte_unique : FixesOutcome 1 sysex8-set-byte-kinds.ps sysex8-set-byte-kinds.r sysex8-set-byte.Post (λ κs s. s.0.now)
sysex8_set_byte_unique κs a x y s t p q = both_fixed (λ r. r) (λ r r' e. e) p q

sysex8_words_needed_unique : FixesResult 0 sysex8-words-needed-kinds.ps sysex8-words-needed-kinds.r sysex8-words-needed.Post
sysex8_words_needed_unique κs a x y s t p q = p ∙ sym q

-- and it is the number of the original's three branches (document 02, T-03)
sysex8_words_needed_as_before : (κs : Lfts 0) (size words : ℕ) (s : AtExit (ended_of 0 sysex8-words-needed-kinds.ps sysex8-words-needed-kinds.r) κs) → sysex8-words-needed.Post κs (size, tt) words s → words ≡ words_before sysex8 size
sysex8_words_needed_as_before κs size words s p = p ∙ words_as_before sysex8 size

sysex8_repack_unique : FixesOutcome 1 sysex8-repack-kinds.ps sysex8-repack-kinds.r sysex8-repack.Post (λ κs s. s.0.now)
sysex8_repack_unique κs a x y s t p q = both_fixed (λ r. r) (λ r r' e. e) p q

sysex8_splice_unique : FixesOutcome 2 sysex8-splice-kinds.ps sysex8-splice-kinds.r sysex8-splice.Post (λ κs s. s.0.now)
sysex8_splice_unique κs a x y s t p q = both_fixed (λ r. r) (λ r r' e. e) p q

sysex8_set_payload_unique : FixesOutcome 2 sysex8-set-payload-kinds.ps sysex8-set-payload-kinds.r sysex8-set-payload.Post (λ κs s. s.0.now)
sysex8_set_payload_unique κs a x y s t p q = both_fixed (λ r. r) (λ r r' e. e) p q

sysex8_splice_all_unique : FixesOutcome 3 sysex8-splice-all-kinds.ps sysex8-splice-all-kinds.r sysex8-splice-all.Post (λ κs s. s.0.now)
sysex8_splice_all_unique κs a x y s t p q = both_fixed (λ r. r) (λ r r' e. e) p q

sysex8_origin_unique : FixesResult 3 sysex8-origin-kinds.ps sysex8-origin-kinds.r sysex8-origin.Post
sysex8_origin_unique κs a x y s t p q = p ∙ sym q

look_run_unique : FixesResult 0 look-run-kinds.ps look-run-kinds.r look-run.Post
look_run_unique κs a x y s t p q = p ∙ sym q

look_byte_unique : FixesResult 3 look-byte-kinds.ps look-byte-kinds.r look-byte.Post
look_byte_unique κs a x y s t p q = p ∙ sym q

sysex8_look_byte_unique : FixesResult 3 sysex8-look-byte-kinds.ps sysex8-look-byte-kinds.r sysex8-look-byte.Post
sysex8_look_byte_unique κs a x y s t p q = p ∙ sym q

growth_unique : FixesResult 0 growth-kinds.ps growth-kinds.r growth.Post
growth_unique κs a x y s t p q = p ∙ sym q

move_edit_unique : FixesResult 0 move-edit-kinds.ps move-edit-kinds.r move-edit.Post
move_edit_unique κs a x y s t p q = p ∙ sym q

sysex8_open_unique : FixesResult 1 sysex8-open-kinds.ps sysex8-open-kinds.r sysex8-open.Post
sysex8_open_unique κs a x y s t p q = p ∙ sym q

sysex8_next_unique : FixesResult 1 sysex8-next-kinds.ps sysex8-next-kinds.r sysex8-next.Post
sysex8_next_unique κs a x y s t p q = p ∙ sym q

sysex8_nth_unique : FixesResult 1 sysex8-nth-kinds.ps sysex8-nth-kinds.r sysex8-nth.Post
sysex8_nth_unique κs a x y s t p q = p ∙ sym q

sysex8_remaining_unique : FixesResult 1 sysex8-remaining-kinds.ps sysex8-remaining-kinds.r sysex8-remaining.Post
sysex8_remaining_unique κs a x y s t p q = p ∙ sym q

bytes_to_sysex7_unique : FixesOutcome 2 bytes-to-sysex7-kinds.ps bytes-to-sysex7-kinds.r bytes-to-sysex7.Post (λ κs s. s.1.1.0.now)
bytes_to_sysex7_unique κs a x y s t p q = both_fixed (λ r. r) (λ r r' e. e) p q

store_check_unique : FixesResult 1 store-check-kinds.ps store-check-kinds.r store-check.Post
store_check_unique κs a x y s t p q = p ∙ sym q

store_describe_unique : FixesResult 1 store-describe-kinds.ps store-describe-kinds.r store-describe.Post
store_describe_unique κs a x y s t p q = p ∙ sym q

store_restore_unique : FixesOutcome 2 store-restore-kinds.ps store-restore-kinds.r store-restore.Post (λ κs s. s.1.1.0.now)
store_restore_unique κs a x y s t p q = both_fixed (λ r. r) (λ r r' e. e) p q

store_mark_unique : FixesOutcome 1 store-mark-kinds.ps store-mark-kinds.r store-mark.Post (λ κs s. s.0.now)
store_mark_unique κs a x y s t p q = both_fixed (λ r. r) (λ r r' e. e) p q

store_collect_unique : FixesOutcome 1 store-collect-kinds.ps store-collect-kinds.r store-collect.Post (λ κs s. s.0.now)
store_collect_unique κs a x y s t p q = both_fixed (λ r. r) (λ r r' e. e) p q

store_look_byte_unique : FixesResult 1 store-look-byte-kinds.ps store-look-byte-kinds.r store-look-byte.Post
store_look_byte_unique κs a x y s t p q = p ∙ sym q

ports_clear_unique : FixesOutcome 1 ports-clear-kinds.ps ports-clear-kinds.r ports-clear.Post (λ κs s. s.0.now)
ports_clear_unique κs a x y s t p q = (refl, p ∙ sym q)

ports_receive_unique : FixesOutcome {Lent = Lent} 4 ports-receive-kinds.ps ports-receive-kinds.r ports-receive.Post
    (λ κs s. (s.0.now, s.1.0.now, s.1.1.1.1.0.now))
ports_receive_unique κs a x y s t p q = both_fixed (λ r. r) (λ r r' e. e) p q
