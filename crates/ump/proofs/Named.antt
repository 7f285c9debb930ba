-- Each call refuses with the number of a name: never with 0, by which a struct says "accepted", nor with 19. Assumes nothing.
use mathlib.Core.Bool.{Bool, true, false, cond, not, ◌||◌}
use mathlib.Core.List.{List}
use Prim.Native.Nat.{ℕ, suc, ◌*◌, ◌%◌, ◌/◌}
use lib.Dec.{eqb, ltb}
use lib.ListN.{length}
use Rattle.refusal.specs.Answer.{refused, guard}
use Rattle.refusal.specs.Number.{Named, accepted, named}
use Rattle.refusal.specs.declared.Refusal.TheVariants.{Long, Length, Short, Ragged, «Type», Complete, Begin, Continue, End, Count, Group, Stream, Range, Room, Field, Frame, Byte, Overlap}
use Rattle.refusal.proofs.Laws.{by_guard, by_both, writes_named}
use Rattle.ump.specs.Packet.{Shape, sysex7}
use Rattle.ump.specs.Packing.{words_for}
use Rattle.ump.specs.Limits.{most_words}
use Rattle.ump.specs.Check.{first_where, sweep, status_number, bad_type, bad_status, bad_count, bad_group, bad_id, check_packets, check, payload_of}
use Rattle.ump.specs.Splice.{spliced, splice, repack}
use Rattle.ump.specs.Edits.{Edit, bad_edit, move_edit, replaced, edits_of, patches_of, bad_list, some_overlap, all_checks, splice_all}
use Rattle.ump.specs.Origin.{origin}
use Rattle.ump.specs.Stream.{bad_frame, between, bad_byte, first_bad, data_of, to_sysex7}

by_sweep : (shape : Shape) (number : ℕ → ℕ) (bad : ℕ → Bool) (n : ℕ) → ((p place : ℕ) → Named {A = Unit {0}} (refused (number p) place)) → Named (sweep shape number bad n)
by_sweep shape number bad n h = go (ltb (first_where bad n) n)
  where
    go : (b : Bool) → Named (guard b (number (first_where bad n)) (shape.words * first_where bad n))
    go true = h _ _
    go false = accepted

status_named : (n p place : ℕ) → Named {A = Unit {0}} (refused (status_number n p) place)
unfolding status_number
status_named n p place = go (eqb n 1) (eqb p 0) (eqb (suc p) n)
  where
    go : (a b c : Bool) → Named {A = Unit {0}} (refused (cond a 6 (cond b 7 (cond c 9 8))) place)
    go true b c = named Complete
    go false true c = named Begin
    go false false true = named End
    go false false false = named Continue

packets_named : (shape : Shape) (words : List ℕ) (n : ℕ) → Named (check_packets shape words n)
unfolding check_packets
packets_named shape words n =
    by_both _ _ (by_sweep shape (λ p. 5) (bad_type shape words) n (λ p place. named «Type»))
    (by_both _ _ (by_sweep shape (status_number n) (bad_status shape words n) n (status_named n))
    (by_both _ _ (by_sweep shape (λ p. 10) (bad_count shape words) n (λ p place. named Count))
    (by_both _ _ (by_sweep shape (λ p. 11) (bad_group shape words) n (λ p place. named Group)) (by_sweep shape (λ p. 12) (bad_id shape words) n (λ p place. named Stream)))))

pub check_named : (shape : Shape) (words : List ℕ) (len : ℕ) → Named (check shape words len)
unfolding check
check_named shape words len =
    by_both _ _ (by_guard (ltb most_words (length words)) Long 0)
    (by_both _ _ (by_guard (ltb (length words) len) Length 0)
    (by_both _ _ (by_guard (ltb len shape.words) Short 0)
    (by_both _ _ (by_guard (not (eqb (len % shape.words) 0)) Ragged 0) (packets_named shape words (len / shape.words)))))

checks_named : (shape : Shape) (words : List ℕ) (len : ℕ) (numbers bytes : List ℕ) → Named (all_checks shape words len numbers bytes)
checks_named shape words len numbers bytes =
    let old : List ℕ = payload_of shape words len in
    let new : List ℕ = replaced old (patches_of (edits_of numbers) bytes) in
    by_both _ _ (check_named shape words len)
    (by_both _ _ (by_guard (bad_list (length old) (length bytes) numbers) Range 0)
    (by_both _ _ (by_guard (some_overlap 0 (edits_of numbers)) Overlap 0) (by_guard (ltb (length words) (words_for shape (length new))) Room 0)))

module _ (shape : Shape) (words : List ℕ) (len : ℕ) where
  abbrev old : List ℕ
  old = payload_of shape words len

  pub repack_named : Named (repack shape words len).0
  unfolding repack
  repack_named = writes_named _ words _ _ (check_named shape words len)

  pub splice_named : (from to : ℕ) (bytes : List ℕ) → Named (splice shape words len from to bytes).0
  unfolding splice
  splice_named from to bytes =
      writes_named _ words _ _
      (by_both _ _ (check_named shape words len)
      (by_both _ _ (by_guard (ltb to from || ltb (length old) to) Range 0)
      (by_guard (ltb (length words) (words_for shape (length (spliced old from to bytes)))) Room 0)))

  pub all_named : (numbers bytes : List ℕ) → Named (splice_all shape words len numbers bytes).0
  unfolding splice_all
  all_named numbers bytes = writes_named _ words _ _ (checks_named shape words len numbers bytes)

  pub origin_named : (numbers bytes : List ℕ) (q : ℕ) → Named (origin shape words len numbers bytes q)
  unfolding origin
  origin_named numbers bytes q =
      by_both _ _ (checks_named shape words len numbers bytes) (by_both _ _ (by_guard (not (ltb q (4 * length words))) Range 0) accepted)

pub move_named : (done pending : Edit) (done_first : Bool) → Named (move_edit done pending done_first)
unfolding move_edit
move_named done pending done_first =
    by_both _ _ (by_guard (bad_edit done || bad_edit pending) Range 0)
    (by_both _ _ (by_guard (cond done_first (ltb pending.from done.to) (ltb done.from pending.to)) Overlap 0) accepted)

pub stream_named : (bytes : List ℕ) (group : ℕ) (words : List ℕ) → Named (to_sysex7 bytes group words).0
unfolding to_sysex7
stream_named bytes group words =
    writes_named _ words _ _
    (by_both _ _ (by_guard (ltb most_words (length words)) Long 0)
    (by_both _ _ (by_guard (ltb 15 group) Field 0)
    (by_both _ _ (by_guard (bad_frame bytes) Frame 0)
    (by_both _ _ (by_guard (ltb (first_bad bad_byte (between bytes)) (length (between bytes))) Byte (suc (first_bad bad_byte (between bytes))))
    (by_guard (ltb (length words) (words_for sysex7 (length (data_of bytes)))) Room 0)))))
