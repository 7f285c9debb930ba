-- The cases of receiving a packet, over plain values. Assumes nothing.
use Rattle.std.specs.Prelude.{Option, None, Some, Result, Err, IfOk}
use Rattle.std.specs.Result.{IsErrAnd}
use Rattle.std.specs.Option.{ok_or}
use Rattle.std.proofs.lemmas.Result.{err_from_is_err_and}
use Rattle.std.proofs.lemmas.Slice.{put_mid-paste}
use mathlib.Core.Path.{◌≡◌, refl, sym, ◌∙◌}
use mathlib.Core.Bool.{Bool, true, false, cond}
use mathlib.Core.List.{List, ◌++◌, append_assoc}
use Prim.Native.Nat.{ℕ, ◌+◌, ◌-◌, ◌*◌, ◌≤◌, ◌<◌}
use native.Mathlib.Omega.{arith}
use borrow.Rule.Slice.PartMut.{put_mid}
use lib.Dec.{ltb, leb}
use lib.ListN.{length, take, drop, set, length-append, length-take}
use lib.Seq.{paste, take_all, take_at, drop_at, drop-drop}
use borrow.Author.Tests.{lt-ltb, le-ltb, le-leb, lt-leb}
use Rattle.refusal.specs.declared.Fault.{Fault}
use Rattle.refusal.specs.declared.Refusal.{Refusal}
use Rattle.refusal.specs.declared.Refusal.TheVariants.{Full, Closed}
use Rattle.refusal.specs.Meaning.{at_start}
use Rattle.refusal.specs.Answer.{Answer, gives, refused, Verdict, ◌▷◌, guard, verdict}
use Rattle.refusal.proofs.Laws.{pass_both, given_passes}
use Rattle.ump.specs.Single.{Kind, complete, start, continue, end, unexpected_end, Packet, read_packet8}
use Rattle.ump.proofs.First.{Side, under, over, side}
use Rattle.ports.specs.Streams.{refusals, kept, dropped, handed_out, onto, arrived, key_at}
use Rattle.ports.specs.Table.{slot_of, held_by, part_of, used_at, stored_at, stream_at, new_slot, accept, receive}
use Rattle.ports.specs.Meaning.{received_meaning}
use Rattle.ports.specs.declared.Received.{Received}
use Rattle.ports.specs.Steps.{found_slot, slot_meaning, slot_for}
use Rattle.ports.proofs.Parts.{length-stored}
use Rattle.ports.proofs.Looks.{look_found, look_none, slot_some, no_slot}

-- ---- the slot of a start

module _ (table : List ℕ) (port key : ℕ) {k : ℕ} (is : k ≡ slot_of table key) where
  pub for_again : k < 16 → gives k ≡ slot_for table port key
  unfolding slot_for
  for_again h = rw (← is, lt-ltb k 16 h)

  module _ {holds : ℕ} (counts : holds ≡ held_by table port) (new : 16 ≤ k) where
    pub for_share : 12 ≤ holds → refused 31 0 ≡ slot_for table port key
    unfolding slot_for
    for_share h = rw (← is, ← counts, le-ltb k 16 new, le-leb 12 holds h)

    -- the first free slot, or Full
    pub for_free : {free : Option ℕ} → holds < 12 → free ≡ found_slot table 0
        → (slot_meaning (ok_or free Full) ≡ slot_for table port key) × IfOk (ok_or free Full) (λ slot. slot < 16)
    unfolding slot_for slot_of
    for_free h e = rw (← is, ← counts, e, le-ltb k 16 new, lt-leb 12 holds h) (go (side (slot_of table 0) 16))
      where
        go : Side (slot_of table 0) 16
            → (slot_meaning (ok_or (found_slot table 0) Full) ≡ guard (leb 16 (slot_of table 0)) 23 0 ▷ gives (slot_of table 0)) × IfOk (ok_or (found_slot table 0) Full) (λ slot. slot < 16)
        go (under l t) = rw (t, lt-leb 16 (slot_of table 0) l) (refl, l)
        go (over l t) = rw (t, le-leb 16 (slot_of table 0) l) (refl, tt)

-- ---- words handed out

-- words in front of an output, and a packet of four words behind them
pub handed_two : (output a packet : List ℕ) (used : ℕ) → length a ≡ used → length packet ≡ 4
    → put_mid used (used + 4 - used) (a ++ drop used output) packet ≡ onto (a ++ packet) output
handed_two output a packet used h four =
    let f : used + 4 - used ≡ 4 = omega arith in
    let n : length (a ++ packet) ≡ used + 4 = simp length-append (omega arith) in
    rw (f, take_at a (drop used output) used h, drop_at a (drop used output) used h, n, drop-drop 4 used output, append_assoc)

-- ---- a packet by its kind

module _ (table words : List ℕ) (port key : ℕ) (packet output : List ℕ) where
  -- a start is refused where no slot is for it, and then for Room
  start_verdict : refusals start (stream_at table words key) (held_by table port) (leb 16 (slot_of table 0)) (part_of words) (length output)
      ≡ verdict (slot_for table port key) ▷ guard (ltb (part_of words) 4) 14 0
  unfolding slot_for
  start_verdict = go (side (slot_of table key) 16)
    where
      both : (a b : Bool) (v : Verdict) → guard a 31 0 ▷ guard b 23 0 ▷ v ≡ verdict (guard a 31 0 ▷ guard b 23 0 ▷ gives (slot_of table 0)) ▷ v
      both true b v = refl
      both false true v = refl
      both false false v = refl

      go : Side (slot_of table key) 16 → refusals start (stream_at table words key) (held_by table port) (leb 16 (slot_of table 0)) (part_of words) (length output)
          ≡ verdict (cond (ltb (slot_of table key) 16) (gives (slot_of table key)) (guard (leb 12 (held_by table port)) 31 0 ▷ guard (leb 16 (slot_of table 0)) 23 0 ▷ gives (slot_of table 0)))
          ▷ guard (ltb (part_of words) 4) 14 0
      go (under h t) = rw (look_found table words key h, t)
      go (over h t) = rw (look_none table words key h, t) (both (leb 12 (held_by table port)) (leb 16 (slot_of table 0)) (guard (ltb (part_of words) 4) 14 0))

  pub start_refused : {n : ℕ} → refused n 0 ≡ slot_for table port key → (refused n 0, (table, words, output)) ≡ accept start port key table words packet output
  unfolding accept
  start_refused e = rw (start_verdict, ← e)

  module _ {s : ℕ} (e : gives s ≡ slot_for table port key) where
    start_slot : new_slot table (slot_of table key) ≡ s
    unfolding slot_for
    start_slot = go (side (slot_of table key) 16) (sym e)
      where
        go : Side (slot_of table key) 16
            → cond (ltb (slot_of table key) 16) (gives (slot_of table key)) (guard (leb 12 (held_by table port)) 31 0 ▷ guard (leb 16 (slot_of table 0)) 23 0 ▷ gives (slot_of table 0)) ≡ gives s
            → new_slot table (slot_of table key) ≡ s
        go (under h t) q = let w : slot_of table key ≡ s = cc (rw t at q) in rw t w
        go (over h t) q =
            let rest : Answer ℕ = guard (leb 16 (slot_of table 0)) 23 0 ▷ gives (slot_of table 0) in
            rw t (given_passes (guard (leb 16 (slot_of table 0)) 23 0) (pass_both (guard (leb 12 (held_by table port)) 31 0) rest (rw t at q)).1).1

    pub start_room : part_of words < 4 → (refused 14 0, (table, words, output)) ≡ accept start port key table words packet output
    unfolding accept
    start_room h = rw (start_verdict, ← e, lt-ltb (part_of words) 4 h)

  -- no slot has the key: Closed, where its kind asks for one
  pub closed : (kind : Kind) → refusals kind None (held_by table port) (leb 16 (slot_of table 0)) (part_of words) (length output) ≡ refused 30 0
      → found_slot table key ≡ None → (refused 30 0, (table, words, output)) ≡ accept kind port key table words packet output
  unfolding accept
  closed kind e none = rw (look_none table words key (no_slot table key none), e)

  module _ {k : ℕ} (is : found_slot table key ≡ Some k) where
    at : slot_of table key ≡ k
    at = (slot_some table key is).0

    pub slot_small : k < 16
    slot_small = (slot_some table key is).1

    there : stream_at table words key ≡ Some (stored_at table words k)
    there = rw (← at) (look_found table words key (rw at slot_small))

    pub drop_done : (gives dropped, (set table k 0, words, output)) ≡ accept (unexpected_end false) port key table words packet output
    unfolding accept
    drop_done = rw (there, at, lt-ltb k 16 slot_small)

    module _ {used : ℕ} (uses : used ≡ used_at table (part_of words) k) where
      size : length (stored_at table words k) ≡ used
      size = length-stored table words k slot_small ∙ sym uses

      pub continue_room : part_of words < used + 4 → (refused 14 0, (table, words, output)) ≡ accept continue port key table words packet output
      unfolding accept
      continue_room l = rw (there, size, lt-ltb (part_of words) (used + 4) l)

    pub end_room : {stored : List ℕ} → stored ≡ stored_at table words k → length output < length stored + 4
        → (refused 14 0, (table, words, output)) ≡ accept end port key table words packet output
    unfolding accept
    end_room {stored} e l = rw (there, ← e, lt-ltb (length output) (length stored + 4) l)

  -- a packet of four words
  module _ (long : length packet ≡ 4) where
    four : take 4 packet ≡ packet
    four = take_all 4 packet (omega arith)

    stored : (n : ℕ) → put_mid n (n + 4 - n) words packet ≡ paste words n packet 4
    stored n = put_mid-paste n (n + 4 - n) words packet packet 4 refl (omega arith) (sym long)

    pub start_done : {s : ℕ} → gives s ≡ slot_for table port key → 4 ≤ part_of words
        → (gives kept, (set (set table s key) (16 + s) 4, put_mid (part_of words * s) (part_of words * s + 4 - part_of words * s) words packet, output))
        ≡ accept start port key table words packet output
    unfolding accept
    start_done {s} e h = rw (start_verdict, ← e, le-ltb (part_of words) 4 h, start_slot e, four, stored (part_of words * s))

    pub complete_alone : found_slot table key ≡ None → 4 ≤ length output
        → (gives (handed_out 4), (table, words, packet ++ drop 4 output)) ≡ accept complete port key table words packet output
    unfolding accept
    complete_alone none l = rw (le-ltb (slot_of table key) 16 (no_slot table key none), le-ltb (length output) 4 l, four, long)

    module _ {k : ℕ} (is : found_slot table key ≡ Some k) where
      pub complete_closes : 4 ≤ length output
          → (gives (handed_out 4), (set table k 0, words, packet ++ drop 4 output)) ≡ accept complete port key table words packet output
      unfolding accept
      complete_closes l = rw (at is, lt-ltb k 16 (slot_small is), le-ltb (length output) 4 l, four, long)

      module _ {used : ℕ} (uses : used ≡ used_at table (part_of words) k) where
        pub continue_done : used + 4 ≤ part_of words
            → let n = part_of words * k + used in
            (gives kept, (set table (16 + k) (used + 4), put_mid n (n + 4 - n) words packet, output)) ≡ accept continue port key table words packet output
        unfolding accept
        continue_done l =
            rw (there is, size is uses, at is, ← uses, le-ltb (part_of words) (used + 4) l, four, stored (part_of words * k + used))

      pub end_done : {stored : List ℕ} → stored ≡ stored_at table words k → length stored + 4 ≤ length output
          → let n = length stored in
          (gives (handed_out (n + 4)), (set table k 0, words, put_mid n (n + 4 - n) (stored ++ drop n output) packet)) ≡ accept end port key table words packet output
      unfolding accept
      end_done {stored} e l =
          let all : length (stored ++ packet) ≡ length stored + 4 = simp length-append (omega arith) in
          rw (handed_two output stored packet (length stored) refl long, there is, ← e, four, all, at is, lt-ltb k 16 (slot_small is), le-ltb (length output) (length stored + 4) l)

  pub complete_room : length output < 4 → (refused 14 0, (table, words, output)) ≡ accept complete port key table words packet output
  unfolding accept
  complete_room h = rw (lt-ltb (length output) 4 h)

  -- an end of zeros with valid earlier data is an end
  pub valid_end : accept end port key table words packet output ≡ accept (unexpected_end true) port key table words packet output
  unfolding accept
  valid_end = go (side (slot_of table key) 16)
    where
      go : Side (slot_of table key) 16 → accept end port key table words packet output ≡ accept (unexpected_end true) port key table words packet output
      go (under h t) = rw (look_found table words key h)
      go (over h t) = rw (look_none table words key h)

-- what `find(..).ok_or(refusal)?` passes on: that refusal, where no slot has the key
pub passed_none : (found : Option ℕ) {refusal given : Refusal} → ◌≡◌ {A = Result ℕ Refusal} (Err refusal) (ok_or found given)
    → (found ≡ None) × (refusal ≡ given)
passed_none None e = (refl, cc)
passed_none (Some k) e = cc

-- and so Closed
pub passed_closed : (r : Result Received Fault) {refusal : Refusal} {found : Option ℕ} (table words : List ℕ) (port key : ℕ) (packet output : List ℕ) (kind : Kind)
    → refusals kind None (held_by table port) (leb 16 (slot_of table 0)) (part_of words) (length output) ≡ refused 30 0
    → IsErrAnd r (λ y. y ≡ at_start refusal) → ◌≡◌ {A = Result ℕ Refusal} (Err refusal) (ok_or found Closed) → found ≡ found_slot table key
    → (received_meaning r, (table, words, output)) ≡ accept kind port key table words packet output
passed_closed r {found = found} table words port key packet output kind e q o f =
    let p = err_from_is_err_and r q in
    let n = passed_none found o in
    rw (p.1, p.2, n.1) (closed table words port key packet output kind e (sym f ∙ n.0))

-- ---- the whole call

module _ (table words : List ℕ) (port : ℕ) (packet output : List ℕ) where
  pub long_words : 16384 < length words → (refused 1 0, (table, words, output)) ≡ receive table words port packet output
  unfolding receive arrived
  long_words h = rw (lt-ltb 16384 (length words) h)

  module _ (fits : length words ≤ 16384) where
    pub long_output : 16384 < length output → (refused 1 0, (table, words, output)) ≡ receive table words port packet output
    unfolding receive arrived
    long_output h = rw (le-ltb 16384 (length words) fits, lt-ltb 16384 (length output) h)

    module _ (fits' : length output ≤ 16384) where
      pub read_refused : {n p : ℕ} → refused n p ≡ read_packet8 packet → (refused n p, (table, words, output)) ≡ receive table words port packet output
      unfolding receive arrived
      read_refused e = rw (le-ltb 16384 (length words) fits, le-ltb 16384 (length output) fits', ← e)

      module _ {p : Packet} (e : gives p ≡ read_packet8 packet) where
        pub port_refused : 1 < port → (refused 29 0, (table, words, output)) ≡ receive table words port packet output
        unfolding receive arrived
        port_refused h = rw (le-ltb 16384 (length words) fits, le-ltb 16384 (length output) fits', ← e, lt-ltb 1 port h)

        -- of its four words
        pub port_taken : port ≤ 1 → 4 ≤ length packet → accept p.kind port (key_at port p) table words (take 4 packet) output ≡ receive table words port packet output
        unfolding receive arrived accept
        port_taken h long =
            let four : take 4 (take 4 packet) ≡ take 4 packet = take_all 4 (take 4 packet) (simp length-take (omega arith)) in
            rw (le-ltb 16384 (length words) fits, le-ltb 16384 (length output) fits', ← e, le-ltb 1 port h, four)
