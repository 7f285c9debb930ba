-- A call on a table is a step on the open streams that the table shows. Assumes nothing.
use Rattle.std.specs.Prelude.{Option, None, Some}
use mathlib.Core.Path.{◌≡◌, refl, sym, ap, ◌∙◌, subst}
use mathlib.Core.Bool.{Bool, true}
use mathlib.Core.List.{List, ◌++◌}
use Prim.Native.Nat.{ℕ, zero, suc, ◌+◌, ◌≤◌, ◌<◌}
use native.Mathlib.Omega.{arith}
use lib.Dec.{ltb, leb}
use lib.ListN.{length, take}
use lib.Seq.{take_all, length-take-le}
use borrow.Author.Tests.{ltb-false, leb-false, le-leb, lt-leb, ne_eqb, eq-eqb}
use Rattle.refusal.specs.Answer.{Answer, gives, refused, Verdict, pass, ◌▷◌, guard, writes}
use Rattle.refusal.proofs.Laws.{never_refused, guard_passed, pass_both}
use Rattle.ump.specs.Single.{Kind, complete, start, continue, end, unexpected_end, Packet}
use Rattle.ump.proofs.First.{Side, under, over, side}
use Rattle.ports.specs.Streams.{Streams, packets_of, put, refusals, stream_after, hands_out, Reply, replied, onto, arrived, admit, key_at, admitted, step}
use Rattle.ports.specs.Table.{has_key, slot_of, count, held_by, part_of, stored_at, stream_at, freed, stored_by, Lent, accept, receive}
use Rattle.ports.specs.Interleaved.{Distinct}
use Rattle.ports.proofs.Slots.{Same, alike, unlike, same, slot_at, slot_before, bit, count_suc, count_zero}
use Rattle.ports.proofs.Parts.{length-stored}
use Rattle.ports.proofs.Reading.{came, read_facts}
use Rattle.ports.proofs.Looks.{look_found, look_none}
use Rattle.ports.proofs.Machine.{distinct_put}
use Rattle.ports.proofs.Changes.{Sound, Changed, Shows, shows_put, closed_changes, grown_changes, begun_changes, again, fresh}

-- ---- 16 streams are open where no slot is free

count_some : (f : ℕ → Bool) (n k : ℕ) → k < n → f k ≡ true → 1 ≤ count f n
count_some f zero k h e = absurd (omega arith)
count_some f (suc n) k h e = go (same k n) (λ l. count_some f n k l e)
  where
    go : Same k n → (k < n → 1 ≤ count f n) → 1 ≤ count f (suc n)
    go (alike p t) more = omega (arith, count_suc f n, ap bit (ap f (sym p) ∙ e))
    go (unlike p t) more = omega (arith, count_suc f n, more (omega arith))

full-shown : (table words : List ℕ) (streams : Streams) → Shows table words streams → leb 16 (length streams) ≡ leb 16 (slot_of table 0)
full-shown table words streams s = go (side (slot_of table 0) 16)
  where
    go : Side (slot_of table 0) 16 → leb 16 (length streams) ≡ leb 16 (slot_of table 0)
    go (under h e) =
        let one = count_some (has_key table 0) 16 (slot_of table 0) h (eq-eqb _ _ (slot_at table 0 h)) in
        lt-leb 16 (length streams) (omega (arith, s.all, one)) ∙ sym (lt-leb 16 (slot_of table 0) h)
    go (over h e) =
        let z = count_zero (has_key table 0) 16 (λ j l. ne_eqb _ _ (slot_before table 0 j (omega arith))) in
        le-leb 16 (length streams) (omega (arith, s.all, z)) ∙ sym (le-leb 16 (slot_of table 0) h)

-- ---- the answer and the output, of any table

pub record Tells (r : Answer Reply × Lent) (a : Answer Reply × (Streams × List ℕ)) : Type 0 where
  pub answer : r.0 ≡ a.0
  pub output : r.1.2 ≡ a.1.1

some_key : (port : ℕ) (p : Packet) → key_at port p ≡ 0 → ⊥
some_key port p e = omega arith

module _ (table words : List ℕ) (port : ℕ) (packet output : List ℕ) (streams : Streams) (shows : Shows table words streams) where
  accept_tells : (p : Packet) → Tells (accept p.kind port (key_at port p) table words packet output) (admitted (part_of words) (leb 16 (length streams)) streams port packet output p)
  unfolding accept
  accept_tells p =
      let key = key_at port p in
      let four = take 4 packet in
      rw (shows.finds key (some_key port p), shows.holds port, full-shown table words streams shows)
      (both (refusals p.kind (stream_at table words key) (held_by table port) (leb 16 (slot_of table 0)) (part_of words) (length output))
      (replied p.kind (packets_of (stream_at table words key)) four) _ _ _ (onto (hands_out p.kind (packets_of (stream_at table words key)) four) output))
    where
      both : (v : Verdict) (reply : Reply) (table' words' : List ℕ) (streams' : Streams) (output' : List ℕ)
          → Tells (writes {A = Reply} {Lent = Lent} v (table, words, output) reply (table', words', output')) (writes {A = Reply} {Lent = Streams × List ℕ} v (streams, output) reply (streams', output'))
      both (gives u) reply table' words' streams' output' = record { answer = refl; output = refl }
      both (refused n q) reply table' words' streams' output' = record { answer = refl; output = refl }

  pub tells : Tells (receive table words port packet output) (step (length words) streams port packet output)
  unfolding receive step
  tells = go (arrived (length words) (length output) port packet)
    where
      go : (x : Answer Packet) → Tells (admit {Lent = Lent} x (table, words, output) (λ p. accept p.kind port (key_at port p) table words packet output))
          (admit {Lent = Streams × List ℕ} x (streams, output) (admitted (part_of words) (leb 16 (length streams)) streams port packet output))
      go (refused n q) = record { answer = refl; output = refl }
      go (gives p) = accept_tells p

-- ---- an accepted packet changes its stream alone

renew : {key : ℕ} {table words table' words' : List ℕ} {new new' : Option (List ℕ)} → new ≡ new' → Changed key table words table' words' new → Changed key table words table' words' new'
renew {key} {table} {words} {table'} {words'} e c = subst (λ (x : Option (List ℕ)). Changed key table words table' words' x) e c

module _ (table words packet : List ℕ) (port key room : ℕ) (not-Free : key ≡ 0 → ⊥) (sound : Sound table) (long : 4 ≤ length packet) where
  abbrev k : ℕ
  k = slot_of table key

  abbrev four : List ℕ
  four = take 4 packet

  size_four : length four ≡ 4
  size_four = length-take-le 4 packet long

  all_four : take 4 four ≡ four
  all_four = take_all 4 four (omega (arith, size_four))

  refuses : Kind → Verdict
  refuses kind = refusals kind (stream_at table words key) (held_by table port) (leb 16 (slot_of table 0)) (part_of words) room

  abbrev After : Kind → Type 0
  After kind = let after = stored_by kind key k table words four in Changed key table words after.0 after.1 (stream_after kind (packets_of (stream_at table words key)) four)

  opens : Side k 16 → refuses start ≡ pass → After start
  unfolding refuses
  opens (under h e) v =
      let fits = ltb-false (part_of words) 4 (guard_passed _ 14 0 (rw (look_found table words key h) at v)) in
      rw e (renew (ap Some all_four) (begun_changes key table words not-Free sound k h (again (slot_at table key h)) four (omega (arith, size_four)) fits))
  opens (over h e) v =
      let w : guard (leb 12 (held_by table port)) 31 0 ▷ guard (leb 16 (slot_of table 0)) 23 0 ▷ guard (ltb (part_of words) 4) 14 0 ≡ pass = rw (look_none table words key h) at v in
      let a = pass_both (guard (leb 12 (held_by table port)) 31 0) (guard (leb 16 (slot_of table 0)) 23 0 ▷ guard (ltb (part_of words) 4) 14 0) w in
      let b = pass_both (guard (leb 16 (slot_of table 0)) 23 0) (guard (ltb (part_of words) 4) 14 0) a.1 in
      let f = leb-false 16 (slot_of table 0) (guard_passed _ 23 0 b.0) in
      let fits = ltb-false (part_of words) 4 (guard_passed _ 14 0 b.1) in
      rw e (renew (ap Some all_four) (begun_changes key table words not-Free sound (slot_of table 0) f (fresh (slot_at table 0 f) h) four (omega (arith, size_four)) fits))

  grows : Side k 16 → refuses continue ≡ pass → After continue
  unfolding refuses
  grows (under h e) v =
      let fits = ltb-false (part_of words) _ (guard_passed (ltb (part_of words) (length (stored_at table words k) + 4)) 14 0 (rw (look_found table words key h) at v)) in
      let c = grown_changes key table words not-Free sound h four 4 (omega (arith, size_four)) (omega (arith, fits, length-stored table words k h)) in
      rw (look_found table words key h) (renew (ap (λ (x : List ℕ). Some (stored_at table words k ++ x)) all_four) c)
  grows (over h e) v = never_refused (rw (look_none table words key h) at v)

  closes : Side k 16 → Changed key table words (freed table k) words None
  closes (under h e) = rw e (closed_changes key table words not-Free sound h)
  closes (over h e) =
      let n = look_none table words key h in
      rw e (record { here = n; else = λ other z d. refl; holds = λ q. rw n; frees = rw n; sound = sound; size = refl })

  changes : (kind : Kind) → refuses kind ≡ pass → After kind
  changes start v = opens (side k 16) v
  changes continue v = grows (side k 16) v
  changes end v = closes (side k 16)
  changes (unexpected_end valid) v = closes (side k 16)
  changes complete v = closes (side k 16)

-- ---- the state after a call

-- a table that shows these streams, whose keys are distinct
pub record Good (table words : List ℕ) (streams : Streams) : Type 0 where
  pub shows : Shows table words streams
  pub sound : Sound table
  pub distinct : Distinct streams

pub record Follows (words : List ℕ) (r : Answer Reply × Lent) (a : Answer Reply × (Streams × List ℕ)) : Type 0 where
  pub tell : Tells r a
  pub good : Good r.1.0 r.1.1 a.1.0
  pub size : length r.1.1 ≡ length words

module _ (table words : List ℕ) (port : ℕ) (packet output : List ℕ) (streams : Streams) (good : Good table words streams) where
  accept_good : (p : Packet) → 4 ≤ length packet → let r = accept p.kind port (key_at port p) table words packet output in let a = admitted (part_of words) (leb 16 (length streams)) streams port packet output p in
      Good r.1.0 r.1.1 a.1.0 × (length r.1.1 ≡ length words)
  unfolding accept refuses
  accept_good p long =
      let key = key_at port p in
      rw (good.shows.finds key (some_key port p), good.shows.holds port, full-shown table words streams good.shows)
      (go (refusals p.kind (stream_at table words key) (held_by table port) (leb 16 (slot_of table 0)) (part_of words) (length output)) refl)
    where
      go : (v : Verdict) → refuses table words packet port (key_at port p) (length output) (some_key port p) good.sound long p.kind ≡ v
          → let key = key_at port p in let words₀ = packets_of (stream_at table words key) in let four = take 4 packet in let after = stored_by p.kind key (slot_of table key) table words four in
          let reply = replied p.kind words₀ four in let out = onto (hands_out p.kind words₀ four) output in
          let r = writes {A = Reply} {Lent = Lent} v (table, words, output) reply (after.0, after.1, out) in
          let a = writes {A = Reply} {Lent = Streams × List ℕ} v (streams, output) reply (put streams key (stream_after p.kind words₀ four), out) in
          Good r.1.0 r.1.1 a.1.0 × (length r.1.1 ≡ length words)
      go (gives u) e =
          let n = some_key port p in
          let c = changes table words packet port (key_at port p) (length output) n good.sound long p.kind e in
          (record { shows = shows_put n good.distinct good.shows c; sound = c.sound; distinct = distinct_put streams (key_at port p) (stream_after p.kind (packets_of (stream_at table words (key_at port p))) (take 4 packet)) good.distinct }, c.size)
      go (refused number place) e = (good, refl)

  pub follows : Follows words (receive table words port packet output) (step (length words) streams port packet output)
  unfolding receive step
  follows =
      let rest = go (arrived (length words) (length output) port packet) refl in
      record { tell = tells table words port packet output streams good.shows; good = rest.0; size = rest.1 }
    where
      go : (x : Answer Packet) → arrived (length words) (length output) port packet ≡ x
          → let r = admit {Lent = Lent} x (table, words, output) (λ p. accept p.kind port (key_at port p) table words packet output) in
          let a = admit {Lent = Streams × List ℕ} x (streams, output) (admitted (part_of words) (leb 16 (length streams)) streams port packet output) in
          Good r.1.0 r.1.1 a.1.0 × (length r.1.1 ≡ length words)
      go (refused n q) e = (good, refl)
      go (gives p) e = accept_good p (read_facts packet p (came _ _ _ packet p e).read).long
