-- Never more than 16 streams are open and 12 of a port, each is of port 0 or 1, and keys are distinct. Assumes nothing.
use Rattle.std.specs.Prelude.{Option, None, Some}
use mathlib.Core.Path.{◌≡◌, refl, ◌∙◌}
use mathlib.Core.Bool.{Bool, true, false, not, ◌&&◌}
use mathlib.Core.List.{List, []}
use Prim.Native.Nat.{ℕ, zero, suc, ◌+◌, ◌/◌, ◌≤◌, ◌<◌}
use native.Mathlib.Omega.{arith}
use lib.Dec.{T, T_not, eqb, ltb, leb}
use lib.ListN.{length, take}
use borrow.Author.Tests.{leb-false, lt-leb}
use Rattle.refusal.specs.Answer.{Answer, gives, refused, Verdict, pass, ◌▷◌, guard, verdict, writes}
use Rattle.refusal.proofs.Laws.{never_refused, never_both, guard_passed, pass_both}
use Rattle.ump.specs.Packet.{sysex8, status_at, count_at}
use Rattle.ump.specs.Check.{bad_type, bad_count}
use Rattle.ump.specs.Single.{Kind, complete, start, continue, end, unexpected_end, Packet, blank, unexpected, read_packet8}
use Rattle.ports.specs.Streams.{is_of, Streams, stream_of, is_open, packets_of, share_of, put, refusals, stream_after, hands_out, Reply, replied, onto, arrived, admit, key_at, admitted, step}
use Rattle.ports.specs.Interleaved.{InBounds}
use Rattle.ports.proofs.Slots.{Same, alike, unlike, same, bit}
use Rattle.ports.proofs.Reading.{came, read_facts}
use Rattle.ports.proofs.Machine.{length_put, held_put, distinct_put}
use Rattle.ports.proofs.Cases.{step_cases}
use Rattle.ports.proofs.Alone.{key_of, key_not_of}

pub none_open : InBounds []
none_open = record { open_streams = omega arith; share = λ port. omega arith; two_ports = refl; distinct = tt }

-- a stream that is new after a packet: then fewer than 16 were open, and fewer than 12 of its port
pub data News (streams : Streams) (port : ℕ) (before after : Option (List ℕ)) : Type 0 where
  not_more : bit (is_open after) ≤ bit (is_open before) → News streams port before after
  one_more : length streams < 16 → share_of streams port < 12 → News streams port before after

bit_small : (b : Bool) → bit b ≤ 1
bit_small true = omega arith
bit_small false = omega arith

news : (kind : Kind) (streams : Streams) (port part room : ℕ) (stream : Option (List ℕ)) (packet : List ℕ)
    → refusals kind stream (share_of streams port) (leb 16 (length streams)) part room ≡ pass → News streams port stream (stream_after kind (packets_of stream) packet)
news start streams port part room None packet v =
    let a = pass_both (guard (leb 12 (share_of streams port)) 31 0) (guard (leb 16 (length streams)) 23 0 ▷ guard (ltb part 4) 14 0) v in
    let b = pass_both (guard (leb 16 (length streams)) 23 0) (guard (ltb part 4) 14 0) a.1 in
    one_more (leb-false 16 (length streams) (guard_passed _ 23 0 b.0)) (leb-false 12 (share_of streams port) (guard_passed _ 31 0 a.0))
news start streams port part room (Some words) packet v = not_more (omega arith)
news continue streams port part room None packet v = never_refused v
news continue streams port part room (Some words) packet v = not_more (omega arith)
news end streams port part room stream packet v = not_more (omega arith)
news (unexpected_end valid) streams port part room stream packet v = not_more (omega arith)
news complete streams port part room stream packet v = not_more (omega arith)

second : (port : ℕ) → port ≤ 1 → (port ≡ 0 → ⊥) → port ≡ 1
second zero h n = absurd (n refl)
second (suc port) h n = omega arith

-- ---- the bounds after a change of one stream

module _ (streams : Streams) (port : ℕ) (key : ℕ) (new : Option (List ℕ)) (two : port ≤ 1) (b : InBounds streams)
    (mine : is_of port key ≡ true) (others : (other : ℕ) → (port ≡ other → ⊥) → is_of other key ≡ false) (n : News streams port (stream_of streams key) new) where
  all_put : length (put streams key new) + bit (is_open (stream_of streams key)) ≡ length streams + bit (is_open new)
  all_put = length_put streams key new b.distinct

  own_held : share_of (put streams key new) port + bit (is_open (stream_of streams key)) ≡ share_of streams port + bit (is_open new)
  own_held = rw mine at (held_put port streams key new b.distinct)

  other_held : (other : ℕ) → (port ≡ other → ⊥) → share_of (put streams key new) other ≡ share_of streams other
  other_held other ne = omega (arith, rw (others other ne) at (held_put other streams key new b.distinct))

  open_now : News streams port (stream_of streams key) new → length (put streams key new) ≤ 16
  open_now (not_more h) = omega (arith, all_put, b.open_streams)
  open_now (one_more h i) = omega (arith, all_put, bit_small (is_open new))

  share_now : News streams port (stream_of streams key) new → (other : ℕ) → Same port other → share_of (put streams key new) other ≤ 12
  share_now (not_more h) other (alike p e) = rw (← p) (omega (arith, own_held, b.share port))
  share_now (one_more h i) other (alike p e) = rw (← p) (omega (arith, own_held, bit_small (is_open new)))
  share_now w other (unlike p e) = omega (arith, other_held other p, b.share other)

  two_now : length (put streams key new) ≡ share_of (put streams key new) 0 + share_of (put streams key new) 1
  two_now = go (same port 0)
    where
      go : Same port 0 → length (put streams key new) ≡ share_of (put streams key new) 0 + share_of (put streams key new) 1
      go (alike p e) =
          let o : share_of (put streams key new) 0 + bit (is_open (stream_of streams key)) ≡ share_of streams 0 + bit (is_open new) = rw p at own_held in
          omega (arith, all_put, o, other_held 1 (λ q. omega arith), b.two_ports)
      go (unlike p e) =
          let q : port ≡ 1 = second port two p in
          let o : share_of (put streams key new) 1 + bit (is_open (stream_of streams key)) ≡ share_of streams 1 + bit (is_open new) = rw q at own_held in
          omega (arith, all_put, o, other_held 0 p, b.two_ports)

  pub bounds_put : InBounds (put streams key new)
  bounds_put = record {
    open_streams = open_now n;
    share = λ other. share_now n other (same port other);
    two_ports = two_now;
    distinct = distinct_put streams key new b.distinct;
  }

-- ---- after a step

pub bounds_step : (lent : ℕ) (streams : Streams) (port : ℕ) (packet output : List ℕ) → InBounds streams → InBounds (step lent streams port packet output).1.0
bounds_step lent streams port packet output b =
    step_cases lent streams port packet output (λ o. InBounds o.1.0) (λ number place. b)
    (λ p e v.
    let c = came lent (length output) port packet p e in
    let small = (read_facts packet p c.read).small in
    let stream = stream_of streams (key_at port p) in
    bounds_put streams port (key_at port p) (stream_after p.kind (packets_of stream) (take 4 packet)) c.two b (key_of port p small) (λ other n. key_not_of port other p small n)
    (news p.kind streams port (lent / 16) (length output) stream (take 4 packet) v))

-- ---- a port with fewer than four streams is never refused a slot

-- an answer that is neither Share nor Full
pub data SlotGiven {A : Type 0} : Answer A → Type 0 where
  accepted : {value : A} → SlotGiven (gives value)
  other : (number : ℕ) {place : ℕ} → T (not (eqb number 31)) → T (not (eqb number 23)) → SlotGiven (refused number place)

pub not_for_slot : {A : Type 0} {number place : ℕ} {answer : Answer A} → SlotGiven answer → answer ≡ refused number place → (number ≡ 31 → ⊥) × (number ≡ 23 → ⊥)
not_for_slot accepted e = never_both e
not_for_slot {number = number} (other n t u) e =
    let s : n ≡ number = cc in
    (λ q. T_not (eqb n 31) t (rw (s ∙ q) tt), λ q. T_not (eqb n 23) u (rw (s ∙ q) tt))

given_guard : (b : Bool) (number place : ℕ) → T (not (eqb number 31)) → T (not (eqb number 23)) → SlotGiven (guard b number place)
given_guard true number place t u = other number t u
given_guard false number place t u = accepted

given_both : {A : Type 0} (v : Verdict) (answer : Answer A) → SlotGiven v → SlotGiven answer → SlotGiven (v ▷ answer)
given_both (gives u) answer h k = k
given_both (refused number place) answer (other n t u) k = other n t u

given_verdict : {A : Type 0} (answer : Answer A) → SlotGiven answer → SlotGiven (verdict answer)
given_verdict (gives value) h = accepted
given_verdict (refused number place) (other n t u) = other n t u

given_read : (packet : List ℕ) → SlotGiven (read_packet8 packet)
unfolding read_packet8
given_read packet =
    given_both _ _ (given_guard (ltb (length packet) 4) 3 0 tt tt)
    (given_both _ _ (given_guard (bad_type sysex8 packet 0) 5 0 tt tt)
    (given_both _ _ (given_guard (ltb 3 (status_at sysex8 packet 0)) 15 0 tt tt)
    (given_both _ _ (given_guard (bad_count sysex8 packet 0 && not (unexpected (status_at sysex8 packet 0) (count_at sysex8 packet 0) (blank packet))) 10 0 tt tt) accepted)))

given_arrived : (lent room port : ℕ) (packet : List ℕ) → SlotGiven (arrived lent room port packet)
unfolding arrived
given_arrived lent room port packet =
    given_both _ _ (given_guard (ltb 16384 lent) 1 0 tt tt)
    (given_both _ _ (given_guard (ltb 16384 room) 1 0 tt tt)
    (given_both _ _ (given_verdict (read_packet8 packet) (given_read packet))
    (given_both _ _ (given_guard (ltb 1 port) 29 0 tt tt) (given_read packet))))

given_refusals : (kind : Kind) (stream : Option (List ℕ)) (holds part room : ℕ) → holds < 4 → SlotGiven (refusals kind stream holds false part room)
given_refusals start None holds part room few = rw (lt-leb 12 holds (omega arith)) (given_guard (ltb part 4) 14 0 tt tt)
given_refusals start (Some words) holds part room few = given_guard (ltb part 4) 14 0 tt tt
given_refusals continue None holds part room few = other 30 tt tt
given_refusals continue (Some words) holds part room few = given_guard (ltb part (length words + 4)) 14 0 tt tt
given_refusals end None holds part room few = other 30 tt tt
given_refusals end (Some words) holds part room few = given_guard (ltb room (length words + 4)) 14 0 tt tt
given_refusals (unexpected_end valid) None holds part room few = other 30 tt tt
given_refusals (unexpected_end true) (Some words) holds part room few = given_guard (ltb room (length words + 4)) 14 0 tt tt
given_refusals (unexpected_end false) (Some words) holds part room few = accepted
given_refusals complete stream holds part room few = given_guard (ltb room 4) 14 0 tt tt

room_left : (streams : Streams) (port : ℕ) → port ≤ 1 → InBounds streams → share_of streams port < 4 → length streams < 16
room_left streams zero h b few = omega (arith, b.two_ports, b.share 1)
room_left streams (suc zero) h b few = omega (arith, b.two_ports, b.share 0)
room_left streams (suc (suc n)) h b few = absurd (omega arith)

pub slot_given : (lent : ℕ) (streams : Streams) (port : ℕ) (packet output : List ℕ) → port ≤ 1 → InBounds streams → share_of streams port < 4
    → SlotGiven (step lent streams port packet output).0
unfolding step
slot_given lent streams port packet output two b few = go (arrived lent (length output) port packet) (given_arrived lent (length output) port packet)
  where
    both : (v : Verdict) (reply : Reply) (before after : Streams × List ℕ) → SlotGiven v → SlotGiven (writes {A = Reply} {Lent = Streams × List ℕ} v before reply after).0
    both (gives u) reply before after h = accepted
    both (refused n q) reply before after (other m t u) = other m t u

    go : (x : Answer Packet) → SlotGiven x → SlotGiven (admit {Lent = Streams × List ℕ} x (streams, output) (admitted (lent / 16) (leb 16 (length streams)) streams port packet output)).0
    go (refused n q) (other m t u) = other m t u
    go (gives p) h =
        let stream = stream_of streams (key_at port p) in
        let four = take 4 packet in
        rw (lt-leb 16 (length streams) (room_left streams port two b few))
        (both (refusals p.kind stream (share_of streams port) false (lent / 16) (length output)) (replied p.kind (packets_of stream) four) (streams, output)
        (put streams (key_at port p) (stream_after p.kind (packets_of stream) four), onto (hands_out p.kind (packets_of stream) four) output)
        (given_refusals p.kind stream (share_of streams port) (lent / 16) (length output) few))
