-- What is said of interleaved streams holds of any two calls that promise the definitions. Assumes nothing.
use Rattle.std.specs.Prelude.{Option, None, Some}
use mathlib.Core.Path.{◌≡◌, refl, sym, ap, ◌∙◌, subst}
use mathlib.Core.Bool.{false}
use mathlib.Core.List.{List, [], ◌∷◌}
use Prim.Native.Nat.{ℕ, suc, ◌+◌, ◌/◌, ◌≤◌, ◌<◌}
use native.Mathlib.Omega.{arith}
use lib.Dec.{leb}
use lib.ListN.{length, get_or, take, get_or-replicate}
use borrow.Author.Tests.{lt-leb, le-ltb, eq-eqb, ne_eqb}
use Rattle.refusal.specs.Answer.{Answer, gives, refused, Verdict, pass, writes}
use Rattle.refusal.proofs.Laws.{writes_refused}
use Rattle.ump.specs.Packet.{sysex8}
use Rattle.ump.specs.Single.{start, continue, Packet, read_packet8}
use Rattle.ump.specs.Check.{Valid}
use Rattle.ump.proofs.Checks.{valid_passes}
use Rattle.ports.specs.Streams.{is_of, Streams, stream_of, packets_of, share_of, put, refusals, stream_after, hands_out, Reply, kept, handed_out, replied, onto, arrived, admit, key_at, step}
use Rattle.ports.specs.Table.{has_key, slot_of, held_by, part_of, streams_in, stream_at, stored_by, empty_table, Lent, accept, receive}
use Rattle.ports.specs.History.{Receiver, Clearer, Call, Event, State, CallOn, History, begun, then, steps, calls, tolds, fulls, of_port, heard, since}
use Rattle.ports.specs.Interleaved.{Empty, InBounds, streams_of, Reached, Arrives, Interleaved, PromisedPorts}
use Rattle.ports.proofs.Slots.{slot_none, count_zero, count_all}
use Rattle.ports.proofs.Reading.{came, read_facts}
use Rattle.ports.proofs.Looks.{look_none}
use Rattle.ports.proofs.Machine.{length_put, held_put}
use Rattle.ports.proofs.Changes.{Shows}
use Rattle.ports.proofs.Simulation.{tells, Good, Follows, follows}
use Rattle.ports.proofs.Meant.{shown, good_in}
use Rattle.ports.proofs.Cases.{Outcome, step_accepted}
use Rattle.ports.proofs.Alone.{key_of, same_told}
use Rattle.ports.proofs.Bounds.{none_open, bounds_step, not_for_slot, slot_given}
use Rattle.ports.proofs.Since.{heard-step}
use Rattle.ports.proofs.Handing.{Orderly, Proper, none_orderly, step_fine}

-- ---- an empty table

cleared : Empty empty_table
cleared = record { whole = refl; free = λ k l. get_or-replicate 32 k 0 0 (omega arith) }

empty_good : {table : List ℕ} → Empty table → (words : List ℕ) → Good table words []
unfolding held_by
empty_good {table} e words = record {
  shows = record {
    finds = λ key n. sym (look_none table words key (let z = slot_none table key (λ k l q. n (sym q ∙ e.free k l)) in omega arith));
    holds = λ port. sym (count_zero (λ k. is_of port (get_or table k 0)) 16 (λ j l. rw (e.free j l) (ne_eqb 0 (port + 1) (λ q. omega arith))));
    all = omega (arith, count_all (has_key table 0) 16 (λ j l. eq-eqb _ _ (e.free j l)));
  };
  sound = record { whole = e.whole; apart = λ j k hj hk q n. absurd (n (e.free j hj)) };
  distinct = tt;
}

-- ---- two lists of streams that one table shows

module _ {table words : List ℕ} {streams streams' : Streams} (s : Shows table words streams) (s' : Shows table words streams') where
  same_length : length streams ≡ length streams'
  same_length = omega (arith, s.all, s'.all)

  same-held : (port : ℕ) → share_of streams port ≡ share_of streams' port
  same-held port = s.holds port ∙ sym (s'.holds port)

-- ---- a refusal leaves what is lent

module _ (table words : List ℕ) (port : ℕ) (packet output : List ℕ) {number place : ℕ} {lent : Lent} where
  accept_left : (p : Packet) → (refused number place, lent) ≡ accept p.kind port (key_at port p) table words packet output → lent ≡ (table, words, output)
  unfolding accept
  accept_left p =
      let stream = stream_at table words (key_at port p) in
      let after = stored_by p.kind (key_at port p) (slot_of table (key_at port p)) table words (take 4 packet) in
      go (refusals p.kind stream (held_by table port) (leb 16 (slot_of table 0)) (part_of words) (length output)) (replied p.kind (packets_of stream) (take 4 packet))
      (after.0, after.1, onto (hands_out p.kind (packets_of stream) (take 4 packet)) output)
    where
      go : (v : Verdict) (reply : Reply) (after : Lent) → (refused number place, lent) ≡ writes v (table, words, output) reply after → lent ≡ (table, words, output)
      go v reply after e = (writes_refused v (table, words, output) (λ u. reply) (λ u. after) (sym e)).1

  left : (refused number place, lent) ≡ receive table words port packet output → lent ≡ (table, words, output)
  unfolding receive
  left = go (arrived (length words) (length output) port packet)
    where
      go : (x : Answer Packet) → (refused number place, lent) ≡ admit {Lent = Lent} x (table, words, output) (λ p. accept p.kind port (key_at port p) table words packet output)
          → lent ≡ (table, words, output)
      go (refused n q) e = ap (λ (o : Answer Reply × Lent). o.1) e
      go (gives p) e = accept_left p e

-- ---- a start where there is room, and a continue

module _ (lent : ℕ) (streams : Streams) (port : ℕ) (packet output : List ℕ) {p : Packet} (a : arrived lent (length output) port packet ≡ gives p) where
  opens : p.kind ≡ start → length streams < 16 → share_of streams port < 12 → 4 ≤ lent / 16 → (step lent streams port packet output).0 ≡ gives kept
  unfolding step
  opens k few mine part = rw (a, k, lt-leb 16 (length streams) few, passes (stream_of streams (key_at port p)))
    where
      passes : (stream : Option (List ℕ)) → refusals start stream (share_of streams port) false (lent / 16) (length output) ≡ pass
      passes None = rw (lt-leb 12 (share_of streams port) mine, le-ltb (lent / 16) 4 part)
      passes (Some words) = rw (le-ltb (lent / 16) 4 part)

  grows : {packets : List ℕ} → p.kind ≡ continue → stream_of streams (key_at port p) ≡ Some packets → length packets + 4 ≤ lent / 16 → (step lent streams port packet output).0 ≡ gives kept
  unfolding step
  grows {packets} k f fits = rw (a, k, f, le-ltb (lent / 16) (length packets + 4) fits)

module _ {Receives : Receiver} {Clears : Clearer} (promised : PromisedPorts Receives Clears) where
  -- ---- one call

  -- a call on a table that shows streams is a step on these
  call_follows : {s : State} {c : Call} {answer : Answer Reply} {table words output : List ℕ} {streams : Streams} → Good s.table s.words streams
      → CallOn Receives s c (answer, (table, words, output)) → Follows s.words (answer, (table, words, output)) (step (length s.words) streams c.port c.packet c.output)
  call_follows {s} {c} {streams = streams} good call =
      subst (λ (o : Answer Reply × Lent). Follows s.words o (step (length s.words) streams c.port c.packet c.output)) (sym (promised.receives call))
      (follows s.table s.words c.port c.packet c.output streams good)

  -- ---- a run

  -- what is known where a run ends: the streams that its state shows
  record Ended (lent : ℕ) (streams : Streams) (events : List Event) (t : State) : Type 0 where
    last : Streams
    good : Good t.table t.words last
    bounds : InBounds last
    orderly : Orderly last
    holds : (key : ℕ) → stream_of last key ≡ since key (stream_of streams key) events
    size : length t.words ≡ lent
    is : events ≡ steps lent streams (calls events)

  run_ended : {s t : State} {events : List Event} → History Receives s events t → (streams : Streams) → Good s.table s.words streams → InBounds streams → Orderly streams
      → Ended (length s.words) streams events t
  unfolding since steps
  run_ended begun streams good bounds orderly =
      record { last = streams; good = good; bounds = bounds; orderly = orderly; holds = λ key. refl; size = refl; is = refl }
  run_ended {s} {t} (then {c = c} {answer = answer} {words = words} {output = output} {events = events} call run) streams good bounds orderly =
      let lent = length s.words in
      let f = call_follows good call in
      let a = step lent streams c.port c.packet c.output in
      let more = run_ended run a.1.0 f.good (bounds_step lent streams c.port c.packet c.output bounds) (step_fine lent streams c.port c.packet c.output orderly).1 in
      record {
        last = more.last;
        good = more.good;
        bounds = more.bounds;
        orderly = more.orderly;
        holds = λ key. more.holds key
            ∙ ap (λ (x : Option (List ℕ)). since key x events)
            (heard-step lent streams c.port c.packet c.output key
            ∙ ap (λ (x : Answer Reply). heard key c.port x (read_packet8 c.packet) (take 4 c.packet) (stream_of streams key)) (sym f.tell.answer));
        size = more.size ∙ f.size;
        is = rw (f.tell.answer, f.tell.output) (ap (λ (x : List Event). record { call = c; told = (a.0, a.1.1) } ∷ x) (more.is ∙ ap (λ (n : ℕ). steps n a.1.0 (calls events)) f.size));
      }

  -- on a table that was empty
  from_empty : {s t : State} {events : List Event} → History Receives s events t → Empty s.table → Ended (length s.words) [] events t
  from_empty {s} run e = run_ended run [] (empty_good e s.words) none_open none_orderly

  -- the streams that the state means are in bounds too
  meant_bounds : {lent : ℕ} {streams : Streams} {events : List Event} {t : State} → Ended lent streams events t → InBounds (streams_of t)
  meant_bounds {t = t} e =
      let mine = shown t.table t.words in
      let last = e.good.shows in
      record {
        open_streams = omega (arith, same_length mine last, e.bounds.open_streams);
        share = λ port. omega (arith, same-held mine last port, e.bounds.share port);
        two_ports = omega (arith, same_length mine last, same-held mine last 0, same-held mine last 1, e.bounds.two_ports);
        distinct = (good_in t.table t.words e.good.sound).distinct;
      }

  -- ---- a call on a state that a run reached

  module _ {events : List Event} {t : State} {c : Call} {answer : Answer Reply} {table words output : List ℕ} (r : Reached Receives events t c (answer, (table, words, output))) where
    ended : Ended (length r.first.words) [] events t
    ended = from_empty r.run r.empty

    abbrev lent : ℕ
    lent = length t.words

    -- it is a step on the streams that the state means, and on those where the run ended
    meant_follows : Follows t.words (answer, (table, words, output)) (step lent (streams_of t) c.port c.packet c.output)
    meant_follows = call_follows (good_in t.table t.words ended.good.sound) r.last

    last_follows : Follows t.words (answer, (table, words, output)) (step lent ended.last c.port c.packet c.output)
    last_follows = call_follows ended.good r.last

    told_here : {p : Packet} {reply : Reply} → answer ≡ gives reply → Arrives t c p → let before = packets_of (since (key_at c.port p) None events) in
        (reply ≡ replied p.kind before (take 4 c.packet)) × (output ≡ onto (hands_out p.kind before (take 4 c.packet)) c.output)
    told_here {p} {reply} e a =
        let f = last_follows.tell in
        let w = step_accepted lent ended.last c.port c.packet c.output p a (sym f.answer ∙ e) in
        let h : stream_of ended.last (key_at c.port p) ≡ since (key_at c.port p) None events = ended.holds (key_at c.port p) in
        let g = sym e ∙ f.answer ∙ ap (λ (o : Outcome). o.0) w in
        let same : reply ≡ replied p.kind (packets_of (stream_of ended.last (key_at c.port p))) (take 4 c.packet) = cc in
        (rw h at same, f.output ∙ (rw h at (ap (λ (o : Outcome). o.1.1) w)))

    valid_here : {n : ℕ} → answer ≡ gives (handed_out n) → Valid sysex8 output n
    unfolding Proper
    valid_here {n} e =
        let f = last_follows.tell in
        subst (λ (x : List ℕ). Valid sysex8 x n) (sym f.output)
        ((step_fine lent ended.last c.port c.packet c.output ended.orderly).0 n (sym f.answer ∙ e))

    given_here : {number place : ℕ} → answer ≡ refused number place → c.port ≤ 1 → share_of (streams_of t) c.port < 4 → (number ≡ 31 → ⊥) × (number ≡ 23 → ⊥)
    given_here e two few =
        not_for_slot (slot_given lent (streams_of t) c.port c.packet c.output two (meant_bounds ended) few) (sym meant_follows.tell.answer ∙ e)

    -- the streams after it, where it is accepted
    put_here : {p : Packet} {reply : Reply} → answer ≡ gives reply → Arrives t c p
        → Shows table words (put (streams_of t) (key_at c.port p) (stream_after p.kind (packets_of (stream_of (streams_of t) (key_at c.port p))) (take 4 c.packet)))
    put_here {p} e a =
        subst (λ (x : Streams). Shows table words x)
        (ap (λ (o : Outcome). o.1.0) (step_accepted lent (streams_of t) c.port c.packet c.output p a (sym meant_follows.tell.answer ∙ e)))
        meant_follows.good.shows

    freed_here : {p : Packet} {reply : Reply} {packets : List ℕ} → answer ≡ gives reply → Arrives t c p → stream_of (streams_of t) (key_at c.port p) ≡ Some packets
        → stream_after p.kind packets (take 4 c.packet) ≡ None
        → (suc (length (streams_in table words)) ≡ length (streams_of t)) × (suc (share_of (streams_in table words) c.port) ≡ share_of (streams_of t) c.port)
    freed_here {p} {packets = packets} e a f j =
        let key = key_at c.port p in
        let d = (good_in t.table t.words ended.good.sound).distinct in
        let mine = key_of c.port p (read_facts c.packet p (came _ _ _ c.packet p a).read).small in
        let now : Shows table words (put (streams_of t) key None) = rw (f, j) at (put_here e a) in
        let all = rw f at (length_put (streams_of t) key None d) in
        let own = rw (f, mine) at (held_put c.port (streams_of t) key None d) in
        (omega (arith, same_length (shown table words) now, all), omega (arith, same-held (shown table words) now c.port, own))

    opened_here : {p : Packet} → Arrives t c p → p.kind ≡ start → length (streams_of t) < 16 → share_of (streams_of t) c.port < 12 → 4 ≤ part_of t.words → answer ≡ gives kept
    opened_here a k few mine part = meant_follows.tell.answer ∙ opens lent (streams_of t) c.port c.packet c.output a k few mine part

    grown_here : {p : Packet} {packets : List ℕ} → Arrives t c p → p.kind ≡ continue → stream_of (streams_of t) (key_at c.port p) ≡ Some packets
        → length packets + 4 ≤ part_of t.words → answer ≡ gives kept
    grown_here a k f fits = meant_follows.tell.answer ∙ grows lent (streams_of t) c.port c.packet c.output a k f fits

  -- ---- all that is said

  apart_told : (port : ℕ) {s t s' t' : State} {events events' : List Event} → History Receives s events t → History Receives s' events' t'
      → Empty s.table → Empty s'.table → length s.words ≡ length s'.words
      → calls (of_port port events) ≡ calls (of_port port events') → fulls (of_port port events) ≡ fulls (of_port port events')
      → tolds (of_port port events) ≡ tolds (of_port port events')
  apart_told port {s} {s' = s'} {events = events} {events' = events'} run run' e e' l own full =
      let is = (from_empty run e).is in
      let is' : events' ≡ steps (length s.words) [] (calls events') = (from_empty run' e').is ∙ ap (λ (n : ℕ). steps n [] (calls events')) (sym l) in
      ap (λ (x : List Event). tolds (of_port port x)) is
      ∙ same_told port (length s.words) [] [] (calls events) (calls events') refl
      (sym (ap (λ (x : List Event). calls (of_port port x)) is) ∙ own ∙ ap (λ (x : List Event). calls (of_port port x)) is')
      (sym (ap (λ (x : List Event). fulls (of_port port x)) is) ∙ full ∙ ap (λ (x : List Event). fulls (of_port port x)) is')
      ∙ sym (ap (λ (x : List Event). tolds (of_port port x)) is')

  pub interleaved : Interleaved Receives Clears
  interleaved = record {
    answers = λ table words port packet output whole. record { outcome = receive table words port packet output; call = promised.can_receive table words port packet output whole };
    clears = λ c. subst (λ (x : List ℕ). Empty x) (sym (promised.clears c)) cleared;
    can_clear = promised.can_clear;
    meant = λ {table} {words} {packet} {output} {port = port} call. let e = promised.receives call in
        let t = tells table words port packet output (streams_in table words) (shown table words) in
        (ap (λ (o : Answer Reply × Lent). o.0) e ∙ t.answer, ap (λ (o : Answer Reply × Lent). o.1.2) e ∙ t.output);
    leaves = λ call. left _ _ _ _ _ (promised.receives call);
    follows = λ run e. (from_empty run e).is;
    bounds = λ run e. meant_bounds (from_empty run e);
    holds = λ {t = t} run e key some_key. let r = from_empty run e in let n : key ≡ 0 → ⊥ = λ z. omega arith in
        (shown t.table t.words).finds key n ∙ sym (r.good.shows.finds key n) ∙ r.holds key;
    slot_for_four = λ r. given_here r refl;
    apart = apart_told;
    hands = λ r. told_here r refl;
    passes = λ r. let v = valid_here r refl in (v, valid_passes sysex8 _ _ v);
    frees = λ r. freed_here r refl;
    opens = λ r. opened_here r;
    grows = λ r. grown_here r;
  }
