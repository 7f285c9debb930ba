-- What a port is told in a run of steps goes by its own streams, its own calls, and which of these get Full. Assumes nothing.
use Rattle.std.specs.Prelude.{Option, None, Some}
use mathlib.Core.Path.{◌≡◌, refl, sym, ap, ◌∙◌, subst}
use mathlib.Core.Bool.{Bool, true, false}
use mathlib.Core.List.{List, [], ◌∷◌}
use Prim.Native.Nat.{ℕ, ◌+◌, ◌/◌, ◌≤◌}
use native.Mathlib.Omega.{arith}
use lib.Dec.{ltb, leb}
use lib.ListN.{length, get_or, take}
use borrow.Author.Tests.{eq-eqb, ne_eqb}
use Rattle.refusal.specs.Answer.{Answer, gives, refused, Verdict, ◌▷◌, guard, writes}
use Rattle.ump.specs.Single.{Kind, complete, start, continue, end, unexpected_end, Packet}
use Rattle.ports.specs.Streams.{is_of, Streams, stream_of, packets_of, own, share_of, put, refusals, stream_after, hands_out, Reply, replied, onto, arrived, admit, key_at, admitted, step}
use Rattle.ports.specs.History.{Call, Told, steps, calls, tolds, is_full, fulls, of_port}
use Rattle.ports.proofs.Slots.{Same, alike, unlike, same}
use Rattle.ports.proofs.Reading.{came, read_facts}
use Rattle.ports.proofs.Machine.{find-own, own_put, own_put_other}
use Rattle.ports.proofs.Cases.{Outcome, step_cases}

-- a step where 16 streams are open or not
step_if : ℕ → Bool → Streams → ℕ → List ℕ → List ℕ → Outcome
step_if lent full streams port packet output = admit (arrived lent (length output) port packet) (streams, output) (admitted (lent / 16) full streams port packet output)

own-twice : (port : ℕ) (streams : Streams) → own port (own port streams) ≡ own port streams
own-twice port [] = refl
own-twice port (s ∷ streams) = go (is_of port s.key) refl (own-twice port streams)
  where
    go : (b : Bool) → is_of port s.key ≡ b → own port (own port streams) ≡ own port streams → own port (own port (s ∷ streams)) ≡ own port (s ∷ streams)
    go true e more = rw (e, e, more)
    go false e more = rw (e, more)

-- ---- a call is that of its port alone

-- a key is one of its port, and of no other
key_port : (port : ℕ) (p : Packet) → (p.group ≤ 15) × (get_or p.id 0 0 ≤ 255) → key_at port p / 65536 ≡ port + 1
key_port port p h = omega (arith, h.0, h.1)

pub key_of : (port : ℕ) (p : Packet) → (p.group ≤ 15) × (get_or p.id 0 0 ≤ 255) → is_of port (key_at port p) ≡ true
key_of port p h = eq-eqb (key_at port p / 65536) (port + 1) (key_port port p h)

pub key_not_of : (port other : ℕ) (p : Packet) → (p.group ≤ 15) × (get_or p.id 0 0 ≤ 255) → (port ≡ other → ⊥) → is_of other (key_at port p) ≡ false
key_not_of port other p h n = ne_eqb (key_at port p / 65536) (other + 1) (λ e. n (let q : port + 1 ≡ other + 1 = sym (key_port port p h) ∙ e in omega arith))

pub record Alike (a b : Outcome) (port : ℕ) : Type 0 where
  pub answer : a.0 ≡ b.0
  pub output : a.1.1 ≡ b.1.1
  pub streams : own port a.1.0 ≡ b.1.0

module _ (lent port : ℕ) (packet output : List ℕ) (streams : Streams) where
  own-step : Alike (step lent streams port packet output) (step_if lent (leb 16 (length streams)) (own port streams) port packet output) port
  unfolding step step_if
  own-step = go (arrived lent (length output) port packet) refl
    where
      both : (v : Verdict) (reply : Reply) (after after' : Streams) (output' : List ℕ) → own port after ≡ after'
          → Alike (writes v (streams, output) reply (after, output')) (writes v (own port streams, output) reply (after', output')) port
      both (gives u) reply after after' output' e = record { answer = refl; output = refl; streams = e }
      both (refused n q) reply after after' output' e = record { answer = refl; output = refl; streams = refl }

      go : (x : Answer Packet) → arrived lent (length output) port packet ≡ x
          → Alike (admit {Lent = Streams × List ℕ} x (streams, output) (admitted (lent / 16) (leb 16 (length streams)) streams port packet output))
          (admit {Lent = Streams × List ℕ} x (own port streams, output) (admitted (lent / 16) (leb 16 (length streams)) (own port streams) port packet output)) port
      go (refused n q) e = record { answer = refl; output = refl; streams = refl }
      go (gives p) e =
          let mine = key_of port p (read_facts packet p (came _ _ _ packet p e).read).small in
          let key = key_at port p in
          let words = packets_of (stream_of streams key) in
          let new = stream_after p.kind words (take 4 packet) in
          rw (find-own port streams key mine, own-twice port streams)
          (both (refusals p.kind (stream_of streams key) (share_of streams port) (leb 16 (length streams)) (lent / 16) (length output)) (replied p.kind words (take 4 packet))
          (put streams key new) (put (own port streams) key new) (onto (hands_out p.kind words (take 4 packet)) output) (own_put port streams key new mine))

  -- and leaves the streams of every other port
  other_step : (other : ℕ) → (port ≡ other → ⊥) → own other (step lent streams port packet output).1.0 ≡ own other streams
  other_step other n =
      step_cases lent streams port packet output (λ o. own other o.1.0 ≡ own other streams) (λ number place. refl)
      (λ p e v. own_put_other other streams (key_at port p) (stream_after p.kind (packets_of (stream_of streams (key_at port p))) (take 4 packet)) (key_not_of port other p (read_facts packet p (came _ _ _ packet p e).read).small n))

-- ---- all that the other port decides is whether the answer is Full

full_start : (share full small : Bool) → let v = guard share 31 0 ▷ guard full 23 0 ▷ guard small 14 0 in v ≡ guard share 31 0 ▷ guard (is_full v) 23 0 ▷ guard small 14 0
full_start true full small = refl
full_start false true small = refl
full_start false false true = refl
full_start false false false = refl

full_said : (kind : Kind) (stream : Option (List ℕ)) (holds : ℕ) (full : Bool) (part room : ℕ)
    → refusals kind stream holds full part room ≡ refusals kind stream holds (is_full (refusals kind stream holds full part room)) part room
full_said start None holds full part room = full_start (leb 12 holds) full (ltb part 4)
full_said start (Some words) holds full part room = refl
full_said continue None holds full part room = refl
full_said continue (Some words) holds full part room = refl
full_said end None holds full part room = refl
full_said end (Some words) holds full part room = refl
full_said (unexpected_end valid) None holds full part room = refl
full_said (unexpected_end true) (Some words) holds full part room = refl
full_said (unexpected_end false) (Some words) holds full part room = refl
full_said complete stream holds full part room = refl

flag_enough : (lent : ℕ) (full : Bool) (streams : Streams) (port : ℕ) (packet output : List ℕ)
    → step_if lent full streams port packet output ≡ step_if lent (is_full (step_if lent full streams port packet output).0) streams port packet output
unfolding step_if
flag_enough lent full streams port packet output = go (arrived lent (length output) port packet)
  where
    is-full : (v : Verdict) (reply : Reply) (before after : Streams × List ℕ) → is_full v ≡ is_full (writes v before reply after).0
    is-full (gives u) reply before after = refl
    is-full (refused n q) reply before after = refl

    go : (x : Answer Packet) → let r : Bool → Outcome = λ b. admit {Lent = Streams × List ℕ} x (streams, output) (admitted (lent / 16) b streams port packet output) in
        r full ≡ r (is_full (r full).0)
    go (refused n q) = refl
    go (gives p) =
        let stream = stream_of streams (key_at port p) in
        let v : Bool → Verdict = λ b. refusals p.kind stream (share_of streams port) b (lent / 16) (length output) in
        let reply = replied p.kind (packets_of stream) (take 4 packet) in
        let after : Streams × List ℕ =
        (put streams (key_at port p) (stream_after p.kind (packets_of stream) (take 4 packet)), onto (hands_out p.kind (packets_of stream) (take 4 packet)) output)
        in
        let r : Verdict → Outcome = λ w. writes w (streams, output) reply after in
        ap r (full_said p.kind stream (share_of streams port) full (lent / 16) (length output) ∙ ap v (is-full (v full) reply (streams, output) after))

-- ---- a run of steps

-- what the calls of one port are told, by its own streams and by which of them get Full
alone : ℕ → Streams → List Call → List Bool → List Told
alone lent streams [] flags = []
alone lent streams (c ∷ cs) [] = []
alone lent streams (c ∷ cs) (full ∷ flags) =
    let after = step_if lent full streams c.port c.packet c.output in
    (after.0, after.1.1) ∷ alone lent after.1.0 cs flags

run_alone : (port lent : ℕ) (streams : Streams) (cs : List Call) → let events = of_port port (steps lent streams cs) in
    tolds events ≡ alone lent (own port streams) (calls events) (fulls events)
unfolding steps alone
run_alone port lent streams [] = refl
run_alone port lent streams (c ∷ cs) = go (same c.port port) (run_alone port lent (step lent streams c.port c.packet c.output).1.0 cs)
  where
    join : (a b z : Outcome) (mine : Streams) (xs : List Told) (rest : Streams → List Told) → a.0 ≡ b.0 → a.1.1 ≡ b.1.1 → mine ≡ b.1.0
        → b ≡ z → xs ≡ rest mine → ◌≡◌ {A = List Told} ((a.0, a.1.1) ∷ xs) ((z.0, z.1.1) ∷ rest z.1.0)
    join a b z mine xs rest h i j k l = rw (← k, h, i, l, j)

    go : Same c.port port
        → let after = step lent streams c.port c.packet c.output in let events = of_port port (steps lent after.1.0 cs) in
        tolds events ≡ alone lent (own port after.1.0) (calls events) (fulls events)
        → let events = of_port port (steps lent streams (c ∷ cs)) in tolds events ≡ alone lent (own port streams) (calls events) (fulls events)
    go (unlike n e) more = rw e (rw (other_step lent c.port c.packet c.output streams port n) at more)
    go (alike q e) more =
        let full = leb 16 (length streams) in
        let a = step lent streams c.port c.packet c.output in
        let b : Bool → Outcome = λ x. step_if lent x (own port streams) c.port c.packet c.output in
        let like : Alike a (b full) port = subst
        (λ (x : ℕ). Alike (step lent streams c.port c.packet c.output) (step_if lent (leb 16 (length streams)) (own x streams) c.port c.packet c.output) x) q
        (own-step lent c.port c.packet c.output streams) in
        let flag : b full ≡ b (is_full a.0) =
        flag_enough lent full (own port streams) c.port c.packet c.output ∙ ap (λ (x : Answer Reply). b (is_full x)) (sym like.answer)
        in
        let events = of_port port (steps lent a.1.0 cs) in
        rw e (join a (b full) (b (is_full a.0)) (own port a.1.0) (tolds events) (λ x. alone lent x (calls events) (fulls events)) like.answer like.output like.streams flag more)

-- two runs in which a port begins with the same streams, makes the same calls, and the same ones get Full: it is told the same
pub same_told : (port lent : ℕ) (streams streams' : Streams) (cs cs' : List Call) → own port streams ≡ own port streams'
    → let events = of_port port (steps lent streams cs) in let events' = of_port port (steps lent streams' cs') in
    calls events ≡ calls events' → fulls events ≡ fulls events' → tolds events ≡ tolds events'
same_told port lent streams streams' cs cs' o c f = run_alone port lent streams cs ∙ (rw (o, c, f)) ∙ sym (run_alone port lent streams' cs')
