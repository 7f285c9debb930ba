-- Every message that is handed out is a valid one of document 01. Assumes nothing.
use Rattle.std.specs.Prelude.{Option, None, Some}
use mathlib.Core.Path.{◌≡◌, refl, sym, ap, ◌∙◌, subst}
use mathlib.Core.Bool.{Bool, true, false}
use mathlib.Core.List.{List, [], ◌++◌}
use Prim.Native.Nat.{ℕ, ◌+◌, ◌/◌, ◌≤◌}
use native.Mathlib.Omega.{arith}
use lib.ListN.{length, get_or, take, length-append, length-drop}
use lib.Seq.{length-take-le}
use borrow.Author.Tests.{ltb-false}
use Rattle.refusal.specs.Answer.{Answer, gives, refused, pass}
use Rattle.refusal.proofs.Laws.{never_refused, guard_passed}
use Rattle.ump.specs.Packet.{sysex8}
use Rattle.ump.specs.Check.{Valid}
use Rattle.ump.specs.Single.{Kind, complete, start, continue, end, unexpected_end, Packet}
use Rattle.ump.proofs.First.{never}
use Rattle.ports.specs.Streams.{Streams, stream_of, packets_of, put, refusals, stream_after, hands_out, Reply, kept, dropped, handed_out, replied, onto, key_at, step}
use Rattle.ports.proofs.Slots.{Same, alike, unlike, same}
use Rattle.ports.proofs.Reading.{came, Read, read_facts}
use Rattle.ports.proofs.Machine.{some_none, find_put_same, find_put_other}
use Rattle.ports.proofs.Cases.{step_cases}
use Rattle.ports.proofs.Messages.{Head, status_of, read_head, Begun, begun_start, begun_continue, complete_valid, end_valid}

-- every open stream is a start and continues of its group and stream id
pub Orderly : Streams → Type 0
Orderly streams = (key : ℕ) (words : List ℕ) → stream_of streams key ≡ Some words → Begun key words

-- a message that is handed out is valid
unfoldable pub Proper : Answer Reply → List ℕ → Type 0
Proper answer output = (n : ℕ) → answer ≡ gives (handed_out n) → Valid sysex8 output n

pub none_orderly : Orderly []
unfolding Orderly
none_orderly key words e = some_none (sym e)

some_once : {a b : List ℕ} → Some a ≡ Some b → a ≡ b
some_once e = cc

put_orderly : (streams : Streams) (key : ℕ) (new : Option (List ℕ)) → Orderly streams → ((words : List ℕ) → new ≡ Some words → Begun key words) → Orderly (put streams key new)
unfolding Orderly
put_orderly streams key new o h other words e = go (same other key)
  where
    go : Same other key → Begun other words
    go (alike p t) = rw p (h words (sym (find_put_same streams key new) ∙ ap (stream_of (put streams key new)) (sym p) ∙ e))
    go (unlike p t) = o other words (sym (find_put_other streams key other new p) ∙ e)

module _ (streams : Streams) (port : ℕ) (packet output : List ℕ) (p : Packet) (o : Orderly streams) (read : Read packet p) (short : length output ≤ 16384) where
  abbrev key : ℕ
  key = key_at port p

  abbrev four : List ℕ
  four = take 4 packet

  size_four : length four ≡ 4
  size_four = length-take-le 4 packet read.long

  closed : Orderly (put streams key None)
  closed = put_orderly streams key None o (λ words e. some_none (sym e))

  -- the words handed out and what stands behind them
  whole : (words : List ℕ) → length words ≤ length output → length (onto words output) ≤ 16384
  whole words h = simp (length-append, length-drop) (omega arith)

  out_proper : (words : List ℕ) → Valid sysex8 (onto words output) (length words) → Proper (gives (handed_out (length words))) (onto words output)
  unfolding Proper
  out_proper words v n e = let f : length words ≡ n = cc in subst (λ (k : ℕ). Valid sysex8 (onto words output) k) f v

  not_handed : (reply : Reply) (output' : List ℕ) → ((n : ℕ) → reply ≡ handed_out n → ⊥) → Proper (gives reply) output'
  unfolding Proper
  not_handed reply output' h n e = absurd (h n cc)

  abbrev Fine : Kind → List ℕ → Type 0
  Fine kind words = Proper (gives (replied kind words four)) (onto (hands_out kind words four) output) × Orderly (put streams key (stream_after kind words four))

  -- its first word, unless it is the end with invalid earlier data
  abbrev spoils : Kind → Bool
  spoils (unexpected_end false) = true
  spoils (unexpected_end true) = false
  spoils complete = false
  spoils start = false
  spoils continue = false
  spoils end = false

  head : (kind : Kind) → p.kind ≡ kind → spoils kind ≡ false → Head (get_or packet 0 0) (status_of kind) key
  head kind k s = subst (λ (x : Kind). Head (get_or packet 0 0) (status_of x) key) k (read_head port packet p read (λ e. never (sym s ∙ ap spoils (sym k ∙ e))))

  abbrev is_handed_out : Reply → Bool
  is_handed_out kept = false
  is_handed_out dropped = false
  is_handed_out (handed_out n) = true

  ended : (words : List ℕ) → stream_of streams key ≡ Some words → length words + 4 ≤ length output → Head (get_or packet 0 0) 3 key → Fine end words
  unfolding Orderly
  ended words f room h =
      let all = words ++ four in
      let size : length all ≡ length words + 4 = simp length-append (omega (arith, size_four)) in
      (out_proper all (end_valid key packet read.long _ words (o key words f) h (whole all (omega (arith, size)))), closed)

  done_fine : (kind : Kind) → p.kind ≡ kind → (stream : Option (List ℕ)) → stream_of streams key ≡ stream → (holds : ℕ) (full : Bool) (part : ℕ)
      → refusals kind stream holds full part (length output) ≡ pass → Fine kind (packets_of stream)
  unfolding Orderly
  done_fine start k stream f holds full part v = (
    not_handed kept (onto [] output) (λ n e. never (ap is_handed_out e)),
    put_orderly streams key (Some four) o (λ words e. subst (Begun key) (some_once e) (begun_start key packet read.long (head start k refl))),
  )
  done_fine continue k None f holds full part v = never_refused v
  done_fine continue k (Some words) f holds full part v = (
    not_handed kept (onto [] output) (λ n e. never (ap is_handed_out e)),
    put_orderly streams key (Some (words ++ four)) o
        (λ all e. subst (Begun key) (some_once e) (begun_continue key packet read.long words (o key words f) (head continue k refl))),
  )
  done_fine end k None f holds full part v = never_refused v
  done_fine end k (Some words) f holds full part v = ended words f (ltb-false (length output) (length words + 4) (guard_passed _ 14 0 v)) (head end k refl)
  done_fine (unexpected_end true) k None f holds full part v = never_refused v
  done_fine (unexpected_end true) k (Some words) f holds full part v =
      ended words f (ltb-false (length output) (length words + 4) (guard_passed _ 14 0 v)) (head (unexpected_end true) k refl)
  done_fine (unexpected_end false) k stream f holds full part v = (not_handed dropped (onto [] output) (λ n e. never (ap is_handed_out e)), closed)
  done_fine complete k stream f holds full part v =
      let room : 4 ≤ length output = ltb-false (length output) 4 (guard_passed _ 14 0 v) in
      (out_proper four (complete_valid key packet read.long _ (head complete k refl) (whole four (omega (arith, size_four)))), closed)

-- ---- a step

refused_proper : (number place : ℕ) (output : List ℕ) → Proper (refused number place) output
unfolding Proper
refused_proper number place output n e = never_refused e

pub step_fine : (lent : ℕ) (streams : Streams) (port : ℕ) (packet output : List ℕ) → Orderly streams
    → let r = step lent streams port packet output in Proper r.0 r.1.1 × Orderly r.1.0
step_fine lent streams port packet output o =
    step_cases lent streams port packet output (λ r. Proper r.0 r.1.1 × Orderly r.1.0) (λ number place. (refused_proper number place output, o))
    (λ p e v.
    let c = came lent (length output) port packet p e in
    done_fine streams port packet output p o (read_facts packet p c.read) c.output-fits p.kind refl (stream_of streams (key_at port p)) refl _ _ (lent / 16) v)
