-- What holds of each case of a step holds of a step. Assumes nothing.
use mathlib.Core.Path.{◌≡◌, refl}
use mathlib.Core.List.{List}
use Prim.Native.Nat.{ℕ, ◌/◌}
use lib.Dec.{leb}
use lib.ListN.{length, take}
use Rattle.refusal.specs.Answer.{Answer, gives, refused, Verdict, pass, writes}
use Rattle.refusal.proofs.Laws.{never_refused}
use Rattle.ump.specs.Single.{Packet}
use Rattle.ports.specs.Streams.{Streams, stream_of, packets_of, share_of, put, refusals, stream_after, hands_out, Reply, replied, onto, arrived, admit, key_at, admitted, step}

abbrev pub Outcome : Type 0
Outcome = Answer Reply × (Streams × List ℕ)

module _ (lent : ℕ) (streams : Streams) (port : ℕ) (packet output : List ℕ) where
  -- what an accepted packet does
  abbrev pub accepted : Packet → Outcome
  accepted p =
      let words = packets_of (stream_of streams (key_at port p)) in
      let four = take 4 packet in
      (gives (replied p.kind words four), (put streams (key_at port p) (stream_after p.kind words four), onto (hands_out p.kind words four) output))

  abbrev refuses : Packet → Verdict
  refuses p = refusals p.kind (stream_of streams (key_at port p)) (share_of streams port) (leb 16 (length streams)) (lent / 16) (length output)

  pub step_cases : (P : Outcome → Type 0) → ((number place : ℕ) → P (refused number place, (streams, output)))
      → ((p : Packet) → arrived lent (length output) port packet ≡ gives p → refuses p ≡ pass → P (accepted p)) → P (step lent streams port packet output)
  unfolding step
  step_cases P left done = go (arrived lent (length output) port packet) refl
    where
      both : (p : Packet) → arrived lent (length output) port packet ≡ gives p → (v : Verdict) → refuses p ≡ v → P (writes v (streams, output) (replied p.kind (packets_of (stream_of streams (key_at port p))) (take 4 packet)) (accepted p).1)
      both p e (gives u) f = done p e f
      both p e (refused n q) f = left n q

      go : (x : Answer Packet) → arrived lent (length output) port packet ≡ x → P (admit x (streams, output) (admitted (lent / 16) (leb 16 (length streams)) streams port packet output))
      go (refused n q) e = left n q
      go (gives p) e = both p e (refuses p) refl

  -- a packet that arrived and was accepted
  pub step_accepted : (p : Packet) {reply : Reply} → arrived lent (length output) port packet ≡ gives p → (step lent streams port packet output).0 ≡ gives reply
      → step lent streams port packet output ≡ accepted p
  unfolding step
  step_accepted p {reply} e = rw e (go (refuses p))
    where
      go : (v : Verdict) → let o : Outcome = writes v (streams, output) (replied p.kind (packets_of (stream_of streams (key_at port p))) (take 4 packet)) (accepted p).1 in
          o.0 ≡ gives reply → o ≡ accepted p
      go (gives u) f = refl
      go (refused n q) f = never_refused f
