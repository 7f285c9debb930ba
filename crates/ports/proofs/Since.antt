-- The streams hold the packets since the last start, told from the calls and their answers alone. Assumes nothing.
use mathlib.Core.Path.{◌≡◌, refl, sym}
use mathlib.Core.Bool.{cond}
use mathlib.Core.List.{List}
use Prim.Native.Nat.{ℕ}
use lib.Dec.{eqb}
use lib.ListN.{length, take}
use borrow.Author.Tests.{eq-eqb, ne_eqb}
use Rattle.ump.specs.Single.{Packet, read_packet8}
use Rattle.ports.specs.Streams.{Streams, stream_of, packets_of, put, stream_after, key_at, step}
use Rattle.ports.specs.History.{heard}
use Rattle.ports.proofs.Slots.{Same, alike, unlike, same}
use Rattle.ports.proofs.Reading.{came}
use Rattle.ports.proofs.Machine.{find_put_same, find_put_other}
use Rattle.ports.proofs.Cases.{step_cases}

-- the stream of a key after a step
pub heard-step : (lent : ℕ) (streams : Streams) (port : ℕ) (packet output : List ℕ) (key : ℕ) → let after = step lent streams port packet output in
    stream_of after.1.0 key ≡ heard key port after.0 (read_packet8 packet) (take 4 packet) (stream_of streams key)
heard-step lent streams port packet output key =
    step_cases lent streams port packet output (λ o. stream_of o.1.0 key ≡ heard key port o.0 (read_packet8 packet) (take 4 packet) (stream_of streams key)) (λ number place. refl)
    (λ p e v. rw (came lent (length output) port packet p e).read (found p (same key (key_at port p))))
  where
    found : (p : Packet) → Same key (key_at port p) → let new = stream_after p.kind (packets_of (stream_of streams (key_at port p))) (take 4 packet) in
        stream_of (put streams (key_at port p) new) key ≡ cond (eqb (key_at port p) key) (stream_after p.kind (packets_of (stream_of streams key)) (take 4 packet)) (stream_of streams key)
    found p (alike q t) =
        rw (q, eq-eqb (key_at port p) (key_at port p) refl)
        (find_put_same streams (key_at port p) (stream_after p.kind (packets_of (stream_of streams (key_at port p))) (take 4 packet)))
    found p (unlike q t) =
        rw (ne_eqb (key_at port p) key (λ w. q (sym w)))
        (find_put_other streams (key_at port p) key (stream_after p.kind (packets_of (stream_of streams (key_at port p))) (take 4 packet)) q)
