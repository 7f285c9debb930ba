-- The loop that packs a message, packet by packet. Assumes nothing.
use mathlib.Core.Path.{◌≡◌, refl, ap, ◌∙◌}
use mathlib.Core.List.{List}
use Prim.Native.Nat.{ℕ, ◌+◌, ◌*◌, ◌/◌, ◌≤◌, ◌<◌}
use native.Mathlib.Omega.{arith}
use lib.ListN.{length, get_or}
use Rattle.ump.specs.Limits.{most_words}
use Rattle.ump.specs.Word.{nibble, Below}
use Rattle.ump.specs.Packet.{sysex8, group_at, id_at, size_of, count_at, size_at, joined, payload}
use Rattle.ump.specs.Packing.{packets_for, words_for}
use Rattle.ump.specs.Check.{payload_of}
use Rattle.ump.specs.Splice.{rewritten}
use Rattle.ump.proofs.Sizes.{size_small}
use Rattle.ump.proofs.Message.{length-payload}
use Rattle.ump.proofs.Splicing.{below_payload}
use Rattle.flow.specs.Digits.{val}
use Rattle.flow.specs.Flowing.{Poured}
use Rattle.flow.specs.Heads.{base_for, inner_head}
use Rattle.flow.proofs.Flowing.{flow_start, flow_step}
use Rattle.flow.proofs.Poured.{flow_end}
use Rattle.message.specs.Accepted.{Accepted}
use Rattle.splice.specs.Header.{base_of, finished}
use Rattle.merge.specs.Thirteens.{body, front_of}
use Rattle.merge.specs.Pieces.{none, taken, Reaches, Appends, Flows, Flushed}
use Rattle.merge.specs.declared.held.Pending.{Pending}
use Rattle.splice.proofs.Messages.{inside, there, counts, end_fits, base_is}
use Rattle.splice.proofs.Finished.{finished_is}
use Rattle.merge.proofs.Sums.{flows_padded}
use Rattle.splice.proofs.Taken.{taken_next, taken_inside, piece_number}

-- the packets before this one are taken
pub record Repacks (w : List ℕ) (len head p : ℕ) (flow : Pending) (us : List ℕ) : Type 0 where
  pub flows : Flows w (payload_of sysex8 w len) head flow us
  pub all : taken flow ≡ length (payload sysex8 w p)

module _ {w : List ℕ} {len n : ℕ} (ok : Accepted w len n) (head : ℕ) where
  abbrev bytes : List ℕ
  bytes = payload_of sysex8 w len

  below : Below 256 bytes
  below = below_payload sysex8 w (len / 4)

  pub repack-start : Repacks w len head 0 (none 0) w
  unfolding payload joined
  repack-start = record { flows = flow_start sysex8 w bytes head; all = refl }

  module _ (p : ℕ) (flow : Pending) (us : List ℕ) (f : Repacks w len head p flow us) (h : p < len / 4) where
    -- no packet is written before it is read
    behind : flow.packet ≤ p
    behind = omega (arith, f.all, length-payload sysex8 w p)

    same : (k : ℕ) → 4 * p ≤ k → get_or us k 0 ≡ get_or w k 0
    same k l = f.flows.rest k (omega (arith, behind))

    pub repack_ready : head ≤ 4294967040
        → ((flow.packet ≤ p) × ((4 * p + 4 ≤ length us) × Reaches (length us) head flow 0)) × ((0 < count_at sysex8 us p) × (count_at sysex8 us p ≤ 14))
    repack_ready free =
        let long : 4 * p + 4 ≤ length us = omega (arith, f.flows.long, there ok p h) in
        let padded = flows_padded f.flows below in
        let reaches : Reaches (length us) head flow 0 = record { padded = padded; fits = omega (arith, behind, padded.few); small = omega (arith, f.flows.long, inside ok); free = free } in
        ((behind, (long, reaches)), rw (same (4 * p) (omega arith)) (counts ok p h))

    pub repack-step : (us' : List ℕ) (r : Pending)
        → Appends us us' head flow (front_of (val 13 (body us p)) (size_at sysex8 us p)) (size_at sysex8 us p) r
        → Repacks w len head (p + 1) r us'
    repack-step us' r a =
        let s = size_at sysex8 w p in
        let size : size_at sysex8 us p ≡ s = ap (λ (x : ℕ). size_of sysex8 (nibble x 3)) (same (4 * p) (omega arith)) in
        let a' : Appends us us' head flow (front_of (val 13 (body us p)) s) s r = rw size at a in
        let inside : taken flow + s ≤ length bytes = rw f.all (taken_inside ok p h) in
        let piece : front_of (val 13 (body us p)) s ≡ val 13 _ = piece_number ok p h us same in
        let step = flow_step f.flows below a'.appended (size_small sysex8 (count_at sysex8 w p)) inside (rw f.all piece) in
        record { flows = step.0; all = step.1 ∙ rw f.all (taken_next ok p h) }

-- ---- the numbers that packing goes by

pub record Bounds (w : List ℕ) (len n base head end packets : ℕ) : Type 0 where
  pub shared : base ≡ base_for sysex8 (group_at sysex8 w 0) (id_at sysex8 w 0)
  pub fits : base ≤ 4278255360
  pub inner : head ≡ inner_head sysex8 base
  pub free : head ≤ 4294967040
  pub ends : end ≡ words_for sysex8 n
  pub whole : len ≡ 4 * packets
  pub reach : end ≤ len
  pub room : len ≤ length w
  pub small : length w ≤ most_words

module _ {w : List ℕ} {len n : ℕ} (ok : Accepted w len n) where
  pub bounds : (base head end packets : ℕ) → base ≡ base_of (get_or w 0 0) → head ≡ inner_head sysex8 base → end ≡ words_for sysex8 n → packets ≡ len / 4
      → Bounds w len n base head end packets
  bounds base head end packets is inner ends all =
      let i = inside ok in
      let fits : base ≤ 4278255360 = omega arith in
      record {
        shared = is ∙ base_is ok;
        fits = fits;
        inner = inner;
        free = omega arith;
        ends = ends;
        whole = omega (arith, i);
        reach = omega (arith, end_fits ok);
        room = i.0;
        small = i.1.0;
      }

  -- all packets are taken: what is flushed, both heads and zeros
  module _ {base head end packets : ℕ} (b : Bounds w len n base head end packets) {flow : Pending} {us : List ℕ} (f : Repacks w len head packets flow us) where
    pub repack_end : (us' : List ℕ) → Flushed us head flow (end / 4) us' → finished base n us' end len ≡ rewritten sysex8 w len (payload_of sysex8 w len)
    unfolding rewritten
    repack_end us' flushed =
        let bytes = payload_of sysex8 w len in
        let packets_are : packets ≡ len / 4 = omega (arith, b.whole) in
        let all : taken flow ≡ length bytes = rw packets_are at f.all in
        let e : end / 4 ≡ packets_for sysex8 (length bytes) = omega (arith, b.ends, ap (packets_for sysex8) ok.sized) in
        let poured : Poured sysex8 w bytes head (end / 4) us' = flow_end f.flows all (end / 4) e us' flushed.some flushed.none in
        finished_is w bytes (group_at sysex8 w 0) (id_at sysex8 w 0) base n end ok.sized (below_payload sysex8 w (len / 4)) refl b.shared b.ends (omega (arith, b.reach, b.room)) us' (rw b.inner at poured) len
