-- What is known of a packet that was read, and of one that arrived. Assumes nothing.
use mathlib.Core.Path.{◌≡◌, sym, ap}
use mathlib.Core.Bool.{false, not, ◌&&◌}
use mathlib.Core.List.{List}
use Prim.Native.Nat.{ℕ, ◌≤◌}
use native.Mathlib.Omega.{arith}
use lib.Dec.{ltb}
use lib.ListN.{length, get_or}
use borrow.Author.Tests.{ltb-false}
use Rattle.refusal.specs.Answer.{Answer, gives, ◌▷◌, guard, verdict}
use Rattle.refusal.proofs.Laws.{guard_passed, pass_both}
use Rattle.ump.specs.Packet.{sysex8, group_at, status_at, count_at, id_at, size_at}
use Rattle.ump.specs.Check.{bad_type, bad_count}
use Rattle.ump.specs.Single.{kind_for, Packet, single_packet, blank, unexpected, read_packet8}
use Rattle.ports.specs.Streams.{arrived}

pub record Read (words : List ℕ) (p : Packet) : Type 0 where
  pub long : 4 ≤ length words
  pub type : bad_type sysex8 words 0 ≡ false
  pub status : ltb 3 (status_at sysex8 words 0) ≡ false
  pub count : (bad_count sysex8 words 0 && not (unexpected (status_at sysex8 words 0) (count_at sysex8 words 0) (blank words))) ≡ false
  pub kind : p.kind ≡ kind_for (status_at sysex8 words 0) (count_at sysex8 words 0) (blank words)
  pub group : p.group ≡ group_at sysex8 words 0
  pub id : p.id ≡ id_at sysex8 words 0
  pub small : (p.group ≤ 15) × (get_or p.id 0 0 ≤ 255)

pub read_facts : (words : List ℕ) (p : Packet) → read_packet8 words ≡ gives p → Read words p
unfolding read_packet8
read_facts words p e =
    let status = status_at sysex8 words 0 in
    let count = count_at sysex8 words 0 in
    let bad = bad_count sysex8 words 0 && not (unexpected status count (blank words)) in
    let read = single_packet (kind_for status count (blank words)) (group_at sysex8 words 0) (id_at sysex8 words 0) (size_at sysex8 words 0) in
    let rest₃ : Answer Packet = guard bad 10 0 ▷ gives read in
    let rest₂ : Answer Packet = guard (ltb 3 status) 15 0 ▷ rest₃ in
    let rest₁ : Answer Packet = guard (bad_type sysex8 words 0) 5 0 ▷ rest₂ in
    let a = pass_both (guard (ltb (length words) 4) 3 0) rest₁ e in
    let b = pass_both (guard (bad_type sysex8 words 0) 5 0) rest₂ a.1 in
    let c = pass_both (guard (ltb 3 status) 15 0) rest₃ b.1 in
    let d = pass_both (guard bad 10 0) (gives read) c.1 in
    let same : read ≡ p = cc d.1 in
    record {
      long = ltb-false (length words) 4 (guard_passed _ 3 0 a.0);
      type = guard_passed _ 5 0 b.0;
      status = guard_passed _ 15 0 c.0;
      count = guard_passed _ 10 0 d.0;
      kind = ap (λ (r : Packet). r.kind) (sym same);
      group = ap (λ (r : Packet). r.group) (sym same);
      id = ap (λ (r : Packet). r.id) (sym same);
      small = rw (← same) (omega arith, omega arith);
    }

-- ---- a packet that arrived: the words and the output are not Long, the reader took it, the port is 0 or 1

pub record Came (lent room port : ℕ) (packet : List ℕ) (p : Packet) : Type 0 where
  pub output-fits : room ≤ 16384
  pub read : read_packet8 packet ≡ gives p
  pub two : port ≤ 1

pub came : (lent room port : ℕ) (packet : List ℕ) (p : Packet) → arrived lent room port packet ≡ gives p → Came lent room port packet p
unfolding arrived
came lent room port packet p e =
    let read = read_packet8 packet in
    let rest₃ : Answer Packet = guard (ltb 1 port) 29 0 ▷ read in
    let rest₂ : Answer Packet = verdict read ▷ rest₃ in
    let rest₁ : Answer Packet = guard (ltb 16384 room) 1 0 ▷ rest₂ in
    let a = pass_both (guard (ltb 16384 lent) 1 0) rest₁ e in
    let b = pass_both (guard (ltb 16384 room) 1 0) rest₂ a.1 in
    let c = pass_both (verdict read) rest₃ b.1 in
    let d = pass_both (guard (ltb 1 port) 29 0) read c.1 in
    record {
      output-fits = ltb-false 16384 room (guard_passed _ 1 0 b.0);
      read = d.1;
      two = ltb-false 1 port (guard_passed _ 29 0 d.0);
    }
