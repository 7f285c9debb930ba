-- Where a payload byte of a SysEx8 message that was taken stands. Assumes nothing.
use mathlib.Core.Path.{◌≡◌}
use mathlib.Core.List.{List}
use Prim.Native.Nat.{ℕ, ◌+◌, ◌*◌, ◌/◌, ◌≤◌, ◌<◌}
use native.Mathlib.Omega.{arith}
use lib.ListN.{length, get_or}
use Rattle.ump.specs.Packet.{sysex8, count_at, size_at, byte_at, payload}
use Rattle.ump.specs.Check.{payload_of}
use Rattle.ump.specs.Setters.{packet_of, byte_in}
use Rattle.ump.proofs.Sizes.{size_small}
use Rattle.ump.proofs.BytePlaces.{packet_of_below, byte_in_below, get_d_payload}
use Rattle.message.specs.Scan.{Sized, Found}
use Rattle.message.proofs.Laws.{Here, here}
use Rattle.message.proofs.Checked.{Taken, taken_inside, taken-counted}
use Rattle.message.proofs.Sizes.{size-to, found_place}

-- byte b of packet p is payload byte i of the message in the first len words
pub record Standing (ws : List ℕ) (len i p b : ℕ) : Type 0 where
  pub packet_is : p ≡ packet_of sysex8 ws (len / 4) i
  pub byte_is : b ≡ byte_in sysex8 ws (len / 4) i
  pub there : 4 * p + 4 ≤ length ws
  pub few : p < 4096
  pub inner : b < 13
  pub reads : get_or (payload_of sysex8 ws len) i 0 ≡ byte_at sysex8 ws p b

module _ {ws : List ℕ} {len : ℕ} where
  pub sized : {size : ℕ} → Taken sysex8 ws len size → Sized ws (len / 4) size
  sized m =
      let inside = taken_inside sysex8 ws len m.valid in
      let counted = taken-counted sysex8 ws len m.valid in
      record { inside = inside; counted = counted; size_is = rw (size-to sysex8 ws (len / 4) inside counted (len / 4) (omega arith)) m.sized }

  module _ {size i : ℕ} (m : Taken sysex8 ws len size) (h : i < size) where
    inside_payload : i < length (payload sysex8 ws (len / 4))
    inside_payload = rw m.sized at h

    pub standing : {p b : ℕ} → Found 4 1 ws (len / 4) i p b → Standing ws len i p b
    standing {p} {b} f =
        let k = taken_inside sysex8 ws len m.valid in
        let e = found_place sysex8 ws (len / 4) k (taken-counted sysex8 ws len m.valid) f in
        let n : p < len / 4 = rw e.0 (packet_of_below sysex8 ws (len / 4) i inside_payload) in
        let o : Here 4 p ws = here p k n in
        let d : b < size_at sysex8 ws p = rw (e.0, e.1) (byte_in_below sysex8 ws (len / 4) i inside_payload k.there) in
        record {
          packet_is = e.0;
          byte_is = e.1;
          there = o.there;
          few = omega (arith, o.few);
          inner = omega (arith, d, size_small sysex8 (count_at sysex8 ws p));
          reads = rw (e.0, e.1) (get_d_payload sysex8 ws (len / 4) i inside_payload k.there);
        }
