-- P8's message and edits are such as demand 3 asks for, so that it is not said of none. Assumes nothing.
use mathlib.Core.Path.{refl}
use Prim.Native.Nat.{ℕ, zero, suc, ◌≤◌, ◌<◌}
use native.Mathlib.Omega.{arith}
use lib.Dec.{lit<, lit≤}
use Rattle.ump.specs.Word.{Below, octets}
use Rattle.ump.specs.Packet.{sysex8, size_of, payload_at, joined, payload}
use Rattle.ump.specs.Packing.{status_for, packets_for}
use Rattle.ump.specs.Check.{first_where, bad_type, bad_status, bad_count, bad_group, bad_id, check_packets, check}
use Rattle.ump.specs.Edits.{patch_at, end_before, Apart, total}
use Rattle.ump.specs.Worker.{Fits}
use Rattle.ump.specs.Samples.{message5, patches8}

-- a fact about each of two
pub both : (P : ℕ → Type 0) → P 0 → P 1 → (i : ℕ) → i < 2 → P i
both P a b zero h = a
both P a b (suc zero) h = b
both P a b (suc (suc i)) h = absurd (omega arith)

apart8 : Apart patches8 3
apart8 =
    record {
      after = both (λ i. end_before patches8 i ≤ (patch_at patches8 i).from) (lit≤ tt) (lit≤ tt);
      forward = both (λ i. (patch_at patches8 i).from ≤ (patch_at patches8 i).to) (lit≤ tt) (lit≤ tt);
      inside = lit≤ tt;
    }

pub fits8 : Fits sysex8 message5 12 patches8
unfolding check check_packets bad_type bad_status bad_count bad_group bad_id first_where status_for payload payload_at size_of octets joined packets_for total
fits8 =
    record {
      passes = refl;
      apart = apart8;
      bytes = both (λ i. Below 256 (patch_at patches8 i).bytes) (lit< tt, (lit< tt, tt)) tt;
      room = lit≤ tt;
      some = lit< tt;
    }
