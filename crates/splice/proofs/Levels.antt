-- Where every packet but the last is full, the payload bytes stand at the fewest-packet places. Assumes nothing.
use mathlib.Core.Path.{◌≡◌, refl, sym, ap, ◌∙◌}
use mathlib.Core.List.{List}
use Prim.Native.Nat.{ℕ, zero, suc, ◌+◌, ◌-◌, ◌*◌, ◌/◌, ◌≤◌, ◌<◌}
use native.Mathlib.Omega.{arith}
use lib.ListN.{length, get_or}
use Rattle.ump.specs.Word.{nibble}
use Rattle.ump.specs.Packet.{sysex8, count_at, size_at, joined, payload}
use Rattle.ump.proofs.First.{Side, under, over, side}
use Rattle.ump.proofs.Sizes.{size_small}
use Rattle.ump.proofs.Message.{length-payload}
use Rattle.ump.proofs.Payload.{payload_more}
use Rattle.message.specs.Accepted.{Accepted}
use Rattle.splice.specs.Accepted.{Full}
use Rattle.splice.proofs.Messages.{inside, there, size_is}

module _ {w : List ℕ} {len n : ℕ} (ok : Accepted w len n) (full : Full w len) where
  pub length-full : (s : ℕ) → s < len / 4 → length (payload sysex8 w s) ≡ 13 * s
  unfolding payload joined
  length-full zero h = refl
  length-full (suc s) h =
      omega (arith, payload_more sysex8 w s (there ok s (omega arith)), full s (omega arith), length-full s (omega arith))

-- ---- when all but the last packet are full

module _ {w : List ℕ} {len n : ℕ} (ok : Accepted w len n) where
  full_below : (m : ℕ) → m ≤ len / 4 → length (payload sysex8 w m) ≡ 13 * m → (p : ℕ) → p < m → size_at sysex8 w p ≡ 13
  full_below zero h e p l = absurd (omega arith)
  full_below (suc m) h e p l = go (side p m) (full_below m)
    where
      cap : size_at sysex8 w m ≤ 13
      cap = size_small sysex8 (count_at sysex8 w m)

      both : (length (payload sysex8 w m) ≡ 13 * m) × (size_at sysex8 w m ≡ 13)
      both = omega (arith, cap, payload_more sysex8 w m (there ok m (omega arith)), length-payload sysex8 w m)

      go : Side p m → (m ≤ len / 4 → length (payload sysex8 w m) ≡ 13 * m → (q : ℕ) → q < m → size_at sysex8 w q ≡ 13) → size_at sysex8 w p ≡ 13
      go (under k _) rest = rest (omega arith) both.0 p k
      go (over k _) rest =
          let z : p ≡ m = omega arith in
          rw z both.1

  -- then the size says so
  pub full_is : (last : ℕ) → last ≡ nibble (get_or w (len - 4) 0) 3 - 1 → n ≡ 13 * (len / 4 - 1) + last → Full w len
  full_is last e s p h =
      let top = len / 4 - 1 in
      let one : len / 4 ≡ suc top = omega arith in
      let at : len - 4 ≡ 4 * top = omega (arith, inside ok) in
      let l : size_at sysex8 w top ≡ last = size_is ok top (omega arith) ∙ sym (rw at at e) in
      let m : length (payload sysex8 w (len / 4)) ≡ length (payload sysex8 w top) + size_at sysex8 w top =
      ap (λ (x : ℕ). length (payload sysex8 w x)) one ∙ payload_more sysex8 w top (there ok top (omega arith)) in
      full_below top (omega arith) (omega (arith, ok.sized)) p (omega arith)
