-- The payload of a message, packet by packet. Assumes nothing.
use mathlib.Core.Path.{◌≡◌, ap, ◌∙◌}
use mathlib.Core.List.{List, ◌++◌}
use Prim.Native.Nat.{ℕ, suc, ◌+◌, ◌-◌, ◌*◌, ◌≤◌, ◌<◌}
use native.Mathlib.Omega.{arith}
use lib.ListN.{length, get_or, length-append, get_or-append}
use lib.Seq.{get_or-append-add}
use Rattle.ump.specs.Packet.{Shape, size_at, payload_at, byte_at, joined, payload}
use Rattle.ump.proofs.Joined.{joined_around, joined_add}
use Rattle.ump.proofs.Bytes.{length-payload_at, get_d_payload_at}

module _ (shape : Shape) (words : List ℕ) where
  -- with one packet more
  pub payload_more : (p : ℕ) → shape.words * p + shape.words ≤ length words → length (payload shape words (suc p)) ≡ length (payload shape words p) + size_at shape words p
  unfolding payload joined
  payload_more p there = length-append (payload shape words p) (payload_at shape words p) ∙ ap (λ (n : ℕ). length (payload shape words p) + n) (length-payload_at shape words p there)

  -- with more packets it is no shorter
  pub payload_mono : (p n : ℕ) → p ≤ n → length (payload shape words p) ≤ length (payload shape words n)
  unfolding payload
  payload_mono p n h =
      let e : n ≡ p + (n - p) = omega arith in
      let rest = joined (λ i. payload_at shape words (p + i)) (n - p) in
      omega (arith, ap (λ (k : ℕ). length (joined (payload_at shape words) k)) e, ap length (joined_add (payload_at shape words) p (n - p)), length-append (joined (payload_at shape words) p) rest)

  -- byte i of packet p, in the payload of all
  pub payload-at : (p n i : ℕ) → p < n → shape.words * p + shape.words ≤ length words → i < size_at shape words p → get_or (payload shape words n) (length (payload shape words p) + i) 0 ≡ byte_at shape words p i
  unfolding payload
  payload-at p n i h there k =
      let before = joined (payload_at shape words) p in
      let rest = joined (λ q. payload_at shape words (suc p + q)) (n - suc p) in
      ap (λ (l : List ℕ). get_or l (length before + i) 0) (joined_around (payload_at shape words) n p h)
      ∙ get_or-append-add before (payload_at shape words p ++ rest) i 0
      ∙ get_or-append (payload_at shape words p) rest 0 i (omega (arith, length-payload_at shape words p there))
      ∙ get_d_payload_at shape words p there i k
