-- The payload of a packet, as the number that is read from it. Assumes nothing.
use mathlib.Core.Path.{◌≡◌, refl, sym, ◌∙◌}
use mathlib.Core.List.{List, [], ◌∷◌, ◌++◌}
use Prim.Native.Nat.{ℕ, suc, ◌+◌, ◌-◌, ◌*◌, ◌/◌, ◌≤◌, ◌<◌}
use native.Mathlib.Nat.{add-zero}
use native.Mathlib.Numerals.{add-one}
use native.Mathlib.Omega.{arith}
use lib.ListN.{length, get_or, take, drop, length-drop}
use lib.Seq.{get_or-drop, take_at, drop_at}
use Rattle.ump.specs.Packet.{sysex8, count_at, size_at, packet, payload_at, joined, payload}
use Rattle.ump.specs.Check.{payload_of}
use Rattle.ump.proofs.Words.{below_take, map_mod}
use Rattle.ump.proofs.Sizes.{size_small}
use Rattle.ump.proofs.Bytes.{length-payload_at}
use Rattle.ump.proofs.Payload.{payload_more, payload_mono}
use Rattle.ump.proofs.Joined.{joined_around}
use Rattle.flow.specs.Digits.{val}
use Rattle.message.specs.Accepted.{Accepted}
use Rattle.merge.specs.Thirteens.{body, front_of}
use Rattle.splice.proofs.Messages.{there}
use Rattle.merge.proofs.Bodies.{below_body, body_agree}
use Rattle.merge.proofs.Parts.{front_part}

four : (xs : List ℕ) → 4 ≤ length xs → take 4 xs ≡ get_or xs 0 0 ∷ get_or xs 1 0 ∷ get_or xs 2 0 ∷ get_or xs 3 0 ∷ []
four [] h = absurd (omega arith)
four (a ∷ []) h = absurd (omega arith)
four (a ∷ b ∷ []) h = absurd (omega arith)
four (a ∷ b ∷ c ∷ []) h = absurd (omega arith)
four (a ∷ b ∷ c ∷ d ∷ xs) h = refl

-- the words of a packet
packet_is : (ws : List ℕ) (p : ℕ) → 4 * p + 4 ≤ length ws → packet sysex8 ws p ≡ get_or ws (4 * p) 0 ∷ get_or ws (4 * p + 1) 0 ∷ get_or ws (4 * p + 2) 0 ∷ get_or ws (4 * p + 3) 0 ∷ []
packet_is ws p h =
    four (drop (4 * p) ws) (simp length-drop (omega arith))
    ∙ rw (get_or-drop (4 * p) ws 0 0, get_or-drop (4 * p) ws 1 0, get_or-drop (4 * p) ws 2 0, get_or-drop (4 * p) ws 3 0, add-zero)

payload-body : (ws : List ℕ) (p : ℕ) → 4 * p + 4 ≤ length ws → payload_at sysex8 ws p ≡ take (size_at sysex8 ws p) (body ws p)
unfolding payload_at
payload-body ws p h =
    rw (packet_is ws p h) (map_mod 256 (take (size_at sysex8 ws p) (body ws p)) (below_take 256 (size_at sysex8 ws p) (body ws p) (below_body ws p)))

-- packet p of a message that passed the check
module _ {w : List ℕ} {len n : ℕ} (ok : Accepted w len n) (p : ℕ) (h : p < len / 4) where
  abbrev bytes : List ℕ
  bytes = payload_of sysex8 w len

  -- how many bytes stand before it, and how many it carries
  abbrev m : ℕ
  m = length (payload sysex8 w p)

  abbrev s : ℕ
  s = size_at sysex8 w p

  pub taken_next : m + s ≡ length (payload sysex8 w (p + 1))
  taken_next = rw add-one (sym (payload_more sysex8 w p (there ok p h)))

  pub taken_inside : m + s ≤ length bytes
  taken_inside = omega (arith, taken_next, payload_mono sysex8 w (p + 1) (len / 4) (omega arith))

  pub piece_is : take s (drop m bytes) ≡ take s (body w p)
  unfolding payload
  piece_is =
      let rest = joined (λ i. payload_at sysex8 w (suc p + i)) (len / 4 - suc p) in
      rw (joined_around (payload_at sysex8 w) (len / 4) p h, drop_at (joined (payload_at sysex8 w) p) (payload_at sysex8 w p ++ rest) (length (joined (payload_at sysex8 w) p)) refl)
      (take_at (payload_at sysex8 w p) rest s (length-payload_at sysex8 w p (there ok p h)) ∙ payload-body w p (there ok p h))

  pub piece_number : (us : List ℕ) → ((k : ℕ) → 4 * p ≤ k → get_or us k 0 ≡ get_or w k 0)
      → front_of (val 13 (body us p)) s ≡ val 13 (take s (drop m bytes))
  piece_number us same =
      rw (body_agree us w p p (λ r l. same (4 * p + r) (omega arith)), front_part (body w p) s (below_body w p) (size_small sysex8 (count_at sysex8 w p)), piece_is)
