-- Checking what other senders write (02, T-04): a message, in any packing, that carries a payload with a group and a stream id.
-- Assumes nothing.
use Rattle.std.specs.Prelude.{Bool, false, not, ◌||◌, List, [], ◌∷◌, ℕ, ◌/◌, eqb, ltb, length, drop}
use Rattle.refusal.specs.Answer.{Verdict, ◌▷◌, guard}
use Rattle.ump.specs.Packet.{Shape, group_at, id_at, payload_at, payload}
use Rattle.ump.specs.Check.{same, sweep, check, payload_of}

-- two lists differ at a place that both have
abbrev pub unlike : List ℕ → List ℕ → Bool
unlike [] ys = false
unlike (x ∷ xs) [] = false
unlike (x ∷ xs) (y ∷ ys) = not (eqb x y) || unlike xs ys

-- a byte of packet p is not the one that the payload has at its place
unfoldable pub other_bytes : Shape → List ℕ → List ℕ → ℕ → Bool
other_bytes shape words bytes p = unlike (payload_at shape words p) (drop (length (payload shape words p)) bytes)

-- 1 to 12, Field for the group, then Other: group or id differ; the first packet with another byte; only the sizes differ
unfoldable pub carries : Shape → List ℕ → ℕ → List ℕ → ℕ → List ℕ → Verdict
carries shape words len bytes group id =
    check shape words len
    ▷ guard (ltb 15 group) 16 0
    ▷ guard (not (eqb (group_at shape words 0) group) || not (same (id_at shape words 0) id)) 26 0
    ▷ sweep shape (λ p. 26) (other_bytes shape words bytes) (len / shape.words)
    ▷ guard (not (eqb (length (payload_of shape words len)) (length bytes))) 26 0
