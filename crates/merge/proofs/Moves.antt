-- The loop that moves packets up. Assumes nothing.
use mathlib.Core.Path.{◌≡◌, refl, ap, ◌∙◌}
use mathlib.Core.List.{List}
use Prim.Native.Nat.{ℕ, ◌+◌, ◌*◌, ◌≤◌, ◌<◌}
use native.Mathlib.Omega.{arith}
use lib.ListN.{get_or}
use Rattle.ump.specs.Packet.{sysex8}
use Rattle.ump.proofs.First.{Side, under, over, side}
use Rattle.flow.specs.Digits.{val}
use Rattle.flow.specs.Flowing.{number_word, Put}
use Rattle.merge.specs.Thirteens.{body}
use Rattle.merge.specs.Pieces.{Moved}
use Rattle.merge.proofs.Bodies.{body_agree}

-- no packet is moved, or none yet
pub moved_none : (ws : List ℕ) (head from to : ℕ) → Moved ws head from to 0 ws
moved_none ws head from to = record { long = refl; before = λ k l. refl; words = λ p r u. absurd (omega arith); past = λ k l. refl; none = λ z. refl }

pub moved-start : (ws : List ℕ) (head to by : ℕ) → Moved ws head to to by ws
moved-start ws head to by = record { long = refl; before = λ k l. refl; words = λ p r u a b. absurd (omega arith); past = λ k l. refl; none = λ z. refl }

-- one more
module _ {ws us us' : List ℕ} {head to by n : ℕ} (p : ℕ) (m : Moved ws head (p + 1) to by us) (up : 0 < by) (inside : p < to)
    (put : Put sysex8 us (p + by) head n us') (is : n ≡ val 13 (body us p)) where
  here : body us p ≡ body ws p
  here = body_agree us ws p p (λ r l. m.before (4 * p + r) (omega arith))

  pub moved-step : Moved ws head p to by us'
  moved-step = record {
    long = put.long ∙ m.long;
    before = λ k l. put.before k (omega arith) ∙ m.before k (omega arith);
    words = λ q r u a b. at q r u a b (side p q);
    past = λ k l. put.behind k (omega arith) ∙ m.past k l;
    none = λ z. absurd (omega arith);
  }
    where
      at : (q r : ℕ) → 0 < by → p ≤ q → q < to → Side p q → r < 4 → get_or us' (4 * (q + by) + r) 0 ≡ number_word sysex8 head (val 13 (body ws q)) r
      at q r u a b (under l _) h = put.behind (4 * (q + by) + r) (omega arith) ∙ m.words q r u (omega arith) b h
      at q r u a b (over l _) h =
          let e : q ≡ p = omega arith in
          rw e (put.here r h ∙ ap (λ (x : ℕ). number_word sysex8 head x r) (is ∙ ap (val 13) here))
