-- What the answer of a comparison says.
-- Assumes nothing.
use Rattle.std.specs.Prelude.{◌≡◌, Bool, true, List, ℕ, ◌≤◌, ◌<◌, length, get_or, take}

-- the answer is true exactly if the fact holds
pub record Tells (answer : Bool) (Fact : Type 0) : Type 0 where
  pub holds : answer ≡ true → Fact
  pub told : Fact → answer ≡ true

-- the front of a list, of this size, is the one expected
abbrev pub Begins : List ℕ → ℕ → List ℕ → Type 0
Begins list size expected = (size ≤ length list) × (take size list ≡ expected)

-- the list is a front, and then zeros; or a part of the front
abbrev pub Padded : List ℕ → List ℕ → Type 0
Padded front list = (at : ℕ) → at < length list → get_or list at 0 ≡ get_or front at 0

-- the same in a list of any items, by their comparison, with this filler behind the front
abbrev pub PaddedBy : {T : Type 0} → (T → T → Bool) → T → List T → List T → Type 0
PaddedBy same filler front list = (at : ℕ) → at < length list → same (get_or list at filler) (get_or front at filler) ≡ true
