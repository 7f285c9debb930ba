-- The walk along bases (02, T-02).
-- Assumes nothing.
use Rattle.std.specs.Prelude.{Option, None, Some, ◌≡◌, List, ℕ, zero, suc, ◌<◌}
use Rattle.store.specs.Store.{Dump, whole, delta, held}

-- the base of a delta
abbrev pub base_of : Option Dump → Option ℕ
base_of None = None
base_of (Some (whole number group id bytes)) = None
base_of (Some (delta number base patches)) = Some base

-- what a base has, or this where there is none
abbrev pub from_base : {A : Type 0} → A → (ℕ → A) → Option ℕ → A
from_base a f None = a
from_base a f (Some base) = f base

-- the number that following so many bases from n comes to; none where the walk is over before
unfoldable pub comes : List Dump → ℕ → ℕ → Option ℕ
comes dumps zero n = Some n
comes dumps (suc steps) n = from_base None (λ base. comes dumps steps base) (base_of (held dumps n))

-- following bases comes back to a number already passed
pub record InRing (dumps : List Dump) (n : ℕ) : Type 0 where
  pub earlier : ℕ
  pub later : ℕ
  pub number : ℕ
  pub before : earlier < later
  pub passed : comes dumps earlier n ≡ Some number
  pub again : comes dumps later n ≡ Some number

-- the walk comes to a number not held
pub record IsMissing (dumps : List Dump) (n : ℕ) : Type 0 where
  pub steps : ℕ
  pub number : ℕ
  pub come : comes dumps steps n ≡ Some number
  pub none-held : held dumps number ≡ None

-- the walk comes to a whole dump
pub record Rests (dumps : List Dump) (n : ℕ) : Type 0 where
  pub steps : ℕ
  pub number : ℕ
  pub group : ℕ
  pub id : ℕ
  pub bytes : List ℕ
  pub come : comes dumps steps n ≡ Some number
  pub is_held : held dumps number ≡ Some (whole number group id bytes)
