-- What the code's table and its steps mean. For the code's own promises; no public promise needs it.
-- Assumes nothing.
use Rattle.std.specs.Prelude.{Some, ◌≡◌, ◌⊎◌, Bool, true, false, List, ◌++◌, ℕ, ◌+◌, length, drop}
use Rattle.std.proofs.Math.Seq.{paste}
use Rattle.ump.specs.Edits.{elem}
use Rattle.store.specs.Store.{dumps_of, held}
use Rattle.store.specs.Places.{records_from, flagged}
use Rattle.chain.specs.Walk.{base_of}
use Rattle.reclaim.specs.Reclaim.{wanted_in, wanted_of, stays}
use Rattle.reclaim.specs.Reclaimed.{Needed}

-- Numbers of walks of wanted dumps are flagged, each with its base, but for one that is pending.
pub record Keeping (store kept : List ℕ) (Pending : ℕ → Type 0) : Type 0 where
  pub table : length kept ≡ 8192
  pub needed : (m : ℕ) → flagged kept m ≡ true → Needed store m
  pub closed : (m base : ℕ) → flagged kept m ≡ true → base_of (held (dumps_of store) m) ≡ Some base → (flagged kept base ≡ true) ⊎ Pending base

-- nothing is pending
abbrev pub Settled : List ℕ → List ℕ → Type 0
Settled store kept = Keeping store kept (λ base. ⊥)

-- the walk of a number is flagged, and what was flagged before still is
pub record Walks (store before : List ℕ) (n : ℕ) (after : List ℕ) : Type 0 where
  pub settled : Settled store after
  pub here : flagged after n ≡ true
  pub more : (m : ℕ) → flagged before m ≡ true → flagged after m ≡ true

-- the walks of the wanted dumps before a place are flagged
pub record Passing (store : List ℕ) (at : ℕ) (kept : List ℕ) : Type 0 where
  pub passed : List ℕ
  pub wanted : wanted_of store ≡ passed ++ wanted_in (records_from store at)
  pub all : (n : ℕ) → elem n passed ≡ true → flagged kept n ≡ true
  pub settled : Settled store kept

-- the numbers that stay are flagged, and no others
abbrev pub Kept : List ℕ → List ℕ → Type 0
Kept store kept = (n : ℕ) → flagged kept n ≡ stays store n

-- a record moved down behind the `done` bytes, if it stays
pub record PassesDown (on : Bool) (before : List ℕ) (at done size r : ℕ) (after : List ℕ) : Type 0 where
  pub stays : on ≡ true → (r ≡ done + size) × (after ≡ paste before done (drop at before) size)
  pub goes : on ≡ false → (r ≡ done) × (after ≡ before)
