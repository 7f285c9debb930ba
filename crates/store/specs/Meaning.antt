-- What the answers mean: a refusal's number and place, or the values.
-- Assumes nothing.
use Rattle.refusal.specs.declared.Fault.{Fault}
use Rattle.std.specs.Prelude.{Option, Result, Ok, Some, None, ◌≡◌, true, false, cond, List, ℕ, ◌≤◌, ◌<◌, length, take}
use Rattle.refusal.specs.Meaning.{answer_of}
use Rattle.store.specs.declared.format.Kind.{Kind}
use Rattle.store.specs.declared.format.Kind.TheVariants as kind
use Rattle.store.specs.Store.{is_whole, is_delta, is_edit, is_data, check_store, Dump, dumps_of, numbers_of, held, twice}
use Rattle.store.specs.Places.{next_at, dump_at, DumpBegins, Noted, Entering}

-- what a record is, by its kind
abbrev pub record_kind : ℕ → Kind
record_kind k = cond (is_whole k) kind.Whole (cond (is_delta k) kind.Delta (cond (is_edit k) kind.Edit (cond (is_data k) kind.Data kind.Other)))

-- the check's answer, and the places of the dumps where it is accepted and there is room for them
pub record Indexes (store : List ℕ) (r : (Result ℕ Fault)) (places : List ℕ) : Type 0 where
  pub checks : answer_of r ≡ check_store store
  pub notes : (count : ℕ) → r ≡ Ok count → count ≤ length places → Noted store (take count places)

-- the pass goes on to the next place, or comes to a number used again
pub record Enters (store : List ℕ) (at : ℕ) (r : (Option ℕ)) (used places : List ℕ) : Type 0 where
  pub on : (count : ℕ) → r ≡ Some count → Entering store (next_at store at) count used places
  pub again : r ≡ None → twice (numbers_of (dumps_of store)) ≡ true

-- the pass has come to the end
pub record Passed (store : List ℕ) (r : (Option ℕ)) (places : List ℕ) : Type 0 where
  pub counts : (count : ℕ) → r ≡ Some count → (twice (numbers_of (dumps_of store)) ≡ false) × (count ≡ length (dumps_of store))
  pub notes : (count : ℕ) → r ≡ Some count → count ≤ length places → Noted store (take count places)
  pub again : r ≡ None → twice (numbers_of (dumps_of store)) ≡ true

-- ---- finding a dump

abbrev pub found_meaning : List ℕ → (Option ℕ) → Option Dump
found_meaning store (Some at) = Some (dump_at store at)
found_meaning store None = None

-- what is found is a dump
abbrev pub FoundDump : List ℕ → (Option ℕ) → Type 0
FoundDump store (Some at) = DumpBegins store at
FoundDump store None = Unit {0}

-- and stands inside the store, wherever it was looked for
abbrev pub FoundInside : List ℕ → (Option ℕ) → Type 0
FoundInside store (Some at) = at < length store
FoundInside store None = Unit {0}

-- the dump of a number, among the places of all dumps
pub record Finds (store places : List ℕ) (number : ℕ) (r : (Option ℕ)) : Type 0 where
  pub inside : FoundInside store r
  pub is : Noted store places → found_meaning store r ≡ held (dumps_of store) number
  pub stands : Noted store places → FoundDump store r
