-- What the edits of a delta are by their records, and what measuring a dump means. For the code's own promises; no public promise needs it.
-- Assumes nothing.
use Rattle.std.specs.Prelude.{Result, Ok, Err, ◌≡◌, Bool, true, false, ◌&&◌, ◌||◌, List, ℕ, suc, ◌+◌, ◌-◌, ◌≤◌, max, ltb, length, get_or}
use Rattle.refusal.specs.Answer.{gives, refused}
use Rattle.refusal.specs.Number.{number_of}
use Rattle.refusal.specs.declared.Refusal.{Refusal}
use Rattle.ump.specs.Word.{pair_at}
use Rattle.ump.specs.Edits.{Patch, replaced}
use Rattle.store.specs.Store.{is_edit, is_data, Dump, data_in, patches_in}
use Rattle.store.specs.Places.{record_at, next_at, records_from}
use Rattle.chain.specs.Restore.{Payload, outside, restored, unlimited, sizes, largest}
use Rattle.chain.specs.declared.edits.Reached.{Reached}
use Rattle.chain.specs.declared.measuring.Extent.{Extent}

-- ---- the edits of a delta

-- an edit at a place that is reversed or past n bytes
abbrev pub bad_edit_at : List ℕ → ℕ → ℕ → Bool
bad_edit_at store at n =
    is_edit (get_or store at 0)
    && (ltb (pair_at store (at + 3)) (pair_at store (at + 1)) || ltb n (pair_at store (at + 3)))

-- the data from a place on is passed, and the edits behind it are the same
pub record Past (store : List ℕ) (at place : ℕ) : Type 0 where
  pub rest : patches_in (records_from store place) ≡ patches_in (records_from store at)
  pub stops : is_data (get_or store place 0) ≡ false
  pub on : at ≤ place

-- what a whole dump's record at a place says
abbrev pub whole_at : List ℕ → ℕ → Payload
whole_at store at =
    record {
      group = get_or (record_at store at).body 2 0;
      id = get_or (record_at store at).body 3 0;
      bytes = data_in (records_from store (next_at store at));
    }

-- ---- measuring

-- the data from a place on has so many bytes, and is passed
pub record DataSized (store : List ℕ) (at : ℕ) (reached : Reached) : Type 0 where
  pub size : reached.size ≡ length (data_in (records_from store at))
  pub past : Past store at reached.at
  pub fewer : at + reached.size ≤ reached.at
  pub inside : reached.size ≤ length store - at

-- a payload of so many bytes has so many with all ranges replaced
pub record Becomes (size : ℕ) (patches : List Patch) (new : ℕ) : Type 0 where
  pub is : (bytes : List ℕ) → length bytes ≡ size → new ≡ length (replaced bytes patches)

-- a dump is restored without a limit to a payload that measures so
pub record MeasureOf (dumps : List Dump) (left n : ℕ) (m : Extent) : Type 0 where
  pub payload : Payload
  pub is : restored unlimited dumps left n ≡ gives payload
  pub group : m.group ≡ payload.group
  pub id : m.id ≡ payload.id
  pub size : m.size ≡ length payload.bytes
  pub largest_is : m.largest ≡ largest (sizes dumps left n)
  pub steps : suc m.steps ≡ length (sizes dumps left n)

-- or is refused
pub record Measures (dumps : List Dump) (left n : ℕ) (r : (Result Extent Refusal)) : Type 0 where
  pub dump : (m : Extent) → r ≡ Ok m → MeasureOf dumps left n m
  pub refuses : (refusal : Refusal) → r ≡ Err refusal → restored unlimited dumps left n ≡ refused (number_of refusal) 0

-- what a whole dump's record at a place measures
pub record MeasuresWhole (store : List ℕ) (at : ℕ) (m : Extent) : Type 0 where
  pub group : m.group ≡ (whole_at store at).group
  pub id : m.id ≡ (whole_at store at).id
  pub size : m.size ≡ length (whole_at store at).bytes
  pub largest_is : m.largest ≡ m.size
  pub steps : m.steps ≡ 0

pub record DeltaMeasure (patches : List Patch) (base m : Extent) : Type 0 where
  pub good : outside base.size patches ≡ false
  pub group : m.group ≡ base.group
  pub id : m.id ≡ base.id
  pub size : Becomes base.size patches m.size
  pub largest_is : m.largest ≡ max m.size base.largest
  pub steps : m.steps ≡ suc base.steps

-- what a delta's edits make of its base's measure: Range, or the size that its payload then has
pub record MeasuresDelta (patches : List Patch) (base : Extent) (r : (Result Extent Refusal)) : Type 0 where
  pub dump : (m : Extent) → r ≡ Ok m → DeltaMeasure patches base m
  pub refuses : (refusal : Refusal) → r ≡ Err refusal → (number_of refusal ≡ 13) × (outside base.size patches ≡ true)
