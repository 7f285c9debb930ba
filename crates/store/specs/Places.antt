-- Where records and dumps stand in the store. For the code's own promises; no public promise needs it.
-- Assumes nothing.
use Rattle.std.specs.Prelude.{◌≡◌, Bool, true, false, ◌&&◌, ◌||◌, List, [], ◌∷◌, ◌++◌, map, ℕ, suc, ◌+◌, ◌/◌, ◌%◌, ◌^◌, ◌≤◌, ◌<◌, eqb, ltb, length, get_or, take, drop}
use Rattle.ump.specs.Edits.{Patch, elem}
use Rattle.store.specs.Store.{is_dump, Record, body_size, records_of, Dump, dump_of, dumps_of, numbers_of, twice}

-- the record at a place
abbrev pub record_at : List ℕ → ℕ → Record
record_at store at = record { kind = get_or store at 0; body = take (body_size (get_or store at 0)) (drop (suc at) store) }

-- the place behind it
abbrev pub next_at : List ℕ → ℕ → ℕ
next_at store at = at + 1 + body_size (get_or store at 0)

-- the records from a place on
abbrev pub records_from : List ℕ → ℕ → List Record
records_from store at = records_of (drop at store)

-- the dumps from a place on
abbrev pub dumps_from : List ℕ → ℕ → List Dump
dumps_from store at = dumps_of (drop at store)

-- the dump whose record stands at a place
abbrev pub dump_at : List ℕ → ℕ → Dump
dump_at store at = dump_of (record_at store at) (records_from store (next_at store at))

-- a dump begins at a place
abbrev pub DumpBegins : List ℕ → ℕ → Type 0
DumpBegins store at = (at < length store) × (is_dump (get_or store at 0) ≡ true)

-- the place behind the record at a place; past the end no record stands
pub record Behind (store : List ℕ) (at next : ℕ) : Type 0 where
  pub is : at < length store → next ≡ next_at store at
  pub on : at < length store → (at < next) × (next < at + 15)

-- how many bytes of its body a record has
pub record HasBody (store : List ℕ) (at size : ℕ) : Type 0 where
  pub body : take size (drop (at + 1) store) ≡ (record_at store at).body
  pub inside : at < length store → at + 1 + size ≤ length store

-- each edit begins no earlier than the one before it ends, which is at `end`
abbrev pub Ordered : ℕ → List Patch → Type 0
Ordered end [] = Unit {0}
Ordered end (patch ∷ patches) = (end ≤ patch.from) × Ordered patch.to patches

-- these are the places of all dumps of the store
pub record Noted (store places : List ℕ) : Type 0 where
  pub dumps : dumps_of store ≡ map (dump_at store) places
  pub begin : (i : ℕ) → i < length places → DumpBegins store (get_or places i 0)

-- flag n of a table is bit n % 8 of byte n / 8
abbrev pub flagged : List ℕ → ℕ → Bool
flagged table n = eqb (get_or table (n / 8) 0 / 2 ^ (n % 8) % 2) 1

-- the flag of a number is set, where the table has it, and no other is changed
abbrev pub Flags : List ℕ → ℕ → List ℕ → Type 0
Flags before n after = (m : ℕ) → flagged after m ≡ ((ltb (n / 8) (length before) && eqb m n) || flagged before m)

-- One pass over the records, come to a place: so many dumps are passed, with these numbers, no two of which are the same; the numbers
-- used are flagged, and the places are noted as far as there is room.
pub record Entering (store : List ℕ) (at count : ℕ) (used places : List ℕ) : Type 0 where
  pub passed : List ℕ
  pub table : length used ≡ 8192
  pub fewer : count ≤ at
  pub numbers : numbers_of (dumps_of store) ≡ passed ++ numbers_of (dumps_from store at)
  pub once : twice passed ≡ false
  pub marks : (m : ℕ) → m < 65536 → flagged used m ≡ elem m passed
  pub counted : length (dumps_of store) ≡ count + length (dumps_from store at)
  pub dumps : count ≤ length places → dumps_of store ≡ map (dump_at store) (take count places) ++ dumps_from store at
  pub begin : (i : ℕ) → i < count → i < length places → DumpBegins store (get_or places i 0)
