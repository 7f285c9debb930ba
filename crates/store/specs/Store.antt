-- The store of dumps (02, T-02 and T-13): its records, what may follow what, and the dumps that they make.
-- Assumes nothing.
use Rattle.std.specs.Prelude.{Option, None, Some, Bool, true, false, cond, not, ◌&&◌, ◌||◌, List, [], ◌∷◌, ◌++◌, map, ℕ, zero, suc, ◌-◌, eqb, ltb, leb, length, get_or, take}
use Rattle.refusal.specs.Answer.{Answer, gives, Verdict, ◌▷◌, guard}
use Rattle.ump.specs.Word.{pair_at}
use Rattle.ump.specs.Edits.{Patch, elem}
use Rattle.store.specs.declared.format.Follow.{Follow}

-- ---- records: one byte of kind, then a body whose length the kind fixes

-- 11 and 12 hex are 01 and 02 of a dump that is not wanted any more, and are else read as these (T-13)
abbrev pub is_whole : ℕ → Bool
is_whole kind = eqb kind 0x01 || eqb kind 0x11

abbrev pub is_delta : ℕ → Bool
is_delta kind = eqb kind 0x02 || eqb kind 0x12

-- it begins a dump that is wanted
abbrev pub is_wanted : ℕ → Bool
is_wanted kind = eqb kind 0x01 || eqb kind 0x02

abbrev pub is_dump : ℕ → Bool
is_dump kind = is_whole kind || is_delta kind

abbrev pub is_edit : ℕ → Bool
is_edit kind = eqb kind 0x03

unfoldable pub is_data : ℕ → Bool
is_data kind = leb 0x81 kind && leb kind 0x8D

-- the bytes after the kind: 1 to 13 of data, else 4 (an unknown kind is refused, whatever follows it)
unfoldable pub body_size : ℕ → ℕ
body_size kind = cond (is_data kind) (kind - 0x80) 4

pub record Record : Type 0 where
  pub kind : ℕ
  pub body : List ℕ

-- the records of the bytes, where the first so many still belong to the record before; a body at the end may be short
unfoldable pub records_after : ℕ → List ℕ → List Record
records_after skip [] = []
records_after zero (kind ∷ bytes) = record { kind = kind; body = take (body_size kind) bytes } ∷ records_after (body_size kind) bytes
records_after (suc skip) (byte ∷ bytes) = records_after skip bytes

abbrev pub records_of : List ℕ → List Record
records_of store = records_after 0 store

-- ---- Format: (01 data* | 02 (03 data*)*)*, where 11 stands for 01 and 12 for 02 as well

-- A `Follow` is what may follow a record besides a dump: edits, that begin no earlier than at `end`; data. At the start neither may come.
abbrev pub at_start : Follow
at_start = record { edits = false; bytes = false; end = 0 }

-- behind a record of this kind; an edit's second number is given
unfoldable pub follows_by : Follow → ℕ → ℕ → Follow
follows_by f kind to =
    cond (is_whole kind) (record { edits = false; bytes = true; end = 0 })
    (cond (is_delta kind) (record { edits = true; bytes = false; end = 0 })
    (cond (is_edit kind) (record { edits = true; bytes = true; end = to }) f))

-- a whole dump's group is at most 15, an edit begins no earlier than the one before it ends, other kinds are data
unfoldable pub allowed_by : Follow → ℕ → ℕ → ℕ → Bool
allowed_by f kind group from =
    cond (is_whole kind) (ltb group 16)
    (cond (is_delta kind) true (cond (is_edit kind) (f.edits && leb f.end from) (is_data kind && f.bytes)))

abbrev pub follows : Follow → Record → Follow
follows f r = follows_by f r.kind (pair_at r.body 2)

abbrev pub allowed : Follow → Record → Bool
allowed f r = allowed_by f r.kind (get_or r.body 2 0) (pair_at r.body 0)

-- a record whose body is all there, and that may stand where it does
abbrev pub fits : Follow → Record → Bool
fits f r = eqb (length r.body) (body_size r.kind) && allowed f r

unfoldable pub well_formed : Follow → List Record → Bool
well_formed f [] = true
well_formed f (r ∷ rs) = fits f r && well_formed (follows f r) rs

-- ---- the dumps

-- number, group, stream id and data; number, base and edits, each with its data
pub data Dump : Type 0 where
  whole : ℕ → ℕ → ℕ → List ℕ → Dump
  delta : ℕ → ℕ → List Patch → Dump

abbrev pub dump_number : Dump → ℕ
dump_number (whole number group id bytes) = number
dump_number (delta number base patches) = number

-- the data that the records begin with, joined
unfoldable pub data_in : List Record → List ℕ
data_in [] = []
data_in (r ∷ rs) = cond (is_data r.kind) (r.body ++ data_in rs) []

-- the edits and data that the records begin with: each edit with the data after it
unfoldable pub patches_in : List Record → List Patch
patches_in [] = []
patches_in (r ∷ rs) =
    cond (is_edit r.kind) (record { from = pair_at r.body 0; to = pair_at r.body 2; bytes = data_in rs } ∷ patches_in rs)
    (cond (is_data r.kind) (patches_in rs) [])

-- the dump of a record that begins one, and the records after it
unfoldable pub dump_of : Record → List Record → Dump
dump_of r rs =
    cond (is_whole r.kind) (whole (pair_at r.body 0) (get_or r.body 2 0) (get_or r.body 3 0) (data_in rs))
    (delta (pair_at r.body 0) (pair_at r.body 2) (patches_in rs))

unfoldable pub dumps_in : List Record → List Dump
dumps_in [] = []
dumps_in (r ∷ rs) = cond (is_dump r.kind) (dump_of r rs ∷ dumps_in rs) (dumps_in rs)

abbrev pub dumps_of : List ℕ → List Dump
dumps_of store = dumps_in (records_of store)

-- the dump held under a number
unfoldable pub held : List Dump → ℕ → Option Dump
held [] n = None
held (d ∷ dumps) n = cond (eqb n (dump_number d)) (Some d) (held dumps n)

abbrev pub numbers_of : List Dump → List ℕ
numbers_of dumps = map dump_number dumps

-- ---- Format, Twice, Full: each over the whole store, before the next

-- a number used again
unfoldable pub twice : List ℕ → Bool
twice [] = false
twice (n ∷ ns) = elem n ns || twice ns

abbrev pub most_dumps : ℕ
most_dumps = 256

unfoldable pub sound : List ℕ → Verdict
sound store =
    guard (not (well_formed at_start (records_of store))) 21 0
    ▷ guard (twice (numbers_of (dumps_of store))) 22 0
    ▷ guard (ltb most_dumps (length (dumps_of store))) 23 0

-- the check as a call: how many dumps there are
abbrev pub check_store : List ℕ → Answer ℕ
check_store store = sound store ▷ gives (length (dumps_of store))
