-- Reclaiming the store (02, T-13): a dump is marked unwanted; what no wanted dump rests on is freed.
-- Assumes nothing.
use Rattle.std.specs.Prelude.{Bool, false, cond, not, ◌&&◌, ◌||◌, List, [], ◌∷◌, ◌++◌, ℕ, zero, suc, ◌+◌, ◌-◌, eqb, length, replicate}
use Rattle.refusal.specs.Answer.{Answer, Verdict, ◌▷◌, guard, writes}
use Rattle.ump.specs.Word.{pair_at}
use Rattle.ump.specs.Edits.{elem}
use Rattle.store.specs.Store.{is_wanted, is_dump, Record, records_of, Dump, dumps_of, held, numbers_of, sound}
use Rattle.chain.specs.Walk.{base_of, from_base}

-- the number in a record that begins a dump
abbrev pub record_number : Record → ℕ
record_number r = pair_at r.body 0

-- the bytes of records
unfoldable pub bytes_in : List Record → List ℕ
bytes_in [] = []
bytes_in (r ∷ rs) = r.kind ∷ (r.body ++ bytes_in rs)

-- ---- marking

-- 01 to 11 hex, 02 to 12; any other stays, a dump's that is marked already among them
unfoldable pub marked_kind : ℕ → ℕ
marked_kind kind = cond (is_wanted kind) (kind + 0x10) kind

-- the record begins the dump of this number
abbrev pub is_dump_of : ℕ → Record → Bool
is_dump_of n r = is_dump r.kind && eqb (record_number r) n

-- the record that begins the dump of this number gets the marked kind, all others stay
unfoldable pub marked_in : ℕ → List Record → List Record
marked_in n [] = []
marked_in n (r ∷ rs) = cond (is_dump_of n r) (record { kind = marked_kind r.kind; body = r.body } ∷ rs) (r ∷ marked_in n rs)

abbrev pub marked : List ℕ → ℕ → List ℕ
marked store n = bytes_in (marked_in n (records_of store))

-- Format, Twice, Full, Missing
unfoldable pub mark : List ℕ → ℕ → Verdict × List ℕ
mark store n = writes (sound store ▷ guard (not (elem n (numbers_of (dumps_of store)))) 24 0) store tt (marked store n)

-- ---- which dumps stay

-- the numbers of the wanted dumps
unfoldable pub wanted_in : List Record → List ℕ
wanted_in [] = []
wanted_in (r ∷ rs) = cond (is_wanted r.kind) (record_number r ∷ wanted_in rs) (wanted_in rs)

abbrev pub wanted_of : List ℕ → List ℕ
wanted_of store = wanted_in (records_of store)

-- the first so many numbers that the walk from n comes to, n itself first
unfoldable pub walked : List Dump → ℕ → ℕ → List ℕ
walked dumps zero n = []
walked dumps (suc left) n = n ∷ from_base [] (λ base. walked dumps left base) (base_of (held dumps n))

-- The walk from one of these numbers comes to n. Before it comes to a number again, it has passed each dump at most once, and at its end
-- a number that is not held.
unfoldable pub reaches : List Dump → List ℕ → ℕ → Bool
reaches dumps [] n = false
reaches dumps (w ∷ wanted) n = elem n (walked dumps (suc (length dumps)) w) || reaches dumps wanted n

-- each wanted dump stays, and each that a wanted one rests on
abbrev pub stays : List ℕ → ℕ → Bool
stays store n = reaches (dumps_of store) (wanted_of store) n

-- ---- collection

-- the records of the dumps that stay; what is no dump stays if the dump before it does
unfoldable pub kept_in : (ℕ → Bool) → Bool → List Record → List Record
kept_in keep on [] = []
kept_in keep on (r ∷ rs) =
    let stay = cond (is_dump r.kind) (keep (record_number r)) on in
    let rest = kept_in keep stay rs in
    cond stay (r ∷ rest) rest

-- their bytes, in their old order
unfoldable pub collected : List ℕ → List ℕ
collected store = bytes_in (kept_in (stays store) false (records_of store))

-- the bytes lent: what is freed is zero
abbrev pub lent_after : List ℕ → List ℕ
lent_after store = collected store ++ replicate (length store - length (collected store)) 0

-- Format, Twice, Full; the new length
unfoldable pub collect : List ℕ → Answer ℕ × List ℕ
collect store = writes (sound store) store (length (collected store)) (lent_after store)
