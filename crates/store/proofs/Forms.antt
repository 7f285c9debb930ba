-- What a well-formed store has: groups of at most 15 and edits in order; what a store of bytes has: ids and data of bytes; and no store has
-- more data in its dumps than it is long. Assumes nothing.
use mathlib.Core.Path.{◌≡◌, refl}
use mathlib.Core.Bool.{Bool, true, false, cond, ◌||◌}
use mathlib.Core.List.{List, [], ◌∷◌, ◌++◌}
use Prim.Native.Nat.{ℕ, zero, suc, ◌+◌, ◌-◌, ◌≤◌, ◌<◌}
use native.Mathlib.Omega.{arith}
use lib.Dec.{eqb, leb}
use lib.ListN.{length, get_or, length-append, length-take}
use borrow.Author.Tests.{ltb-true, leb-true, eqb-true}
use Rattle.ump.specs.Word.{Below, pair_at}
use Rattle.ump.specs.Edits.{Patch, patch_at, total, all_bytes}
use Rattle.ump.proofs.Words.{below_append, below_take, below_get_d}
use Rattle.ump.proofs.Counting.{total_front}
use Rattle.store.specs.Store.{is_whole, is_delta, is_edit, is_data, body_size, Record, records_after, records_of, follows_by, allowed_by, follows, allowed, fits, well_formed, Dump, whole, delta, data_in, patches_in, dump_of, dumps_in, dumps_of}
use Rattle.store.specs.Places.{Ordered}
use Rattle.store.specs.declared.format.Follow.{Follow}
use Rattle.store.proofs.Records.{and-true, data_other}

-- of each in a list
abbrev pub All : {A : Type 0} → (A → Type 0) → List A → Type 0
All P [] = Unit {0}
All P (x ∷ xs) = P x × All P xs

-- ---- what a record and those behind it make

module _ (r : Record) (rs : List Record) where
  abbrev whole_here : Dump
  whole_here = whole (pair_at r.body 0) (get_or r.body 2 0) (get_or r.body 3 0) (data_in rs)

  abbrev delta_here : Dump
  delta_here = delta (pair_at r.body 0) (pair_at r.body 2) (patches_in rs)

  abbrev edit_here : Patch
  edit_here = record { from = pair_at r.body 0; to = pair_at r.body 2; bytes = data_in rs }

  -- one more dump, or none
  dump_more : (P : Dump → Type 0) → (is_whole r.kind ≡ true → P whole_here) → (is_delta r.kind ≡ true → P delta_here)
      → All P (dumps_in rs) → All P (dumps_in (r ∷ rs))
  unfolding dumps_in dump_of
  dump_more P w d more = go (is_whole r.kind) (is_delta r.kind) refl refl
    where
      go : (a b : Bool) → is_whole r.kind ≡ a → is_delta r.kind ≡ b
          → All P (cond (a || b) (cond a whole_here delta_here ∷ dumps_in rs) (dumps_in rs))
      go true b p q = (w p, more)
      go false true p q = (d q, more)
      go false false p q = more

-- ---- form

module _ (f : Follow) (k : ℕ) where
  whole_group : (group from : ℕ) → is_whole k ≡ true → allowed_by f k group from ≡ true → group < 16
  unfolding allowed_by
  whole_group group from e h = ltb-true group 16 (rw e at h)

  edit_from : (group from : ℕ) → is_edit k ≡ true → allowed_by f k group from ≡ true → f.end ≤ from
  unfolding allowed_by
  edit_from group from e h =
      let is : k ≡ 3 = eqb-true k 3 e in
      leb-true f.end from (and-true f.edits (leb f.end from) (rw is at h)).1

  -- where the next edit may begin
  edit_end : (to : ℕ) → is_edit k ≡ true → (follows_by f k to).end ≡ to
  unfolding follows_by
  edit_end to e = let is : k ≡ 3 = eqb-true k 3 e in rw is

  delta_end : (to : ℕ) → is_delta k ≡ true → (follows_by f k to).end ≡ 0
  unfolding follows_by
  delta_end to e = go (is_whole k)
    where
      go : (b : Bool) → (cond b (record { edits = false; bytes = true; end = 0 }) (cond (is_delta k) (record { edits = true; bytes = false; end = 0 }) (cond (is_edit k) (record { edits = true; bytes = true; end = to }) f))).end ≡ 0
      go true = refl
      go false = rw e

  data_end : (to : ℕ) → is_data k ≡ true → (follows_by f k to).end ≡ f.end
  unfolding follows_by
  data_end to e = let o = data_other k e in rw (o.0, o.1.0, o.1.1)

-- the first record of well-formed ones, and those behind it
pub form_step : (f : Follow) (r : Record) (rs : List Record) → well_formed f (r ∷ rs) ≡ true
    → (fits f r ≡ true) × (well_formed (follows f r) rs ≡ true)
unfolding well_formed
form_step f r rs e = and-true (fits f r) (well_formed (follows f r) rs) e

pub fit_parts : (f : Follow) (r : Record) → fits f r ≡ true → (length r.body ≡ body_size r.kind) × (allowed f r ≡ true)
fit_parts f r e =
    let a = and-true (eqb (length r.body) (body_size r.kind)) (allowed f r) e in
    (eqb-true (length r.body) (body_size r.kind) a.0, a.1)

patches_ordered : (f : Follow) (rs : List Record) → well_formed f rs ≡ true → Ordered f.end (patches_in rs)
unfolding patches_in
patches_ordered f [] e = tt
patches_ordered f (r ∷ rs) e =
    let s = form_step f r rs e in
    go (patches_ordered (follows f r) rs s.1) (fit_parts f r s.0).1 (is_edit r.kind) (is_data r.kind) refl refl
  where
    to : ℕ
    to = pair_at r.body 2

    go : Ordered (follows f r).end (patches_in rs) → allowed f r ≡ true → (a b : Bool) → is_edit r.kind ≡ a → is_data r.kind ≡ b
        → Ordered f.end (cond a (edit_here r rs ∷ patches_in rs) (cond b (patches_in rs) []))
    go more ok true b p q = (edit_from f r.kind (get_or r.body 2 0) (pair_at r.body 0) p ok, rw (edit_end f r.kind to p) at more)
    go more ok false true p q = rw (data_end f r.kind to q) at more
    go more ok false false p q = tt

-- a whole dump's group is at most 15, a delta's edits are in order
abbrev pub Formed : Dump → Type 0
Formed (whole number group id bytes) = group < 16
Formed (delta number base patches) = Ordered 0 patches

pub all_formed : (f : Follow) (rs : List Record) → well_formed f rs ≡ true → All Formed (dumps_in rs)
unfolding dumps_in
all_formed f [] e = tt
all_formed f (r ∷ rs) e =
    let s = form_step f r rs e in
    dump_more r rs Formed
    (λ w. whole_group f r.kind (get_or r.body 2 0) (pair_at r.body 0) w (fit_parts f r s.0).1)
    (λ d. rw (delta_end f r.kind (pair_at r.body 2) d) at (patches_ordered (follows f r) rs s.1))
    (all_formed (follows f r) rs s.1)

-- ---- bytes

abbrev Bodies : List Record → Type 0
Bodies rs = All (λ (r : Record). Below 256 r.body) rs

abbrev pub Bytes : List Patch → Type 0
Bytes patches = All (λ (patch : Patch). Below 256 patch.bytes) patches

bodies : (skip : ℕ) (bytes : List ℕ) → Below 256 bytes → Bodies (records_after skip bytes)
unfolding records_after
bodies skip [] b = tt
bodies zero (kind ∷ bytes) b = (below_take 256 (body_size kind) bytes b.1, bodies (body_size kind) bytes b.1)
bodies (suc skip) (byte ∷ bytes) b = bodies skip bytes b.1

data_bytes : (rs : List Record) → Bodies rs → Below 256 (data_in rs)
unfolding data_in
data_bytes [] b = tt
data_bytes (r ∷ rs) b = go (is_data r.kind) (below_append 256 r.body (data_in rs) b.0 (data_bytes rs b.1))
  where
    go : (t : Bool) → Below 256 (r.body ++ data_in rs) → Below 256 (cond t (r.body ++ data_in rs) [])
    go true h = h
    go false h = tt

patch_bytes : (rs : List Record) → Bodies rs → Bytes (patches_in rs)
unfolding patches_in
patch_bytes [] b = tt
patch_bytes (r ∷ rs) b = go (is_edit r.kind) (is_data r.kind) (data_bytes rs b.1) (patch_bytes rs b.1)
  where
    go : (s t : Bool) → Below 256 (data_in rs) → Bytes (patches_in rs)
        → Bytes (cond s (edit_here r rs ∷ patches_in rs) (cond t (patches_in rs) []))
    go true t h k = (h, k)
    go false true h k = k
    go false false h k = tt

pub bytes_at : (patches : List Patch) (i : ℕ) → Bytes patches → Below 256 (patch_at patches i).bytes
bytes_at [] i b = tt
bytes_at (patch ∷ patches) zero b = b.0
bytes_at (patch ∷ patches) (suc i) b = bytes_at patches i b.1

-- a whole dump has an id and data of bytes, a delta edits of bytes
abbrev pub OfBytes : Dump → Type 0
OfBytes (whole number group id bytes) = (id < 256) × Below 256 bytes
OfBytes (delta number base patches) = Bytes patches

all-bytes : (rs : List Record) → Bodies rs → All OfBytes (dumps_in rs)
unfolding dumps_in
all-bytes [] b = tt
all-bytes (r ∷ rs) b =
    dump_more r rs OfBytes
    (λ w. (below_get_d 256 r.body 3 (omega arith) b.0, data_bytes rs b.1))
    (λ d. patch_bytes rs b.1)
    (all-bytes rs b.1)

pub store_bytes : (store : List ℕ) → Below 256 store → All OfBytes (dumps_of store)
store_bytes store b = all-bytes (records_of store) (bodies 0 store b)

-- ---- how much data

abbrev pub weight : Dump → ℕ
weight (whole number group id bytes) = length bytes
weight (delta number base patches) = all_bytes patches

unfoldable pub weights : List Dump → ℕ
weights [] = 0
weights (d ∷ ds) = weight d + weights ds

unfoldable bulk : List Record → ℕ
bulk [] = 0
bulk (r ∷ rs) = length r.body + bulk rs

-- data of dumps, of the edits and of the data that the records begin with
abbrev Fewer : List Record → Type 0
Fewer rs = weights (dumps_in rs) + all_bytes (patches_in rs) + length (data_in rs) ≤ bulk rs

module _ (r : Record) (rs : List Record) (more : Fewer rs) where
  edit_adds : all_bytes (edit_here r rs ∷ patches_in rs) ≡ length (data_in rs) + all_bytes (patches_in rs)
  edit_adds = total_front (λ j. length (patch_at (edit_here r rs ∷ patches_in rs) j).bytes) (length (patches_in rs))

  data_fewer : is_data r.kind ≡ true → Fewer (r ∷ rs)
  unfolding dumps_in patches_in data_in bulk
  data_fewer e =
      let o = data_other r.kind e in
      rw (e, o.0, o.1.0, o.1.1) (omega (arith, more, length-append r.body (data_in rs)))

  edit_fewer : is_edit r.kind ≡ true → Fewer (r ∷ rs)
  unfolding dumps_in patches_in data_in is_data bulk
  edit_fewer e = let is : r.kind ≡ 3 = eqb-true r.kind 3 e in rw is (omega (arith, more, edit_adds))

  rest_fewer : is_data r.kind ≡ false → is_edit r.kind ≡ false → Fewer (r ∷ rs)
  unfolding weights dumps_in dump_of patches_in data_in bulk total
  rest_fewer d e = rw (d, e) (go (is_whole r.kind) (is_delta r.kind))
    where
      go : (a b : Bool)
          → weights (cond (a || b) (cond a (whole_here r rs) (delta_here r rs) ∷ dumps_in rs) (dumps_in rs)) + 0 + 0
          ≤ length r.body + bulk rs
      go true b = omega (arith, more)
      go false true = omega (arith, more)
      go false false = omega (arith, more)

weights_bulk : (rs : List Record) → Fewer rs
unfolding weights dumps_in patches_in data_in bulk total
weights_bulk [] = omega arith
weights_bulk (r ∷ rs) = go (weights_bulk rs) (is_edit r.kind) (is_data r.kind) refl refl
  where
    go : Fewer rs → (a b : Bool) → is_edit r.kind ≡ a → is_data r.kind ≡ b → Fewer (r ∷ rs)
    go more true b p q = edit_fewer r rs more p
    go more false true p q = data_fewer r rs more q
    go more false false p q = rest_fewer r rs more q p

bulk_length : (skip : ℕ) (bytes : List ℕ) → bulk (records_after skip bytes) ≤ length bytes - skip
unfolding bulk records_after
bulk_length skip [] = omega arith
bulk_length zero (k ∷ bytes) = omega (arith, bulk_length (body_size k) bytes, length-take (body_size k) bytes)
bulk_length (suc skip) (k ∷ bytes) = omega (arith, bulk_length skip bytes)

pub weights_length : (store : List ℕ) → weights (dumps_of store) ≤ length store
weights_length store = omega (arith, weights_bulk (records_of store), bulk_length 0 store)
