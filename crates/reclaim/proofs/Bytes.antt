-- The bytes of records, the records of bytes, and one store behind another. Assumes nothing.
use mathlib.Core.Path.{◌≡◌, refl, sym, ap, ◌∙◌}
use mathlib.Core.Bool.{Bool, true, false, cond, ◌&&◌, ◌||◌}
use mathlib.Core.List.{List, [], ◌∷◌, ◌++◌, append-nil, append_assoc}
use Prim.Native.Nat.{ℕ, zero, suc}
use lib.ListN.{length, get_or, take, drop, take-append-drop}
use lib.Seq.{take_at, drop_at}
use Rattle.ump.specs.Word.{pair_at}
use Rattle.store.specs.Store.{is_whole, is_delta, is_dump, is_edit, is_data, body_size, Record, records_after, records_of, at_start, follows_by, allowed_by, follows, allowed, fits, well_formed, Dump, data_in, patches_in, dump_of, dumps_in, dumps_of}
use Rattle.store.specs.declared.format.Follow.{Follow}
use Rattle.store.proofs.Records.{records_skip}
use Rattle.store.proofs.Forms.{All, form_step, fit_parts}
use Rattle.store.proofs.Dumps.{dump_kinds}
use Rattle.reclaim.specs.Reclaim.{bytes_in}

-- ---- bytes and records

bytes_after : (k : ℕ) (bytes : List ℕ) → bytes_in (records_after k bytes) ≡ drop k bytes
unfolding bytes_in records_after
bytes_after zero [] = refl
bytes_after (suc k) [] = refl
bytes_after zero (b ∷ bytes) =
    ap (λ (l : List ℕ). b ∷ (take (body_size b) bytes ++ l)) (bytes_after (body_size b) bytes)
    ∙ ap (λ (l : List ℕ). b ∷ l) (take-append-drop (body_size b) bytes)
bytes_after (suc k) (b ∷ bytes) = bytes_after k bytes

pub bytes_records : (store : List ℕ) → bytes_in (records_of store) ≡ store
bytes_records store = bytes_after 0 store

pub bytes_append : (rs ss : List Record) → bytes_in (rs ++ ss) ≡ bytes_in rs ++ bytes_in ss
unfolding bytes_in
bytes_append [] ss = refl
bytes_append (r ∷ rs) ss =
    ap (λ (l : List ℕ). r.kind ∷ (r.body ++ l)) (bytes_append rs ss)
    ∙ ap (λ (l : List ℕ). r.kind ∷ l) (sym (append_assoc r.body (bytes_in rs) (bytes_in ss)))

-- each record has all of its body
abbrev pub Complete : List Record → Type 0
Complete rs = All (λ (r : Record). length r.body ≡ body_size r.kind) rs

pub records_bytes : (rs : List Record) (more : List ℕ) → Complete rs → records_of (bytes_in rs ++ more) ≡ rs ++ records_of more
unfolding bytes_in records_after
records_bytes [] more c = refl
records_bytes (r ∷ rs) more c =
    let size = body_size r.kind in
    let rest = bytes_in rs ++ more in
    ap (λ (l : List ℕ). records_after 0 (r.kind ∷ l)) (append_assoc r.body (bytes_in rs) more)
    ∙ ap (λ (l : List ℕ). record { kind = r.kind; body = l } ∷ records_after size (r.body ++ rest)) (take_at r.body rest size c.0)
    ∙ ap (λ (l : List Record). r ∷ l)
    (records_skip size (r.body ++ rest) ∙ ap (λ (l : List ℕ). records_of l) (drop_at r.body rest size c.0) ∙ records_bytes rs more c.1)

pub records_complete : (rs : List Record) → Complete rs → records_of (bytes_in rs) ≡ rs
unfolding records_after
records_complete rs c = ap (λ (l : List ℕ). records_of l) (sym (append-nil (bytes_in rs))) ∙ records_bytes rs [] c ∙ append-nil rs

pub formed_complete : (f : Follow) (rs : List Record) → well_formed f rs ≡ true → Complete rs
formed_complete f [] e = tt
formed_complete f (r ∷ rs) e =
    let s = form_step f r rs e in
    ((fit_parts f r s.0).0, formed_complete (follows f r) rs s.1)

pub records_back : (f : Follow) (rs : List Record) → well_formed f rs ≡ true → records_of (bytes_in rs) ≡ rs
records_back f rs e = records_complete rs (formed_complete f rs e)

records_append : (f : Follow) (store more : List ℕ) → well_formed f (records_of store) ≡ true
    → records_of (store ++ more) ≡ records_of store ++ records_of more
records_append f store more e =
    ap (λ (l : List ℕ). records_of (l ++ more)) (sym (bytes_records store))
    ∙ records_bytes (records_of store) more (formed_complete f (records_of store) e)

-- ---- the kind of a dump

pub dump_only : (k : ℕ) → is_dump k ≡ true → (is_data k ≡ false) × (is_edit k ≡ false)
unfolding is_data
dump_only k e = dump_kinds (λ (n : ℕ). (is_data n ≡ false) × (is_edit n ≡ false)) (refl, refl) (refl, refl) (refl, refl) (refl, refl) k e

-- a dump may stand anywhere, and what may follow it does not depend on where
pub dump_allowed : (f g : Follow) (r : Record) → is_dump r.kind ≡ true → allowed f r ≡ allowed g r
unfolding allowed_by
dump_allowed f g r e =
    let P : ℕ → Type 0 = λ (n : ℕ). allowed_by f n (get_or r.body 2 0) (pair_at r.body 0) ≡ allowed_by g n (get_or r.body 2 0) (pair_at r.body 0) in
    dump_kinds P refl refl refl refl r.kind e

pub dump_follows : (f g : Follow) (r : Record) → is_dump r.kind ≡ true → follows f r ≡ follows g r
unfolding follows_by
dump_follows f g r e =
    dump_kinds (λ (n : ℕ). follows_by f n (pair_at r.body 2) ≡ follows_by g n (pair_at r.body 2)) refl refl refl refl r.kind e

-- ---- one store behind another

-- at the start stands a dump
pub start_dump : (r : Record) → fits at_start r ≡ true → is_dump r.kind ≡ true
unfolding allowed_by
start_dump r e = go (is_whole r.kind) (is_delta r.kind) (is_edit r.kind) (is_data r.kind) _ (fit_parts at_start r e).1
  where
    go : (a b c d small : Bool) → cond a small (cond b true (cond c false (d && false))) ≡ true → (a || b) ≡ true
    go true b c d small h = refl
    go false true c d small h = refl
    go false false true d small h = h
    go false false false true small h = h
    go false false false false small h = h

form_anywhere : (f : Follow) (rs : List Record) → well_formed at_start rs ≡ true → well_formed f rs ≡ true
unfolding well_formed
form_anywhere f [] e = refl
form_anywhere f (r ∷ rs) e =
    let s = form_step at_start r rs e in
    let d = start_dump r s.0 in
    rw (dump_allowed f at_start r d, dump_follows f at_start r d) e

form_append : (f : Follow) (rs ss : List Record) → well_formed f rs ≡ true → well_formed at_start ss ≡ true → well_formed f (rs ++ ss) ≡ true
unfolding well_formed
form_append f [] ss e h = form_anywhere f ss h
form_append f (r ∷ rs) ss e h = let s = form_step f r rs e in rw s.0 (form_append (follows f r) rs ss s.1 h)

-- no data and no edits come first
abbrev Apart : List Record → Type 0
Apart ss = (data_in ss ≡ []) × (patches_in ss ≡ [])

start-apart : (rs : List Record) → well_formed at_start rs ≡ true → Apart rs
unfolding data_in patches_in
start-apart [] e = (refl, refl)
start-apart (r ∷ rs) e = let o = dump_only r.kind (start_dump r (form_step at_start r rs e).0) in rw (o.0, o.1) (refl, refl)

one_more : (b : Bool) (d : Dump) (ds es : List Dump) → cond b (d ∷ (ds ++ es)) (ds ++ es) ≡ cond b (d ∷ ds) ds ++ es
one_more true d ds es = refl
one_more false d ds es = refl

module _ (ss : List Record) (a : Apart ss) where
  data_append : (rs : List Record) → data_in (rs ++ ss) ≡ data_in rs
  unfolding data_in
  data_append [] = a.0
  data_append (r ∷ rs) = rw (data_append rs)

  patches-append : (rs : List Record) → patches_in (rs ++ ss) ≡ patches_in rs
  unfolding patches_in
  patches-append [] = a.1
  patches-append (r ∷ rs) = rw (patches-append rs, data_append rs)

  dumps_join : (rs : List Record) → dumps_in (rs ++ ss) ≡ dumps_in rs ++ dumps_in ss
  unfolding dumps_in dump_of
  dumps_join [] = refl
  dumps_join (r ∷ rs) = rw (data_append rs, patches-append rs, dumps_join rs) (one_more (is_dump r.kind) (dump_of r rs) (dumps_in rs) (dumps_in ss))

pub dumps-append : (f : Follow) (store more : List ℕ) → well_formed f (records_of store) ≡ true → well_formed at_start (records_of more) ≡ true
    → dumps_of (store ++ more) ≡ dumps_of store ++ dumps_of more
dumps-append f store more e h =
    ap dumps_in (records_append f store more e) ∙ dumps_join (records_of more) (start-apart (records_of more) h) (records_of store)

pub formed_append : (f : Follow) (store more : List ℕ) → well_formed f (records_of store) ≡ true → well_formed at_start (records_of more) ≡ true
    → well_formed f (records_of (store ++ more)) ≡ true
formed_append f store more e h = ap (well_formed f) (records_append f store more e) ∙ form_append f (records_of store) (records_of more) e h
