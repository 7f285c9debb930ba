-- What may follow what, record by record. Assumes nothing.
use mathlib.Core.Path.{◌≡◌, refl, sym, ap, ◌∙◌}
use mathlib.Core.Bool.{Bool, true, false, cond, ◌&&◌}
use mathlib.Core.Logic.{◌≢◌, ◌⊎◌, inl, inr}
use mathlib.Core.List.{List}
use Prim.Native.Nat.{ℕ, ◌+◌, ◌≤◌, ◌<◌}
use native.Mathlib.Omega.{arith}
use lib.Dec.{ltb, leb}
use lib.ListN.{length, get_or, take, drop, length-drop}
use lib.Seq.{length-take-le}
use borrow.Author.Tests.{eq-eqb, ne_eqb, le-leb}
use Rattle.ump.specs.Word.{pair_at}
use Rattle.store.specs.Store.{is_whole, is_delta, is_edit, is_data, body_size, follows_by, allowed_by, follows, allowed, fits, well_formed}
use Rattle.store.specs.Places.{record_at, next_at, records_from}
use Rattle.store.specs.Meaning.{record_kind}
use Rattle.store.specs.declared.format.Follow.{Follow}
use Rattle.store.specs.declared.format.Kind.{Kind}
use Rattle.store.specs.declared.format.Kind.TheVariants as kinds
use Rattle.store.proofs.Records.{data_other, records_end, records_step, body_byte, body_pair}

-- ---- by kinds

pub kind_data : (k : ℕ) → is_data k ≡ true → kinds.Data ≡ record_kind k
kind_data k d = let o = data_other k d in rw (o.0, o.1.0, o.1.1, d)

pub kind_other : (k : ℕ) → (k ≡ 1 ⊎ k ≡ 17 → ⊥) → (k ≡ 2 ⊎ k ≡ 18 → ⊥) → k ≢ 3 → is_data k ≡ false → kinds.Other ≡ record_kind k
kind_other k a b c d =
    rw (ne_eqb k 1 (λ e. a (inl e)), ne_eqb k 17 (λ e. a (inr e)), ne_eqb k 2 (λ e. b (inl e)), ne_eqb k 18 (λ e. b (inr e)), ne_eqb k 3 c, d)

module _ (f : Follow) where
  -- what may follow a record of this kind
  abbrev pub after_kind : Kind → ℕ → Follow
  after_kind kinds.Whole to = record { edits = false; bytes = true; end = 0 }
  after_kind kinds.Delta to = record { edits = true; bytes = false; end = 0 }
  after_kind kinds.Edit to = record { edits = true; bytes = true; end = to }
  after_kind kinds.Data to = f
  after_kind kinds.Other to = f

  pub after_by : (k to : ℕ) → {kind : Kind} → kind ≡ record_kind k → after_kind kind to ≡ follows_by f k to
  unfolding follows_by
  after_by k to e = rw e (go (is_whole k) (is_delta k) (is_edit k) (is_data k))
    where
      go : (a b c d : Bool) → after_kind (cond a kinds.Whole (cond b kinds.Delta (cond c kinds.Edit (cond d kinds.Data kinds.Other)))) to
          ≡ cond a (record { edits = false; bytes = true; end = 0 }) (cond b (record { edits = true; bytes = false; end = 0 }) (cond c (record { edits = true; bytes = true; end = to }) f))
      go true b c d = refl
      go false true c d = refl
      go false false true d = refl
      go false false false true = refl
      go false false false false = refl

  -- whether a record of this kind may stand here
  abbrev pub kind_allowed : Kind → ℕ → ℕ → Bool
  kind_allowed kinds.Whole group from = ltb group 16
  kind_allowed kinds.Delta group from = true
  kind_allowed kinds.Edit group from = f.edits && leb f.end from
  kind_allowed kinds.Data group from = f.bytes
  kind_allowed kinds.Other group from = false

  pub allow_by : (k group from : ℕ) → {kind : Kind} → kind ≡ record_kind k → kind_allowed kind group from ≡ allowed_by f k group from
  unfolding allowed_by
  allow_by k group from e = rw e (go (is_whole k) (is_delta k) (is_edit k) (is_data k))
    where
      go : (a b c d : Bool) → kind_allowed (cond a kinds.Whole (cond b kinds.Delta (cond c kinds.Edit (cond d kinds.Data kinds.Other)))) group from
          ≡ cond a (ltb group 16) (cond b true (cond c (f.edits && leb f.end from) (d && f.bytes)))
      go true b c d = refl
      go false true c d = refl
      go false false true d = refl
      go false false false true = refl
      go false false false false = refl

  after_data : (k to : ℕ) → is_data k ≡ true → f ≡ follows_by f k to
  unfolding follows_by
  after_data k to d = let o = data_other k d in rw (o.0, o.1.0, o.1.1)

  allow_data : (k group from : ℕ) → is_data k ≡ true → f.bytes ≡ allowed_by f k group from
  unfolding allowed_by
  allow_data k group from d = let o = data_other k d in rw (o.0, o.1.0, o.1.1, d)

-- ---- by place: a body of data is read for numbers that do not matter

module _ (store : List ℕ) (at : ℕ) (f : Follow) where
  abbrev kind : ℕ
  kind = get_or store at 0

  pub allowed_here : allowed_by f kind (get_or store (at + 3) 0) (pair_at store (at + 1)) ≡ allowed f (record_at store at)
  allowed_here = go (is_data kind) refl
    where
      go : (b : Bool) → is_data kind ≡ b → allowed_by f kind (get_or store (at + 3) 0) (pair_at store (at + 1)) ≡ allowed f (record_at store at)
      go true d = sym (allow_data f kind _ _ d) ∙ allow_data f kind _ _ d
      go false d =
          let p : at + 1 + 2 ≡ at + 3 = omega arith in
          let q : at + 1 + 0 ≡ at + 1 = omega arith in
          ap (λ (g : ℕ). allowed_by f kind g (pair_at store (at + 1))) (ap (λ (n : ℕ). get_or store n 0) (sym p) ∙ sym (body_byte store at 2 d (omega arith)))
          ∙ ap (λ (n : ℕ). allowed_by f kind (get_or (record_at store at).body 2 0) n) (ap (pair_at store) (sym q) ∙ sym (body_pair store at 0 d (omega arith)))

  pub follows_here : follows_by f kind (pair_at store (at + 3)) ≡ follows f (record_at store at)
  follows_here = go (is_data kind) refl
    where
      go : (b : Bool) → is_data kind ≡ b → follows_by f kind (pair_at store (at + 3)) ≡ follows f (record_at store at)
      go true d = sym (after_data f kind _ d) ∙ after_data f kind _ d
      go false d =
          let p : at + 1 + 2 ≡ at + 3 = omega arith in
          ap (follows_by f kind) (ap (pair_at store) (sym p) ∙ sym (body_pair store at 2 d (omega arith)))

-- ---- one record

module _ (store : List ℕ) (at : ℕ) (h : at < length store) (f : Follow) where
  pub form_bad : fits f (record_at store at) ≡ false → false ≡ well_formed f (records_from store at)
  unfolding well_formed
  form_bad e = rw (records_step store at h, e)

  pub form_past : {g : Follow} → fits f (record_at store at) ≡ true → g ≡ follows f (record_at store at) → well_formed f (records_from store at) ≡ well_formed g (records_from store (next_at store at))
  unfolding well_formed
  form_past e q = rw (records_step store at h, e, q)

pub form_end : (store : List ℕ) (at : ℕ) (f : Follow) → length store ≤ at → true ≡ well_formed f (records_from store at)
unfolding well_formed
form_end store at f h = rw (records_end store at h)

-- a body that is there in part
pub body-length : (store : List ℕ) (at r : ℕ) → take r (drop (at + 1) store) ≡ (record_at store at).body → at + 1 + r ≤ length store → length (record_at store at).body ≡ r
body-length store at r e h = ap length (sym e) ∙ length-take-le r (drop (at + 1) store) (rw length-drop (omega arith))

module _ (store : List ℕ) (at : ℕ) (f : Follow) {r size : ℕ} (b : take r (drop (at + 1) store) ≡ (record_at store at).body) (h : at + 1 + r ≤ length store) (q : size ≡ body_size (get_or store at 0)) where
  pub fit_short : (r ≡ size → ⊥) → false ≡ fits f (record_at store at)
  fit_short d = rw (ne_eqb (length (record_at store at).body) (body_size (get_or store at 0)) (λ e. d (omega (arith, e, q, body-length store at r b h))))

  pub fit_whole : r ≡ size → fits f (record_at store at) ≡ allowed f (record_at store at)
  fit_whole d = rw (eq-eqb (length (record_at store at).body) (body_size (get_or store at 0)) (omega (arith, q, d, body-length store at r b h)))
