-- The records of the dumps that are kept, whichever these are (02, T-13). Assumes nothing.
use Rattle.std.specs.Prelude.{None, Some}
use mathlib.Core.Path.{◌≡◌, refl, sym, ap, ◌∙◌}
use mathlib.Core.Bool.{Bool, true, false, cond, ◌&&◌, ◌||◌}
use mathlib.Core.List.{List, [], ◌∷◌, ◌++◌}
use Prim.Native.Nat.{ℕ, suc, ◌≤◌}
use native.Mathlib.Omega.{arith}
use lib.Dec.{eqb}
use lib.ListN.{length, length-append}
use borrow.Author.Tests.{eqb-true, le-ltb}
use Rattle.refusal.specs.Answer.{pass}
use Rattle.ump.specs.Edits.{elem}
use Rattle.store.specs.Store.{is_wanted, is_dump, Record, records_of, at_start, follows, fits, well_formed, Dump, dump_number, data_in, patches_in, dump_of, dumps_in, dumps_of, held, numbers_of, twice, most_dumps, sound}
use Rattle.store.specs.declared.format.Follow.{Follow}
use Rattle.store.proofs.Records.{not_both}
use Rattle.store.proofs.Checks.{sound_pass, sound_good}
use Rattle.chain.proofs.Outside.{or_false}
use Rattle.store.proofs.Forms.{form_step}
use Rattle.store.proofs.Dumps.{dump-number}
use Rattle.reclaim.specs.Reclaim.{record_number, bytes_in, wanted_in, kept_in}
use Rattle.reclaim.proofs.Bytes.{bytes_records, records_back, dump_only, dump_allowed, dump_follows, start_dump}
use Rattle.reclaim.proofs.Numbers.{number_first, number_later, wanted_first, wanted_later, wanted_dump}

-- ---- dumps

-- the dumps whose number is kept
unfoldable pub kept_dumps : (ℕ → Bool) → List Dump → List Dump
kept_dumps keep [] = []
kept_dumps keep (d ∷ ds) = cond (keep (dump_number d)) (d ∷ kept_dumps keep ds) (kept_dumps keep ds)

module _ (keep : ℕ → Bool) where
  pub elem_kept : (n : ℕ) (ds : List Dump) → elem n (numbers_of (kept_dumps keep ds)) ≡ (keep n && elem n (numbers_of ds))
  unfolding kept_dumps
  elem_kept n [] = none_kept (keep n)
    where
      none_kept : (b : Bool) → false ≡ (b && false)
      none_kept true = refl
      none_kept false = refl
  elem_kept n (d ∷ ds) = go (elem_kept n ds) (eqb n (dump_number d)) refl (keep (dump_number d)) refl (keep n) refl
    where
      go : elem n (numbers_of (kept_dumps keep ds)) ≡ (keep n && elem n (numbers_of ds)) → (b : Bool) → eqb n (dump_number d) ≡ b
          → (c : Bool) → keep (dump_number d) ≡ c → (e : Bool) → keep n ≡ e
          → elem n (numbers_of (cond c (d ∷ kept_dumps keep ds) (kept_dumps keep ds))) ≡ (e && (b || elem n (numbers_of ds)))
      go more true p true q true r = rw p
      go more true p true q false r = not_both q (ap keep (sym (eqb-true n (dump_number d) p)) ∙ r)
      go more true p false q true r = not_both r (ap keep (eqb-true n (dump_number d) p) ∙ q)
      go more true p false q false r = rw r at more
      go more false p true q e r = rw (p, ← r) more
      go more false p false q e r = rw (← r) more

  twice_kept : (ds : List Dump) → twice (numbers_of ds) ≡ false → twice (numbers_of (kept_dumps keep ds)) ≡ false
  unfolding twice kept_dumps
  twice_kept [] e = refl
  twice_kept (d ∷ ds) e =
      let o = or_false (elem (dump_number d) (numbers_of ds)) (twice (numbers_of ds)) e in
      go (twice_kept ds o.1) o.0 (keep (dump_number d)) refl
    where
      go : twice (numbers_of (kept_dumps keep ds)) ≡ false → elem (dump_number d) (numbers_of ds) ≡ false → (b : Bool) → keep (dump_number d) ≡ b
          → twice (numbers_of (cond b (d ∷ kept_dumps keep ds) (kept_dumps keep ds))) ≡ false
      go more new true p = rw (elem_kept (dump_number d) ds, p, new) more
      go more new false p = more

  pub length_kept : (ds : List Dump) → length (kept_dumps keep ds) ≤ length ds
  unfolding kept_dumps
  length_kept [] = omega arith
  length_kept (d ∷ ds) = go (length_kept ds) (keep (dump_number d))
    where
      go : length (kept_dumps keep ds) ≤ length ds → (b : Bool) → length (cond b (d ∷ kept_dumps keep ds) (kept_dumps keep ds)) ≤ suc (length ds)
      go more true = omega (arith, more)
      go more false = omega (arith, more)

  module _ (n : ℕ) where
    pub held_kept : keep n ≡ true → (ds : List Dump) → held (kept_dumps keep ds) n ≡ held ds n
    unfolding held kept_dumps
    held_kept k [] = refl
    held_kept k (d ∷ ds) = go (held_kept k ds) (keep (dump_number d)) refl (eqb n (dump_number d)) refl
      where
        go : held (kept_dumps keep ds) n ≡ held ds n → (b : Bool) → keep (dump_number d) ≡ b → (c : Bool) → eqb n (dump_number d) ≡ c
            → held (cond b (d ∷ kept_dumps keep ds) (kept_dumps keep ds)) n ≡ cond c (Some d) (held ds n)
        go more true p true q = rw q
        go more true p false q = rw q more
        go more false p true q = not_both k (ap keep (eqb-true n (dump_number d) q) ∙ p)
        go more false p false q = more

    pub held-freed : keep n ≡ false → (ds : List Dump) → held (kept_dumps keep ds) n ≡ None
    unfolding held kept_dumps
    held-freed k [] = refl
    held-freed k (d ∷ ds) = go (held-freed k ds) (keep (dump_number d)) refl (eqb n (dump_number d)) refl
      where
        go : held (kept_dumps keep ds) n ≡ None → (b : Bool) → keep (dump_number d) ≡ b → (c : Bool) → eqb n (dump_number d) ≡ c
            → held (cond b (d ∷ kept_dumps keep ds) (kept_dumps keep ds)) n ≡ None
        go more true p true q = not_both p (ap keep (sym (eqb-true n (dump_number d) q)) ∙ k)
        go more true p false q = rw q more
        go more false p c q = more

-- ---- records

fails : (b : Bool) → (b ≡ true → b ≡ false) → b ≡ false
fails true h = h refl
fails false h = refl

module _ (keep : ℕ → Bool) where
  module _ (on : Bool) (r : Record) (rs : List Record) where
    -- a dump that is kept, one that is not, and what is no dump
    kept_by : (P : List Record → Type 0) → (is_dump r.kind ≡ true → keep (record_number r) ≡ true → P (r ∷ kept_in keep true rs))
        → (is_dump r.kind ≡ true → keep (record_number r) ≡ false → P (kept_in keep false rs))
        → (is_dump r.kind ≡ false → P (cond on (r ∷ kept_in keep on rs) (kept_in keep on rs))) → P (kept_in keep on (r ∷ rs))
    unfolding kept_in
    kept_by P kept freed part = go (is_dump r.kind) refl (keep (record_number r)) refl
      where
        go : (d : Bool) → is_dump r.kind ≡ d → (k : Bool) → keep (record_number r) ≡ k → P (kept_in keep on (r ∷ rs))
        go true p true q = rw (p, q) (kept p q)
        go true p false q = rw (p, q) (freed p q)
        go false p k q = rw p (part p)

  kept_none : (on : Bool) → kept_in keep on [] ≡ []
  unfolding kept_in
  kept_none on = refl

  -- data and edits go and stay with their dump
  data_off : (rs : List Record) → data_in (kept_in keep false rs) ≡ []
  unfolding data_in
  data_off [] = ap data_in (kept_none false)
  data_off (r ∷ rs) =
      kept_by false r rs (λ (ss : List Record). data_in ss ≡ []) (λ d k. rw (dump_only r.kind d).0) (λ d k. data_off rs) (λ d. data_off rs)

  data_on : (rs : List Record) → data_in (kept_in keep true rs) ≡ data_in rs
  unfolding data_in
  data_on [] = ap data_in (kept_none true)
  data_on (r ∷ rs) =
      kept_by true r rs (λ (ss : List Record). data_in ss ≡ data_in (r ∷ rs)) (λ d k. rw (dump_only r.kind d).0)
      (λ d k. rw (dump_only r.kind d).0 (data_off rs)) (λ d. rw (data_on rs))

  patches_off : (rs : List Record) → patches_in (kept_in keep false rs) ≡ []
  unfolding patches_in
  patches_off [] = ap patches_in (kept_none false)
  patches_off (r ∷ rs) =
      kept_by false r rs (λ (ss : List Record). patches_in ss ≡ []) (λ d k. let o = dump_only r.kind d in rw (o.0, o.1))
      (λ d k. patches_off rs) (λ d. patches_off rs)

  patches_on : (rs : List Record) → patches_in (kept_in keep true rs) ≡ patches_in rs
  unfolding patches_in
  patches_on [] = ap patches_in (kept_none true)
  patches_on (r ∷ rs) =
      kept_by true r rs (λ (ss : List Record). patches_in ss ≡ patches_in (r ∷ rs)) (λ d k. let o = dump_only r.kind d in rw (o.0, o.1))
      (λ d k. let o = dump_only r.kind d in rw (o.0, o.1) (patches_off rs)) (λ d. rw (data_on rs, patches_on rs))

  dumps_kept : (on : Bool) (rs : List Record) → dumps_in (kept_in keep on rs) ≡ kept_dumps keep (dumps_in rs)
  unfolding dumps_in dump_of kept_dumps
  dumps_kept on [] = ap dumps_in (kept_none on)
  dumps_kept on (r ∷ rs) =
      kept_by on r rs (λ (ss : List Record). dumps_in ss ≡ kept_dumps keep (dumps_in (r ∷ rs)))
      (λ d k. rw (d, data_on rs, patches_on rs, dumps_kept true rs, dump-number r rs, k))
      (λ d k. rw (d, dump-number r rs, k) (dumps_kept false rs))
      (λ d. rw d (part d (λ b. dumps_kept b rs) on))
    where
      part : is_dump r.kind ≡ false → ((b : Bool) → dumps_in (kept_in keep b rs) ≡ kept_dumps keep (dumps_in rs))
          → (b : Bool) → dumps_in (cond b (r ∷ kept_in keep b rs) (kept_in keep b rs)) ≡ kept_dumps keep (dumps_in rs)
      part d more true = rw d (more true)
      part d more false = more false

  -- what stays is well-formed: behind a dump that stays comes what came behind it
  form_kept : (f g : Follow) (on : Bool) (rs : List Record) → (on ≡ true → g ≡ f) → well_formed f rs ≡ true → well_formed g (kept_in keep on rs) ≡ true
  unfolding well_formed
  form_kept f g on [] h e = ap (well_formed g) (kept_none on)
  form_kept f g on (r ∷ rs) h e =
      let s = form_step f r rs e in
      let more : (g' : Follow) (b : Bool) → (b ≡ true → g' ≡ follows f r) → well_formed g' (kept_in keep b rs) ≡ true =
      λ g' b h'. form_kept (follows f r) g' b rs h' s.1 in
      kept_by on r rs (λ (ss : List Record). well_formed g ss ≡ true)
      (λ d k. rw (dump_allowed g f r d, s.0) (more (follows g r) true (λ t. dump_follows g f r d)))
      (λ d k. more g false (λ t. not_both t refl))
      (λ d. part s.0 more on h)
    where
      part : fits f r ≡ true → ((g' : Follow) (b : Bool) → (b ≡ true → g' ≡ follows f r) → well_formed g' (kept_in keep b rs) ≡ true)
          → (b : Bool) → (b ≡ true → g ≡ f) → well_formed g (cond b (r ∷ kept_in keep b rs) (kept_in keep b rs)) ≡ true
      part ok more true same = rw (same refl, ok) (more (follows f r) true (λ t. refl))
      part ok more false same = more g false (λ t. not_both t refl)

  formed_kept : (rs : List Record) → well_formed at_start rs ≡ true → well_formed at_start (kept_in keep false rs) ≡ true
  formed_kept rs e = form_kept at_start at_start false rs (λ t. not_both t refl) e

  bytes_kept : (on : Bool) (rs : List Record) → length (bytes_in (kept_in keep on rs)) ≤ length (bytes_in rs)
  unfolding bytes_in
  bytes_kept on [] = rw (kept_none on) (omega arith)
  bytes_kept on (r ∷ rs) =
      kept_by on r rs (λ (ss : List Record). length (bytes_in ss) ≤ length (bytes_in (r ∷ rs)))
      (λ d k. stay true (bytes_kept true rs))
      (λ d k. omega (arith, bytes_kept false rs, length-append r.body (bytes_in rs)))
      (λ d. part on (λ b. bytes_kept b rs))
    where
      stay : (b : Bool) → length (bytes_in (kept_in keep b rs)) ≤ length (bytes_in rs)
          → suc (length (r.body ++ bytes_in (kept_in keep b rs))) ≤ suc (length (r.body ++ bytes_in rs))
      stay b more = omega (arith, more, length-append r.body (bytes_in (kept_in keep b rs)), length-append r.body (bytes_in rs))

      part : (b : Bool) → ((c : Bool) → length (bytes_in (kept_in keep c rs)) ≤ length (bytes_in rs))
          → length (bytes_in (cond b (r ∷ kept_in keep b rs) (kept_in keep b rs))) ≤ suc (length (r.body ++ bytes_in rs))
      part true more = stay true (more true)
      part false more = omega (arith, more false, length-append r.body (bytes_in rs))

  -- ---- all kept

  all_on : (rs : List Record) → ((n : ℕ) → elem n (numbers_of (dumps_in rs)) ≡ true → keep n ≡ true) → kept_in keep true rs ≡ rs
  all_on [] h = kept_none true
  all_on (r ∷ rs) h =
      let more = ap (λ (ss : List Record). r ∷ ss) (all_on rs (λ n e. h n (number_later r rs n e))) in
      kept_by true r rs (λ (ss : List Record). ss ≡ r ∷ rs) (λ d k. more) (λ d k. not_both (h (record_number r) (number_first r rs d)) k) (λ d. more)

  pub kept_all : (rs : List Record) → well_formed at_start rs ≡ true → ((n : ℕ) → elem n (numbers_of (dumps_in rs)) ≡ true → keep n ≡ true)
      → kept_in keep false rs ≡ rs
  kept_all [] e h = kept_none false
  kept_all (r ∷ rs) e h =
      kept_by false r rs (λ (ss : List Record). ss ≡ r ∷ rs)
      (λ d k. ap (λ (ss : List Record). r ∷ ss) (all_on rs (λ n e. h n (number_later r rs n e))))
      (λ d k. not_both (h (record_number r) (number_first r rs d)) k)
      (λ d. not_both (start_dump r (form_step at_start r rs e).0) d)

  -- ---- the wanted dumps

  pub wanted_kept : (on : Bool) (rs : List Record) → ((n : ℕ) → elem n (wanted_in rs) ≡ true → keep n ≡ true) → wanted_in (kept_in keep on rs) ≡ wanted_in rs
  unfolding wanted_in
  wanted_kept on [] h = ap wanted_in (kept_none on)
  wanted_kept on (r ∷ rs) h =
      let more : (b : Bool) → wanted_in (kept_in keep b rs) ≡ wanted_in rs = λ b. wanted_kept b rs (λ n e. h n (wanted_later r rs n e)) in
      kept_by on r rs (λ (ss : List Record). wanted_in ss ≡ wanted_in (r ∷ rs))
      (λ d k. rw (more true))
      (λ d k. rw (fails (is_wanted r.kind) (λ w. not_both (h (record_number r) (wanted_first r rs w)) k)) (more false))
      (λ d. rw (fails (is_wanted r.kind) (λ w. not_both (wanted_dump r.kind w) d)) (part d more on))
    where
      part : is_dump r.kind ≡ false → ((b : Bool) → wanted_in (kept_in keep b rs) ≡ wanted_in rs)
          → (b : Bool) → wanted_in (cond b (r ∷ kept_in keep b rs) (kept_in keep b rs)) ≡ wanted_in rs
      part d more true = rw (fails (is_wanted r.kind) (λ w. not_both (wanted_dump r.kind w) d)) (more true)
      part d more false = more false

-- ---- the store

abbrev pub kept_store : (ℕ → Bool) → List ℕ → List ℕ
kept_store keep store = bytes_in (kept_in keep false (records_of store))

module _ (keep : ℕ → Bool) (store : List ℕ) where
  pub kept_length : length (kept_store keep store) ≤ length store
  kept_length = rw (bytes_records store) at (bytes_kept keep false (records_of store))

  module _ (s : sound store ≡ pass) where
    formed : well_formed at_start (kept_in keep false (records_of store)) ≡ true
    formed = formed_kept keep (records_of store) (sound_good store s).formed

    pub kept_records : records_of (kept_store keep store) ≡ kept_in keep false (records_of store)
    kept_records = records_back at_start (kept_in keep false (records_of store)) formed

    pub kept-dumps : dumps_of (kept_store keep store) ≡ kept_dumps keep (dumps_of store)
    kept-dumps = ap dumps_in kept_records ∙ dumps_kept keep false (records_of store)

    pub kept_sound : sound (kept_store keep store) ≡ pass
    kept_sound =
        let g = sound_good store s in
        let few = ap (λ (ds : List Dump). length ds) kept-dumps in
        sound_pass (kept_store keep store) (ap (well_formed at_start) kept_records ∙ formed)
        (ap (λ (ds : List Dump). twice (numbers_of ds)) kept-dumps ∙ twice_kept keep (dumps_of store) g.once)
        (le-ltb most_dumps (length (dumps_of (kept_store keep store))) (omega (arith, few, length_kept keep (dumps_of store), g.few)))
