-- Numbers flagged along the walks of the wanted dumps. Assumes nothing.
use Rattle.std.specs.Prelude.{Option, None, Some}
use mathlib.Core.Path.{◌≡◌, refl, sym, ap, ◌∙◌}
use mathlib.Core.Logic.{◌⊎◌, inl, inr}
use mathlib.Core.Bool.{Bool, true, false, cond, ◌||◌}
use mathlib.Core.List.{List, [], ◌∷◌, ◌++◌, append-nil, append_assoc}
use Prim.Native.Nat.{ℕ, zero, suc, ◌+◌, ◌≤◌, ◌<◌}
use native.Mathlib.Omega.{arith}
use lib.Dec.{eqb}
use lib.ListN.{length, get_or, replicate, length-replicate}
use borrow.Author.Tests.{eqb-true, eq-eqb}
use Rattle.ump.specs.Word.{pair_at}
use Rattle.ump.specs.Edits.{elem}
use Rattle.ump.proofs.Replace.{or_right_true}
use Rattle.store.specs.Store.{is_wanted, Dump, numbers_of, dumps_of, held}
use Rattle.store.specs.Places.{next_at, records_from, flagged, Flags}
use Rattle.store.proofs.Records.{not_both, records_end, records_step}
use Rattle.store.proofs.Dumps.{number-body}
use Rattle.store.proofs.Entering.{elem_append}
use Rattle.store.proofs.Flagging.{none-flagged, flag_inside}
use Rattle.chain.specs.Walk.{base_of, from_base, comes}
use Rattle.chain.proofs.Walks.{never_none, held_number}
use Rattle.reclaim.specs.Reclaim.{wanted_in, wanted_of, stays}
use Rattle.reclaim.specs.Reclaimed.{Needed}
use Rattle.reclaim.specs.Keeping.{Keeping, Settled, Walks, Passing, Kept}
use Rattle.reclaim.proofs.Numbers.{wanted_dump}
use Rattle.reclaim.proofs.Reaching.{stays_needed, needed_stays, wanted_needed, needed_base}

-- ---- one walk

-- the walk from n has come to a number that is not flagged yet, or that ends it
pub record Going (store before : List ℕ) (n : ℕ) (kept : List ℕ) (current : ℕ) : Type 0 where
  pub keeping : Keeping store kept (λ base. base ≡ current)
  pub here : (n ≡ current) ⊎ (flagged kept n ≡ true)
  pub more : (m : ℕ) → flagged before m ≡ true → flagged kept m ≡ true
  pub needed : Needed store current
  pub small : current < 65536

pub going_start : {store kept : List ℕ} {n : ℕ} → Settled store kept → Needed store n → n < 65536 → Going store kept n kept n
going_start {store} {kept} {n} s needed small =
    record {
      keeping = record { table = s.table; needed = s.needed; closed = λ m base f e. go base (s.closed m base f e) };
      here = inl refl;
      more = λ m f. f;
      needed = needed;
      small = small;
    }
  where
    go : (base : ℕ) → (flagged kept base ≡ true) ⊎ ⊥ → (flagged kept base ≡ true) ⊎ (base ≡ n)
    go base (inl f) = inl f
    go base (inr e) = absurd e

-- it comes to one flagged before: all is flagged
pub going_done : {store before : List ℕ} {n : ℕ} {kept : List ℕ} {current : ℕ} → Going store before n kept current → flagged kept current ≡ true
    → Walks store before n kept
going_done {store} {before} {n} {kept} {current} g f =
    record {
      settled = record { table = g.keeping.table; needed = g.keeping.needed; closed = λ m base h e. go base (g.keeping.closed m base h e) };
      here = there g.here;
      more = g.more;
    }
  where
    go : (base : ℕ) → (flagged kept base ≡ true) ⊎ (base ≡ current) → (flagged kept base ≡ true) ⊎ ⊥
    go base (inl h) = inl h
    go base (inr e) = inl (ap (flagged kept) e ∙ f)

    there : (n ≡ current) ⊎ (flagged kept n ≡ true) → flagged kept n ≡ true
    there (inl e) = ap (flagged kept) e ∙ f
    there (inr h) = h

-- a number is flagged
module _ {store before : List ℕ} {n : ℕ} {kept : List ℕ} {current : ℕ} (g : Going store before n kept current) (after : List ℕ)
    (l : length after ≡ length kept) (f : Flags kept current after) where
  now : (m : ℕ) → flagged after m ≡ (eqb m current || flagged kept m)
  now = flag_inside kept current after f (omega (arith, g.small, g.keeping.table))

  pub flagged_here : flagged after current ≡ true
  flagged_here = now current ∙ ap (λ (b : Bool). b || flagged kept current) (eq-eqb current current refl)

  pub flagged_still : (m : ℕ) → flagged kept m ≡ true → flagged after m ≡ true
  flagged_still m h = now m ∙ rw h (or_right_true (eqb m current) true refl)

  flagged_which : (m : ℕ) → flagged after m ≡ true → (m ≡ current) ⊎ (flagged kept m ≡ true)
  flagged_which m h = go (eqb m current) refl (sym (now m) ∙ h)
    where
      go : (b : Bool) → eqb m current ≡ b → (b || flagged kept m) ≡ true → (m ≡ current) ⊎ (flagged kept m ≡ true)
      go true q e = inl (eqb-true m current q)
      go false q e = inr e

  keeping_after : (Pending : ℕ → Type 0) → ((base : ℕ) → base_of (held (dumps_of store) current) ≡ Some base → Pending base) → Keeping store after Pending
  keeping_after Pending pending =
      record {
        table = l ∙ g.keeping.table;
        needed = λ m h. needs (flagged_which m h);
        closed = λ m base h e. closes base e (flagged_which m h);
      }
    where
      needs : {m : ℕ} → (m ≡ current) ⊎ (flagged kept m ≡ true) → Needed store m
      needs (inl e) = rw e g.needed
      needs {m} (inr h) = g.keeping.needed m h

      old : (base : ℕ) → (flagged kept base ≡ true) ⊎ (base ≡ current) → (flagged after base ≡ true) ⊎ Pending base
      old base (inl h) = inl (flagged_still base h)
      old base (inr e) = inl (ap (flagged after) e ∙ flagged_here)

      closes : {m : ℕ} (base : ℕ) → base_of (held (dumps_of store) m) ≡ Some base → (m ≡ current) ⊎ (flagged kept m ≡ true)
          → (flagged after base ≡ true) ⊎ Pending base
      closes base e (inl q) = inr (pending base (rw q at e))
      closes {m} base e (inr h) = old base (g.keeping.closed m base h e)

  flagged-start : (n ≡ current) ⊎ (flagged kept n ≡ true) → flagged after n ≡ true
  flagged-start (inl e) = ap (flagged after) e ∙ flagged_here
  flagged-start (inr h) = flagged_still n h

  -- the walk ends
  pub going_ends : None ≡ base_of (held (dumps_of store) current) → Walks store before n after
  going_ends e =
      record {
        settled = keeping_after (λ base. ⊥) (λ base q. never_none (e ∙ q));
        here = flagged-start g.here;
        more = λ m h. flagged_still m (g.more m h);
      }

  -- or goes on
  pub going_on : {base : ℕ} → Some base ≡ base_of (held (dumps_of store) current) → base < 65536 → Going store before n after base
  going_on {base} e small =
      record {
        keeping = keeping_after (λ next. next ≡ base) (λ next q. cc);
        here = inr (flagged-start g.here);
        more = λ m h. flagged_still m (g.more m h);
        needed = needed_base store current base g.needed (sym e);
        small = small;
      }

-- ---- how many are not flagged

abbrev pub unflagged : List ℕ → List ℕ → ℕ
unflagged kept [] = 0
unflagged kept (n ∷ ns) = cond (flagged kept n) 0 1 + unflagged kept ns

module _ (kept after : List ℕ) (still : (m : ℕ) → flagged kept m ≡ true → flagged after m ≡ true) where
  one_fewer : (n : ℕ) → cond (flagged after n) 0 1 ≤ cond (flagged kept n) 0 1
  one_fewer n = go (flagged kept n) (flagged after n) (still n)
    where
      go : (b c : Bool) → (b ≡ true → c ≡ true) → cond c 0 1 ≤ cond b 0 1
      go true c h = rw (h refl) (omega arith)
      go false true h = omega arith
      go false false h = omega arith

  none_more : (ns : List ℕ) → unflagged after ns ≤ unflagged kept ns
  none_more [] = omega arith
  none_more (n ∷ ns) = omega (arith, one_fewer n, none_more ns)

  pub fewer : (c : ℕ) (ns : List ℕ) → elem c ns ≡ true → flagged kept c ≡ false → flagged after c ≡ true → unflagged after ns < unflagged kept ns
  fewer c [] e f g = not_both e refl
  fewer c (n ∷ ns) e f g = go (λ h. fewer c ns h f g) (eqb c n) refl e
    where
      go : (elem c ns ≡ true → unflagged after ns < unflagged kept ns) → (b : Bool) → eqb c n ≡ b → (b || elem c ns) ≡ true
          → cond (flagged after n) 0 1 + unflagged after ns < cond (flagged kept n) 0 1 + unflagged kept ns
      go less true q h =
          let same = eqb-true c n q in
          let new : flagged kept n ≡ false = ap (flagged kept) (sym same) ∙ f in
          let set : flagged after n ≡ true = ap (flagged after) (sym same) ∙ g in
          rw (new, set) (omega (arith, none_more ns))
      go less false q h = omega (arith, one_fewer n, less h)

-- a number with a base is one of the dumps'
pub based_held : (ds : List Dump) (n : ℕ) {base : ℕ} → Some base ≡ base_of (held ds n) → elem n (numbers_of ds) ≡ true
based_held ds n {base} e = go (held ds n) refl e
  where
    go : (o : Option Dump) → held ds n ≡ o → Some base ≡ base_of o → elem n (numbers_of ds) ≡ true
    go None q h = never_none (sym h)
    go (Some d) q h = held_number ds n q

-- ---- all wanted dumps

-- the wanted dumps from a place on
module _ (store : List ℕ) (at : ℕ) (h : at < length store) where
  wanted_here : is_wanted (get_or store at 0) ≡ true → wanted_in (records_from store at) ≡ pair_at store (at + 1) ∷ wanted_in (records_from store (next_at store at))
  unfolding wanted_in
  wanted_here w = rw (records_step store at h, w, number-body store at (wanted_dump (get_or store at 0) w))

  wanted_past : is_wanted (get_or store at 0) ≡ false → wanted_in (records_from store at) ≡ wanted_in (records_from store (next_at store at))
  unfolding wanted_in
  wanted_past w = rw (records_step store at h, w)

pub passing_start : (store : List ℕ) {kept : List ℕ} → kept ≡ replicate 8192 0 → Passing store 0 kept
passing_start store {kept} e =
    record {
      passed = [];
      wanted = refl;
      all = λ n h. not_both h refl;
      settled = record {
        table = ap length e ∙ length-replicate {A = ℕ} 8192 0;
        needed = λ m f. not_both f (None m);
        closed = λ m base f q. not_both f (None m);
      };
    }
  where
    None : (m : ℕ) → flagged kept m ≡ false
    None m = none-flagged 8192 e m

module _ {store : List ℕ} {at : ℕ} {kept : List ℕ} (p : Passing store at kept) (h : at < length store) where
  pub passing_past : is_wanted (get_or store at 0) ≡ false → Passing store (next_at store at) kept
  passing_past w =
      record {
        passed = p.passed;
        wanted = p.wanted ∙ ap (λ (ns : List ℕ). p.passed ++ ns) (wanted_past store at h w);
        all = p.all;
        settled = p.settled;
      }

  module _ (w : is_wanted (get_or store at 0) ≡ true) {n : ℕ} (q : n ≡ pair_at store (at + 1)) where
    all_wanted : wanted_of store ≡ p.passed ++ n ∷ wanted_in (records_from store (next_at store at))
    all_wanted =
        p.wanted ∙ ap (λ (ns : List ℕ). p.passed ++ ns) (wanted_here store at h w)
        ∙ ap (λ (k : ℕ). p.passed ++ k ∷ wanted_in (records_from store (next_at store at))) (sym q)

    pub passing_needed : Needed store n
    passing_needed =
        wanted_needed store n
        (ap (elem n) all_wanted ∙ elem_append n p.passed _ ∙ rw (eq-eqb n n refl) (or_right_true (elem n p.passed) true refl))

    pub passing_walk : {after : List ℕ} → Walks store kept n after → Passing store (next_at store at) after
    passing_walk {after} walks =
        record {
          passed = p.passed ++ n ∷ [];
          wanted = all_wanted ∙ sym (append_assoc p.passed (n ∷ []) (wanted_in (records_from store (next_at store at))));
          all = λ m e. go m (elem m p.passed) (eqb m n) refl refl (sym (elem_append m p.passed (n ∷ [])) ∙ e);
          settled = walks.settled;
        }
      where
        go : (m : ℕ) (a b : Bool) → elem m p.passed ≡ a → eqb m n ≡ b → (a || (b || false)) ≡ true → flagged after m ≡ true
        go m true b e f h = walks.more m (p.all m e)
        go m false true e f h = ap (flagged after) (eqb-true m n f) ∙ walks.here
        go m false false e f h = not_both h refl

-- a walk from a number that is flagged comes to such numbers alone
flagged-along : {store kept : List ℕ} → Settled store kept → (steps m k : ℕ) → flagged kept m ≡ true → comes (dumps_of store) steps m ≡ Some k
    → flagged kept k ≡ true
unfolding comes
flagged-along {store} {kept} s zero m k f e = let same : k ≡ m = cc in ap (flagged kept) same ∙ f
flagged-along {store} {kept} s (suc steps) m k f e = go (λ b g h. flagged-along s steps b k g h) (base_of (held (dumps_of store) m)) refl e
  where
    on : (base : ℕ) → (flagged kept base ≡ true) ⊎ ⊥ → flagged kept base ≡ true
    on base (inl g) = g
    on base (inr z) = absurd z

    go : ((b : ℕ) → flagged kept b ≡ true → comes (dumps_of store) steps b ≡ Some k → flagged kept k ≡ true)
        → (o : Option ℕ) → base_of (held (dumps_of store) m) ≡ o → from_base None (λ b. comes (dumps_of store) steps b) o ≡ Some k → flagged kept k ≡ true
    go more None q h = never_none h
    go more (Some base) q h = more base (on base (s.closed m base f q)) h

-- at the end what is flagged is what stays
pub passing_end : {store : List ℕ} {at : ℕ} {kept : List ℕ} → Passing store at kept → length store ≤ at → Kept store kept
unfolding wanted_in
passing_end {store} {at} {kept} p h n = go (flagged kept n) (stays store n) refl refl
  where
    wanted : wanted_of store ≡ p.passed
    wanted = p.wanted ∙ rw (records_end store at h) (append-nil p.passed)

    go : (b c : Bool) → flagged kept n ≡ b → stays store n ≡ c → b ≡ c
    go true true e s = refl
    go true false e s = not_both (needed_stays store n (p.settled.needed n e)) s
    go false true e s =
        let w = stays_needed store n s in
        not_both (flagged-along p.settled w.steps w.wanted n (p.all w.wanted (rw wanted at w.is-wanted)) w.come) e
    go false false e s = refl
