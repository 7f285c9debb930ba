-- The numbers that stay are those of the wanted dumps' walks (02, T-13). Assumes nothing.
use Rattle.std.specs.Prelude.{Option, None, Some}
use mathlib.Core.Path.{◌≡◌, refl, sym, ap, ◌∙◌}
use mathlib.Core.Bool.{Bool, true, false, ◌||◌}
use mathlib.Core.List.{List, [], ◌∷◌}
use Prim.Native.Nat.{ℕ, zero, suc, ◌+◌, ◌-◌, ◌≤◌, ◌<◌}
use native.Mathlib.Omega.{arith}
use lib.Dec.{eqb, ltb}
use lib.ListN.{length}
use borrow.Author.Tests.{eqb-true, eq-eqb, ltb-true, ltb-false}
use Rattle.ump.specs.Edits.{elem}
use Rattle.ump.proofs.Replace.{or_right_true}
use Rattle.store.specs.Store.{Dump, dumps_of, held}
use Rattle.store.proofs.Records.{not_both}
use Rattle.chain.specs.Walk.{base_of, from_base, comes}
use Rattle.chain.proofs.Walks.{never_none, comes_before, comes_join, over_soon}
use Rattle.reclaim.specs.Reclaim.{wanted_of, walked, reaches, stays}
use Rattle.reclaim.specs.Reclaimed.{Needed}

-- ---- one walk

module _ (ds : List Dump) where
  -- so many steps
  record Steps (w n : ℕ) : Type 0 where
    pub steps : ℕ
    pub come : comes ds steps w ≡ Some n

  -- what is come to at all is come to within as many steps as there are dumps: a ring is cut out of a longer walk
  record Soonest (w n : ℕ) : Type 0 where
    pub steps : ℕ
    pub few : steps ≤ length ds
    pub come : comes ds steps w ≡ Some n

  shorter : (fuel i w n : ℕ) → i ≤ fuel + length ds → comes ds i w ≡ Some n → Soonest w n
  shorter zero i w n h e = record { steps = i; few = omega arith; come = e }
  shorter (suc fuel) i w n h e = go (λ j k c. shorter fuel j w n k c) (ltb (length ds) i) refl
    where
      go : ((j : ℕ) → j ≤ fuel + length ds → comes ds j w ≡ Some n → Soonest w n) → (b : Bool) → ltb (length ds) i ≡ b → Soonest w n
      go more false q = record { steps = i; few = ltb-false (length ds) i q; come = e }
      go more true q =
          let v = comes_before ds w (suc (length ds)) i n (ltb-true (length ds) i q) e in
          let t = over_soon ds w v.middle v.first in
          let r = t.in_ring in
          let u = comes_before ds w r.later i n (omega (arith, t.soon, ltb-true (length ds) i q)) e in
          let same : u.middle ≡ r.number = cc (sym u.first ∙ r.again) in
          let turn : comes ds (i - r.later) r.number ≡ Some n = rw same at u.second in
          more (r.earlier + (i - r.later)) (omega (arith, r.before, t.soon, ltb-true (length ds) i q))
          (comes_join ds w r.earlier (i - r.later) r.number n r.passed turn)

  soonest : (i w n : ℕ) → comes ds i w ≡ Some n → Soonest w n
  soonest i w n e = shorter i i w n (omega arith) e

  -- the list of the first so many numbers has each of them
  walked_has : (i left w n : ℕ) → i < left → comes ds i w ≡ Some n → elem n (walked ds left w) ≡ true
  unfolding comes walked
  walked_has i zero w n h e = absurd (omega arith)
  walked_has zero (suc left) w n h e = let same : n ≡ w = cc in rw (eq-eqb n w same)
  walked_has (suc i) (suc left) w n h e =
      or_right_true (eqb n w) _ (go (λ b c. walked_has i left b n (omega arith) c) (base_of (held ds w)) e)
    where
      go : ((b : ℕ) → comes ds i b ≡ Some n → elem n (walked ds left b) ≡ true) → (o : Option ℕ)
          → from_base None (λ b. comes ds i b) o ≡ Some n → elem n (from_base [] (λ b. walked ds left b) o) ≡ true
      go more None c = never_none c
      go more (Some b) c = more b c

  -- and no other
  has_walked : (left w n : ℕ) → elem n (walked ds left w) ≡ true → Steps w n
  unfolding comes walked
  has_walked zero w n e = not_both e refl
  has_walked (suc left) w n e = here (λ b c. has_walked left b n c) (eqb n w) refl e
    where
      go : ((b : ℕ) → elem n (walked ds left b) ≡ true → Steps b n) → (o : Option ℕ) → base_of (held ds w) ≡ o
          → elem n (from_base [] (λ b. walked ds left b) o) ≡ true → Steps w n
      go more None q h = not_both h refl
      go more (Some b) q h =
          let r = more b h in
          record { steps = suc r.steps; come = ap (from_base None (λ x. comes ds r.steps x)) q ∙ r.come }

      here : ((b : ℕ) → elem n (walked ds left b) ≡ true → Steps b n) → (t : Bool) → eqb n w ≡ t
          → (t || elem n (from_base [] (λ b. walked ds left b) (base_of (held ds w)))) ≡ true → Steps w n
      here more true q h = record { steps = 0; come = ap (λ (x : ℕ). Some x) (sym (eqb-true n w q)) }
      here more false q h = go more (base_of (held ds w)) refl h

-- ---- the walks of all

-- a walk of one of these numbers comes to n
record Reached (ds : List Dump) (wanted : List ℕ) (n : ℕ) : Type 0 where
  pub from : ℕ
  pub is-wanted : elem from wanted ≡ true
  pub steps : ℕ
  pub come : comes ds steps from ≡ Some n

module _ (ds : List Dump) where
  reaches_reached : (wanted : List ℕ) (n : ℕ) → reaches ds wanted n ≡ true → Reached ds wanted n
  unfolding reaches
  reaches_reached [] n e = not_both e refl
  reaches_reached (w ∷ wanted) n e = go (λ h. reaches_reached wanted n h) (elem n (walked ds (suc (length ds)) w)) refl e
    where
      go : (reaches ds wanted n ≡ true → Reached ds wanted n) → (t : Bool) → elem n (walked ds (suc (length ds)) w) ≡ t
          → (t || reaches ds wanted n) ≡ true → Reached ds (w ∷ wanted) n
      go more true q h =
          let s = has_walked ds (suc (length ds)) w n q in
          record { from = w; is-wanted = rw (eq-eqb w w refl); steps = s.steps; come = s.come }
      go more false q h =
          let r = more h in
          record { from = r.from; is-wanted = or_right_true (eqb r.from w) _ r.is-wanted; steps = r.steps; come = r.come }

  walked-reaches : (w n : ℕ) → elem n (walked ds (suc (length ds)) w) ≡ true → (wanted : List ℕ) → elem w wanted ≡ true
      → reaches ds wanted n ≡ true
  unfolding reaches
  walked-reaches w n on [] k = not_both k refl
  walked-reaches w n on (v ∷ wanted) k = go (λ h. walked-reaches w n on wanted h) (eqb w v) refl k
    where
      go : (elem w wanted ≡ true → reaches ds wanted n ≡ true) → (t : Bool) → eqb w v ≡ t → (t || elem w wanted) ≡ true
          → (elem n (walked ds (suc (length ds)) v) || reaches ds wanted n) ≡ true
      go more true q h = rw (← (eqb-true w v q), on)
      go more false q h = or_right_true (elem n (walked ds (suc (length ds)) v)) _ (more h)

  reached_reaches : (wanted : List ℕ) (n : ℕ) → Reached ds wanted n → reaches ds wanted n ≡ true
  reached_reaches wanted n r =
      let s = soonest ds r.steps r.from n r.come in
      walked-reaches r.from n (walked_has ds s.steps (suc (length ds)) r.from n (omega (arith, s.few)) s.come)
      wanted r.is-wanted

-- ---- the numbers that stay

module _ (store : List ℕ) where
  pub stays_needed : (n : ℕ) → stays store n ≡ true → Needed store n
  stays_needed n e =
      let r = reaches_reached (dumps_of store) (wanted_of store) n e in
      record { wanted = r.from; is-wanted = r.is-wanted; steps = r.steps; come = r.come }

  pub needed_stays : (n : ℕ) → Needed store n → stays store n ≡ true
  needed_stays n k =
      reached_reaches (dumps_of store) (wanted_of store) n
      (record { from = k.wanted; is-wanted = k.is-wanted; steps = k.steps; come = k.come })

  pub freed_goes : (n : ℕ) → (Needed store n → ⊥) → stays store n ≡ false
  freed_goes n h = go (stays store n) refl
    where
      go : (b : Bool) → stays store n ≡ b → b ≡ false
      go true q = absurd (h (stays_needed n q))
      go false q = refl

  -- a wanted dump stays,
  pub wanted_needed : (n : ℕ) → elem n (wanted_of store) ≡ true → Needed store n
  unfolding comes
  wanted_needed n e = record { wanted = n; is-wanted = e; steps = 0; come = refl }

  -- and with each dump its base
  pub needed_base : (n base : ℕ) → Needed store n → base_of (held (dumps_of store) n) ≡ Some base → Needed store base
  unfolding comes
  needed_base n base k q =
      record {
        wanted = k.wanted;
        is-wanted = k.is-wanted;
        steps = k.steps + 1;
        come = comes_join (dumps_of store) k.wanted k.steps 1 n base k.come (ap (from_base None (λ x. Some x)) q);
      }
