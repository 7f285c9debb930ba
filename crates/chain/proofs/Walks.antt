-- The walk ends in a ring, at a number not held, or at a whole dump; what restoring makes of that. Assumes nothing.
use Rattle.std.specs.Prelude.{Option, None, Some}
use mathlib.Core.Path.{◌≡◌, refl, sym, ap, ◌∙◌}
use mathlib.Core.Logic.{◌⊎◌, inl, inr}
use mathlib.Core.Bool.{Bool, true, false, cond, ◌||◌}
use mathlib.Core.List.{List, [], ◌∷◌}
use Prim.Native.Nat.{ℕ, zero, suc, ◌+◌, ◌-◌, ◌≤◌, ◌<◌}
use native.Mathlib.Nat.{suc-add, zero-add}
use native.Mathlib.Omega.{arith}
use lib.Dec.{eqb, ltb}
use borrow.Author.Tests.{eqb-true, eq-eqb, ltb-true, ltb-false}
use lib.ListN.{length, length-map}
use Rattle.refusal.specs.Answer.{Answer, gives, refused, ◌▷◌, guard}
use Rattle.ump.specs.Edits.{Patch, elem, replaced}
use Rattle.store.specs.Store.{Dump, whole, delta, dump_number, numbers_of, held}
use Rattle.store.proofs.Forms.{All}
use Rattle.chain.specs.Walk.{base_of, from_base, comes, InRing, IsMissing, Rests}
use Rattle.chain.specs.Restore.{Payload, roomed, outside, rebuilt, restored_by, restored}
use Rattle.chain.proofs.Pigeons.{pigeons}

-- ---- options

pub never_none : {A B : Type 0} {a : A} → None ≡ Some a → B
never_none e = let z : ◌≡◌ {A = ℕ} 0 1 = cc in absurd (omega arith)

-- a chain that comes to something: its first part does
pub record Via (o : Option ℕ) (f : ℕ → Option ℕ) (m : ℕ) : Type 0 where
  pub middle : ℕ
  pub first : o ≡ Some middle
  pub second : f middle ≡ Some m

via : (o : Option ℕ) (f : ℕ → Option ℕ) (m : ℕ) → from_base None f o ≡ Some m → Via o f m
via None f m e = never_none e
via (Some k) f m e = record { middle = k; first = refl; second = e }

-- the number of an option, or another
abbrev pub number_or : Option ℕ → ℕ → ℕ
number_or None other = other
number_or (Some n) other = n

read_back : (o : Option ℕ) (m : ℕ) → o ≡ Some m → Some m ≡ Some (number_or o 0)
read_back o m e = rw e

-- ---- the walk by counting: one that passes more dumps than there are is in a ring

pub data End : Type 0 where
  ring : End
  missing : End
  rests : End

abbrev pub end_of : Option Dump → (ℕ → End) → End
end_of None f = missing
end_of (Some (whole number group id bytes)) f = rests
end_of (Some (delta number base patches)) f = f base

unfoldable pub walk : List Dump → ℕ → ℕ → End
walk dumps zero n = ring
walk dumps (suc left) n = end_of (held dumps n) (λ base. walk dumps left base)

-- ---- following bases, in two parts

pub comes_add : (ds : List Dump) (i j n : ℕ) → comes ds (i + j) n ≡ from_base None (λ m. comes ds j m) (comes ds i n)
unfolding comes
comes_add ds zero j n = rw zero-add
comes_add ds (suc i) j n = rw suc-add (go (λ b. comes_add ds i j b) (base_of (held ds n)))
  where
    go : ((b : ℕ) → comes ds (i + j) b ≡ from_base None (λ m. comes ds j m) (comes ds i b)) → (o : Option ℕ)
        → from_base None (λ b. comes ds (i + j) b) o ≡ from_base None (λ m. comes ds j m) (from_base None (λ b. comes ds i b) o)
    go more None = refl
    go more (Some b) = more b

module _ (ds : List Dump) (n : ℕ) where
  -- a walk that goes on has been on its way before
  pub comes_split : (i j m : ℕ) → comes ds (i + j) n ≡ Some m → Via (comes ds i n) (λ k. comes ds j k) m
  comes_split i j m e = via (comes ds i n) (λ k. comes ds j k) m (sym (comes_add ds i j n) ∙ e)

  pub comes_before : (i k m : ℕ) → i ≤ k → comes ds k n ≡ Some m → Via (comes ds i n) (λ b. comes ds (k - i) b) m
  comes_before i k m h e = let q : k ≡ i + (k - i) = omega arith in comes_split i (k - i) m (ap (λ (x : ℕ). comes ds x n) (sym q) ∙ e)

  pub comes_join : (i j m k : ℕ) → comes ds i n ≡ Some m → comes ds j m ≡ Some k → comes ds (i + j) n ≡ Some k
  comes_join i j m k p q = comes_add ds i j n ∙ ap (λ (o : Option ℕ). from_base None (λ b. comes ds j b) o) p ∙ q

-- ---- the walk by counting is in a ring exactly while following bases goes on

-- the walk goes on
abbrev pub Goes : Option ℕ → Type 0
Goes o = o ≡ Some (number_or o 0)

pub ring_comes : (ds : List Dump) (left n : ℕ) → walk ds left n ≡ ring → Goes (comes ds left n)
unfolding comes walk
ring_comes ds zero n e = refl
ring_comes ds (suc left) n e = go (λ b h. ring_comes ds left b h) (held ds n) e
  where
    go : ((b : ℕ) → walk ds left b ≡ ring → Goes (comes ds left b)) → (o : Option Dump)
        → end_of o (λ b. walk ds left b) ≡ ring → Goes (from_base None (λ b. comes ds left b) (base_of o))
    go more None h = let z : ◌≡◌ {A = ℕ} 0 1 = cc in absurd (omega arith)
    go more (Some (whole number group id bytes)) h = let z : ◌≡◌ {A = ℕ} 0 1 = cc in absurd (omega arith)
    go more (Some (delta number base patches)) h = more base h

pub comes_ring : (ds : List Dump) (left n m : ℕ) → comes ds left n ≡ Some m → walk ds left n ≡ ring
unfolding comes walk
comes_ring ds zero n m e = refl
comes_ring ds (suc left) n m e = go (λ b h. comes_ring ds left b m h) (held ds n) e
  where
    go : ((b : ℕ) → comes ds left b ≡ Some m → walk ds left b ≡ ring) → (o : Option Dump)
        → from_base None (λ b. comes ds left b) (base_of o) ≡ Some m → end_of o (λ b. walk ds left b) ≡ ring
    go more None h = never_none h
    go more (Some (whole number group id bytes)) h = never_none h
    go more (Some (delta number base patches)) h = more base h

-- ---- held dumps

-- a dump that is held is the first of its number
pub held_by : (n : ℕ) (d : Dump) (P : List Dump → Type 0) → ((ds : List Dump) → n ≡ dump_number d → P (d ∷ ds))
    → ((c : Dump) (ds : List Dump) → P ds → P (c ∷ ds)) → (ds : List Dump) → held ds n ≡ Some d → P ds
unfolding held
held_by n d P here past [] e = never_none e
held_by n d P here past (c ∷ ds) e = go (λ h. held_by n d P here past ds h) (eqb n (dump_number c)) refl e
  where
    go : (held ds n ≡ Some d → P ds) → (b : Bool) → eqb n (dump_number c) ≡ b → cond b (Some c) (held ds n) ≡ Some d → P (c ∷ ds)
    go more true q h = let same : d ≡ c = cc in rw same at (here ds (eqb-true n (dump_number c) q ∙ ap dump_number (sym same)))
    go more false q h = past c ds (more h)

-- under its number
pub held_is : (ds : List Dump) (n : ℕ) {d : Dump} → held ds n ≡ Some d → dump_number d ≡ n
held_is ds n {d} e = held_by n d (λ ds. dump_number d ≡ n) (λ ds q. sym q) (λ c ds h. h) ds e

-- which is one of theirs
pub held_number : (ds : List Dump) (n : ℕ) {d : Dump} → held ds n ≡ Some d → elem n (numbers_of ds) ≡ true
held_number ds n {d} e =
    held_by n d (λ ds. elem n (numbers_of ds) ≡ true) (λ ds q. rw (eq-eqb n (dump_number d) q))
    (λ c ds h. or_right (eqb n (dump_number c)) h) ds e
  where
    or_right : (b : Bool) {c : Bool} → c ≡ true → (b || c) ≡ true
    or_right true h = refl
    or_right false h = h

-- what holds of all holds of it
pub held_all : (P : Dump → Type 0) (ds : List Dump) (n : ℕ) {d : Dump} → All P ds → held ds n ≡ Some d → P d
held_all P ds n {d} a e = held_by n d (λ ds. All P ds → P d) (λ ds q a. a.0) (λ c ds h a. h a.1) ds e a

from_held : (ds : List Dump) (n m : ℕ) → comes ds 1 n ≡ Some m → elem n (numbers_of ds) ≡ true
unfolding comes
from_held ds n m e = go (held ds n) refl e
  where
    go : (o : Option Dump) → held ds n ≡ o → from_base None (λ b. Some b) (base_of o) ≡ Some m → elem n (numbers_of ds) ≡ true
    go None q h = never_none h
    go (Some d) q h = held_number ds n q

-- ---- the count is enough: a walk that passes more dumps than there are comes again to a number already passed

module _ (ds : List Dump) (n : ℕ) where
  -- a ring that is closed so soon
  pub record Soon : Type 0 where
    pub in_ring : InRing ds n
    pub soon : in_ring.later ≤ length ds

  pub over_soon : (m : ℕ) → comes ds (suc (length ds)) n ≡ Some m → Soon
  over_soon m e =
      let s : ℕ → ℕ = λ i. number_or (comes ds i n) 0 in
      let is : (i : ℕ) → i < suc (length ds) → comes ds i n ≡ Some (s i) = λ i h.
      let v = comes_before ds n i (suc (length ds)) m (omega arith) e in
      v.first ∙ read_back (comes ds i n) v.middle v.first in
      let on : (i : ℕ) → i < suc (length ds) → elem (s i) (numbers_of ds) ≡ true = λ i h.
      let w = comes_before ds n (i + 1) (suc (length ds)) m (omega arith) e in
      let v = comes_split ds n i 1 w.middle w.first in
      let same : v.middle ≡ s i = sym (ap (λ (o : Option ℕ). number_or o 0) v.first) in
      rw same at (from_held ds v.middle w.middle v.second) in
      let t = pigeons (length ds) (numbers_of ds) s (length-map ds dump_number) on in
      record {
        in_ring = record {
          earlier = t.earlier;
          later = t.later;
          number = s t.later;
          before = t.before;
          passed = is t.earlier (omega (arith, t.before, t.inside)) ∙ ap (λ (k : ℕ). Some k) t.same;
          again = is t.later t.inside;
        };
        soon = omega (arith, t.inside);
      }

  pub over_ring : (m : ℕ) → comes ds (suc (length ds)) n ≡ Some m → InRing ds n
  over_ring m e = (over_soon m e).in_ring

  -- ---- a ring never ends

  record Later (m k : ℕ) : Type 0 where
    pub steps : ℕ
    pub enough : k ≤ steps
    pub back : comes ds steps m ≡ Some m

  round : (m p : ℕ) → 0 < p → comes ds p m ≡ Some m → (k : ℕ) → Later m k
  unfolding comes
  round m p h e zero = record { steps = 0; enough = omega arith; back = refl }
  round m p h e (suc k) =
      let l = round m p h e k in
      record { steps = l.steps + p; enough = omega (arith, l.enough); back = comes_join ds m l.steps p m m l.back e }

  pub endless : InRing ds n → (k : ℕ) → Via (comes ds k n) (λ x. Some x) (number_or (comes ds k n) 0)
  endless r k =
      let v = comes_before ds n r.earlier r.later r.number (omega (arith, r.before)) r.again in
      let same : v.middle ≡ r.number = cc (ap (λ (o : Option ℕ). number_or o 0) (sym v.first ∙ r.passed)) in
      let turn : comes ds (r.later - r.earlier) r.number ≡ Some r.number = rw same at v.second in
      let l = round r.number (r.later - r.earlier) (omega (arith, r.before)) turn k in
      let far : comes ds (r.earlier + l.steps) n ≡ Some r.number =
      comes_join ds n r.earlier l.steps r.number r.number r.passed l.back in
      let w = comes_before ds n k (r.earlier + l.steps) r.number (omega (arith, l.enough)) far in
      record {
        middle = w.middle;
        first = w.first;
        second = read_back (comes ds k n) w.middle w.first;
      }

  pub ring_is : walk ds (suc (length ds)) n ≡ ring → InRing ds n
  ring_is e = over_ring _ (ring_comes ds (suc (length ds)) n e)

-- where the walk ends: at a number not held, or at a whole dump
abbrev Ends : List Dump → ℕ → End → Type 0
Ends ds n ring = Unit {0}
Ends ds n missing = IsMissing ds n
Ends ds n rests = Rests ds n

-- a delta's walk goes on as its base's
pub comes_base : (ds : List Dump) (n : ℕ) {number base : ℕ} {patches : List Patch} (k : ℕ) → held ds n ≡ Some (delta number base patches)
    → comes ds (suc k) n ≡ comes ds k base
unfolding comes
comes_base ds n k q = rw q

module _ (ds : List Dump) (n : ℕ) where
  module _ {number base : ℕ} {patches : List Patch} (q : held ds n ≡ Some (delta number base patches)) where
    abbrev pub rests_base : Rests ds base → Rests ds n
    rests_base r =
        record {
          steps = suc r.steps;
          number = r.number;
          group = r.group;
          id = r.id;
          bytes = r.bytes;
          come = comes_base ds n r.steps q ∙ r.come;
          is_held = r.is_held;
        }

    ends_base : (e : End) → Ends ds base e → Ends ds n e
    ends_base ring u = tt
    ends_base missing m =
        record { steps = suc m.steps; number = m.number; come = comes_base ds n m.steps q ∙ m.come; none-held = m.none-held }
    ends_base rests r = rests_base r

  rests_here : {number group id : ℕ} {bytes : List ℕ} → held ds n ≡ Some (whole number group id bytes) → Rests ds n
  unfolding comes
  rests_here {number} {group} {id} {bytes} q =
      let same : number ≡ n = held_is ds n q in
      record { steps = 0; number = n; group = group; id = id; bytes = bytes; come = refl; is_held = rw same at q }

ends : (ds : List Dump) (left n : ℕ) → Ends ds n (walk ds left n)
unfolding comes walk
ends ds zero n = tt
ends ds (suc left) n = go (λ b. ends ds left b) (held ds n) refl
  where
    go : ((b : ℕ) → Ends ds b (walk ds left b)) → (o : Option Dump) → held ds n ≡ o → Ends ds n (end_of o (λ b. walk ds left b))
    go more None q = record { steps = 0; number = n; come = refl; none-held = q }
    go more (Some (whole number group id bytes)) q = rests_here ds n q
    go more (Some (delta number base patches)) q = ends_base ds n q (walk ds left base) (more base)

-- a number that has no base is never gone on from
pub stops : (ds : List Dump) (m : ℕ) → base_of (held ds m) ≡ None → (k : ℕ) → comes ds (suc k) m ≡ None
unfolding comes
stops ds m q k = rw q

-- a walk that has come to one is not in a ring
pub ended_not : (ds : List Dump) (n steps m : ℕ) → comes ds steps n ≡ Some m → base_of (held ds m) ≡ None → InRing ds n → ⊥
ended_not ds n steps m c q r =
    let v = endless ds n r (steps + 1) in
    let w = comes_split ds n steps 1 v.middle v.first in
    let same : w.middle ≡ m = cc (sym w.first ∙ c) in
    let on : comes ds 1 m ≡ Some v.middle = rw same at w.second in
    never_none (sym (stops ds m q 0) ∙ on)

-- and comes to no other
later_end : (ds : List Dump) (n i j m k : ℕ) → i ≤ j → comes ds i n ≡ Some m → base_of (held ds m) ≡ None → comes ds j n ≡ Some k → m ≡ k
unfolding comes
later_end ds n i j m k h c q d =
    let v = comes_before ds n i j k h d in
    let same : v.middle ≡ m = cc (sym v.first ∙ c) in
    let on : comes ds (j - i) m ≡ Some k = rw same at v.second in
    go (j - i) on
  where
    go : (x : ℕ) → comes ds x m ≡ Some k → m ≡ k
    go zero e = cc
    go (suc x) e = never_none (sym (stops ds m q x) ∙ e)

pub one_end : (ds : List Dump) (n i j m k : ℕ) → comes ds i n ≡ Some m → base_of (held ds m) ≡ None → comes ds j n ≡ Some k
    → base_of (held ds k) ≡ None → m ≡ k
one_end ds n i j m k c q d r = go (ltb i j) refl
  where
    go : (b : Bool) → ltb i j ≡ b → m ≡ k
    go true h = let l = ltb-true i j h in later_end ds n i j m k (omega arith) c q d
    go false h = sym (later_end ds n j i k m (ltb-false i j h) d r c)

-- no two of the three
pub never_both : (ds : List Dump) (n : ℕ) → InRing ds n → IsMissing ds n → ⊥
never_both ds n r m = ended_not ds n m.steps m.number m.come (ap base_of m.none-held) r

pub rests_no_ring : (ds : List Dump) (n : ℕ) → Rests ds n → InRing ds n → ⊥
rests_no_ring ds n w r = ended_not ds n w.steps w.number w.come (ap base_of w.is_held) r

pub rests_no_missing : (ds : List Dump) (n : ℕ) → Rests ds n → IsMissing ds n → ⊥
rests_no_missing ds n w m =
    let same =
    one_end ds n w.steps m.steps w.number m.number w.come (ap base_of w.is_held) m.come (ap base_of m.none-held)
    in
    never_none (sym m.none-held ∙ ap (held ds) (sym same) ∙ w.is_held)

-- and always one
pub walk-one : (ds : List Dump) (n : ℕ) → InRing ds n ⊎ (IsMissing ds n ⊎ Rests ds n)
walk-one ds n = go (walk ds (suc (length ds)) n) refl (ends ds (suc (length ds)) n)
  where
    go : (e : End) → walk ds (suc (length ds)) n ≡ e → Ends ds n e → InRing ds n ⊎ (IsMissing ds n ⊎ Rests ds n)
    go ring q u = inl (ring_is ds n q)
    go missing q m = inr (inl m)
    go rests q w = inr (inr w)

-- missing exactly if the walk comes to a number not held
pub is_missing : (ds : List Dump) (n : ℕ) → IsMissing ds n → walk ds (suc (length ds)) n ≡ missing
is_missing ds n m = go (walk ds (suc (length ds)) n) refl (ends ds (suc (length ds)) n)
  where
    go : (e : End) → walk ds (suc (length ds)) n ≡ e → Ends ds n e → walk ds (suc (length ds)) n ≡ missing
    go ring q u = absurd (never_both ds n (ring_is ds n q) m)
    go missing q k = q
    go rests q w = absurd (rests_no_missing ds n w m)

-- ---- what restoring makes of it: Ring and Missing exactly so, before any Range or Room

-- a delta passes its base's refusal on
pub rebuilt_refused : (too_long : ℕ → Bool) (patches : List Patch) {base : Answer Payload} {number place : ℕ} → base ≡ refused number place
    → rebuilt too_long patches base ≡ refused number place
unfolding rebuilt
rebuilt_refused too_long patches e = rw e

-- not Ring and not Missing
abbrev pub Other : Answer Payload → Type 0
Other (gives payload) = Unit {0}
Other (refused number place) = (number ≡ 25 → ⊥) × (number ≡ 24 → ⊥)

-- what restoring answers to a walk that ends so
abbrev Says : End → Answer Payload → Type 0
Says ring answer = answer ≡ refused 25 0
Says missing answer = answer ≡ refused 24 0
Says rests answer = Other answer

module _ (too_long : ℕ → Bool) (ds : List Dump) where
  other_roomed : (payload : Payload) → Other (roomed too_long payload)
  unfolding roomed
  other_roomed payload = go (too_long (length payload.bytes))
    where
      go : (b : Bool) → Other (guard b 14 0 ▷ gives payload)
      go true = ((λ e. omega arith), (λ e. omega arith))
      go false = tt

  other_rebuilt : (patches : List Patch) (base : Answer Payload) → Other base → Other (rebuilt too_long patches base)
  unfolding rebuilt
  other_rebuilt patches (refused number place) o = o
  other_rebuilt patches (gives base) o = go (outside (length base.bytes) patches)
    where
      after : Payload
      after = record { group = base.group; id = base.id; bytes = replaced base.bytes patches }

      go : (b : Bool) → Other (guard b 13 0 ▷ roomed too_long after)
      go true = ((λ e. omega arith), (λ e. omega arith))
      go false = other_roomed after

  says_rebuilt : (patches : List Patch) (e : End) (base : Answer Payload) → Says e base → Says e (rebuilt too_long patches base)
  says_rebuilt patches ring base s = rebuilt_refused too_long patches s
  says_rebuilt patches missing base s = rebuilt_refused too_long patches s
  says_rebuilt patches rests base s = other_rebuilt patches base s

  restored_says : (left n : ℕ) → Says (walk ds left n) (restored too_long ds left n)
  unfolding walk restored
  restored_says zero n = refl
  restored_says (suc left) n = go (λ b. restored_says left b) (held ds n)
    where
      go : ((b : ℕ) → Says (walk ds left b) (restored too_long ds left b)) → (o : Option Dump)
          → Says (end_of o (λ b. walk ds left b)) (restored_by too_long (λ b. restored too_long ds left b) o)
      go more None = refl
      go more (Some (whole number group id bytes)) = other_roomed _
      go more (Some (delta number base patches)) = says_rebuilt patches (walk ds left base) (restored too_long ds left base) (more base)

  pub restored_ring : (left n : ℕ) → walk ds left n ≡ ring → restored too_long ds left n ≡ refused 25 0
  restored_ring left n e = rw e at (restored_says left n)

  -- a ring is one by any count
  pub ring_restored : (left n : ℕ) → InRing ds n → restored too_long ds left n ≡ refused 25 0
  ring_restored left n r = let v = endless ds n r left in restored_ring left n (comes_ring ds left n v.middle v.first)

  -- a walk that ends needs no larger count
  pub restored_more : (left n k : ℕ) → (walk ds left n ≡ ring → ⊥) → restored too_long ds (left + k) n ≡ restored too_long ds left n
  unfolding walk restored
  restored_more zero n k h = absurd (h refl)
  restored_more (suc left) n k h = rw suc-add (go (λ b w. restored_more left b k w) (held ds n) h)
    where
      go : ((b : ℕ) → (walk ds left b ≡ ring → ⊥) → restored too_long ds (left + k) b ≡ restored too_long ds left b) → (o : Option Dump)
          → (end_of o (λ b. walk ds left b) ≡ ring → ⊥)
          → restored_by too_long (λ b. restored too_long ds (left + k) b) o ≡ restored_by too_long (λ b. restored too_long ds left b) o
      go more None w = refl
      go more (Some (whole number group id bytes)) w = refl
      go more (Some (delta number base patches)) w = ap (rebuilt too_long patches) (more base w)

  -- ---- by the count that restoring begins with, Ring and Missing exactly so

  abbrev pub begun : ℕ → Answer Payload
  begun n = restored too_long ds (suc (length ds)) n

  rests_walk : (n : ℕ) → Rests ds n → walk ds (suc (length ds)) n ≡ rests
  rests_walk n w = go (walk ds (suc (length ds)) n) refl (ends ds (suc (length ds)) n)
    where
      go : (e : End) → walk ds (suc (length ds)) n ≡ e → Ends ds n e → walk ds (suc (length ds)) n ≡ rests
      go ring q u = absurd (rests_no_ring ds n w (ring_is ds n q))
      go missing q m = absurd (rests_no_missing ds n w m)
      go rests q r = q

  -- a walk to a whole dump is neither
  pub rests_other : (n : ℕ) → Rests ds n → Other (begun n)
  rests_other n w = rw (rests_walk n w) at (restored_says (suc (length ds)) n)

  pub ring_start : (n : ℕ) → InRing ds n → begun n ≡ refused 25 0
  ring_start n r = ring_restored (suc (length ds)) n r

  pub missing_start : (n : ℕ) → IsMissing ds n → begun n ≡ refused 24 0
  missing_start n m = rw (is_missing ds n m) at (restored_says (suc (length ds)) n)

  pub start_ring : (n place : ℕ) → begun n ≡ refused 25 place → InRing ds n
  start_ring n place e = go (walk-one ds n)
    where
      go : InRing ds n ⊎ (IsMissing ds n ⊎ Rests ds n) → InRing ds n
      go (inl r) = r
      go (inr (inl m)) =
          let z : ◌≡◌ {A = Answer Payload} (refused 24 0) (refused 25 place) = sym (missing_start n m) ∙ e in
          let y : ◌≡◌ {A = ℕ} 24 25 = cc in
          absurd (omega arith)
      go (inr (inr w)) = absurd ((rw e at (rests_other n w)).0 refl)

  pub start_missing : (n place : ℕ) → begun n ≡ refused 24 place → IsMissing ds n
  start_missing n place e = go (walk-one ds n)
    where
      go : InRing ds n ⊎ (IsMissing ds n ⊎ Rests ds n) → IsMissing ds n
      go (inl r) =
          let z : ◌≡◌ {A = Answer Payload} (refused 25 0) (refused 24 place) = sym (ring_start n r) ∙ e in
          let y : ◌≡◌ {A = ℕ} 25 24 = cc in
          absurd (omega arith)
      go (inr (inl m)) = m
      go (inr (inr w)) = absurd ((rw e at (rests_other n w)).1 refl)
