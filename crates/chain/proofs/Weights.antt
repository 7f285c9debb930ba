-- The edits of each delta are in order, and no restored dump is longer than the store. Assumes nothing.
use Rattle.std.specs.Prelude.{Some}
use mathlib.Core.Path.{◌≡◌, refl, sym, ap, ◌∙◌}
use mathlib.Core.Bool.{Bool, true, false, cond}
use mathlib.Core.List.{List, [], ◌∷◌, ◌++◌}
use Prim.Native.Nat.{ℕ, zero, suc, ◌+◌, ◌≤◌}
use native.Mathlib.Omega.{arith}
use lib.Dec.{eqb}
use lib.ListN.{length, drop, length-append, length-drop}
use borrow.Author.Tests.{eqb-true, eq-eqb}
use Rattle.refusal.specs.Answer.{gives}
use Rattle.refusal.proofs.Laws.{never_refused}
use Rattle.ump.specs.Packet.{joined}
use Rattle.ump.specs.Edits.{Patch, patch_at, end_before, Apart, replaced, total, all_bytes}
use Rattle.ump.specs.Partly.{gap}
use Rattle.ump.proofs.Replace.{length-gap}
use Rattle.store.specs.Store.{records_of, at_start, well_formed, Dump, delta, dump_number, dumps_of, held}
use Rattle.store.specs.Places.{Ordered}
use Rattle.store.proofs.Forms.{All, Formed, all_formed, weight, weights, weights_length}
use Rattle.chain.specs.Walk.{base_of, comes, InRing}
use Rattle.chain.specs.Restore.{Payload, restored, unlimited}
use Rattle.chain.proofs.Walks.{held_by, held_all, ring_restored}
use Rattle.chain.proofs.Making.{Made, of_whole, of_delta, made, apart}
use Rattle.chain.proofs.Orders.{restored_agree}

pub held_ordered : (store : List ℕ) → well_formed at_start (records_of store) ≡ true → (n : ℕ) {number base : ℕ} {patches : List Patch}
    → held (dumps_of store) n ≡ Some (delta number base patches) → Ordered 0 patches
held_ordered store e n q = held_all Formed (dumps_of store) n (all_formed at_start (records_of store) e) q

-- ---- a payload grows by no more than the bytes put in

module _ (bytes : List ℕ) (ps : List Patch) (a : Apart ps (length bytes)) where
  abbrev part : ℕ → List ℕ
  part i = gap bytes ps i ++ (patch_at ps i).bytes

  abbrev put : ℕ → ℕ
  put i = length (patch_at ps i).bytes

  length_front : (i : ℕ) → i ≤ length ps → length (joined part i) ≤ end_before ps i + total put i
  unfolding joined total
  length_front zero h = omega arith
  length_front (suc i) h =
      omega (
        arith,
        length-append (joined part i) (part i),
        length-append (gap bytes ps i) (patch_at ps i).bytes,
        length_front i (omega arith),
        length-gap bytes ps a i h,
        a.after i h,
        a.forward i h,
      )

  pub length-replaced : length (replaced bytes ps) ≤ length bytes + all_bytes ps
  unfolding replaced
  length-replaced =
      let m = length ps in
      omega (
        arith,
        length-append (joined part m) (drop (end_before ps m) bytes),
        length-drop (end_before ps m) bytes,
        length_front m (omega arith),
        a.inside,
      )

-- ---- the dumps without one

-- the dumps without those of a number
unfoldable pub without : ℕ → List Dump → List Dump
without n [] = []
without n (d ∷ ds) = cond (eqb n (dump_number d)) (without n ds) (d ∷ without n ds)

without_less : (n : ℕ) (ds : List Dump) → weights (without n ds) ≤ weights ds
unfolding weights without
without_less n [] = omega arith
without_less n (d ∷ ds) = go (without_less n ds) (eqb n (dump_number d))
  where
    go : weights (without n ds) ≤ weights ds → (b : Bool) → weights (cond b (without n ds) (d ∷ without n ds)) ≤ weight d + weights ds
    go more true = omega arith
    go more false = omega arith

without-held : (n : ℕ) (ds : List Dump) {d : Dump} → held ds n ≡ Some d → weight d + weights (without n ds) ≤ weights ds
unfolding weights without
without-held n ds {d} e =
    held_by n d (λ ds. weight d + weights (without n ds) ≤ weights ds)
    (λ ds q. rw (eq-eqb n (dump_number d) q) (omega (arith, without_less n ds)))
    (λ c ds h. go c ds h (eqb n (dump_number c))) ds e
  where
    go : (c : Dump) (ds : List Dump) → weight d + weights (without n ds) ≤ weights ds → (b : Bool)
        → weight d + weights (cond b (without n ds) (c ∷ without n ds)) ≤ weight c + weights ds
    go c ds h true = omega arith
    go c ds h false = omega arith

without_all : (P : Dump → Type 0) (n : ℕ) (ds : List Dump) → All P ds → All P (without n ds)
unfolding without
without_all P n [] a = tt
without_all P n (d ∷ ds) a = go (without_all P n ds a.1) (eqb n (dump_number d))
  where
    go : All P (without n ds) → (b : Bool) → All P (cond b (without n ds) (d ∷ without n ds))
    go more true = more
    go more false = (a.0, more)

other_held : (n : ℕ) (ds : List Dump) (m : ℕ) → (m ≡ n → ⊥) → held ds m ≡ held (without n ds) m
unfolding held without
other_held n [] m h = refl
other_held n (d ∷ ds) m h = go (other_held n ds m h) (eqb n (dump_number d)) (eqb m (dump_number d)) refl refl
  where
    go : held ds m ≡ held (without n ds) m → (a b : Bool) → eqb n (dump_number d) ≡ a → eqb m (dump_number d) ≡ b
        → cond b (Some d) (held ds m) ≡ held (cond a (without n ds) (d ∷ without n ds)) m
    go more true true p q = absurd (h (eqb-true m (dump_number d) q ∙ sym (eqb-true n (dump_number d) p)))
    go more true false p q = more
    go more false true p q = rw q
    go more false false p q = rw q more

-- a walk that never comes to n needs no dump of that number
abbrev Avoids : List Dump → ℕ → ℕ → Type 0
Avoids ds n m = (k : ℕ) → comes ds k m ≡ Some n → ⊥

module _ (ds : List Dump) (n : ℕ) where
  avoids_base : (m b : ℕ) → Avoids ds n m → base_of (held ds m) ≡ Some b → Avoids ds n b
  unfolding comes
  avoids_base m b h q k c = h (suc k) (rw q c)

  avoids_number : (m : ℕ) → Avoids ds n m → m ≡ n → ⊥
  unfolding comes
  avoids_number m h e = h 0 (ap (λ (x : ℕ). Some x) e)

  restored-without : (too_long : ℕ → Bool) (left m : ℕ) → Avoids ds n m
      → restored too_long ds left m ≡ restored too_long (without n ds) left m
  restored-without too_long left m h =
      restored_agree ds (without n ds) (Avoids ds n) (λ m a. other_held n ds m (avoids_number m a)) avoids_base too_long left m h

  -- a dump that is restored is not its own base's base
  restored_avoids : (too_long : ℕ → Bool) (left b : ℕ) {p : Payload} → base_of (held ds n) ≡ Some b → restored too_long ds left n ≡ gives p
      → Avoids ds n b
  unfolding comes
  restored_avoids too_long left b q e k c =
      let r : InRing ds n = record { earlier = 0; later = suc k; number = n; before = omega arith; passed = refl; again = rw q c } in
      never_refused (sym (ring_restored too_long ds left n r) ∙ e)

-- ---- no restored dump weighs more than all dumps

restored_light : (too_long : ℕ → Bool) (left : ℕ) (ds : List Dump) → All Formed ds → (n : ℕ) (p : Payload)
    → restored too_long ds left n ≡ gives p → length p.bytes ≤ weights ds
unfolding restored
restored_light too_long zero ds a n p e = never_refused e
restored_light too_long (suc left) ds a n p e = go (λ es i b q h. restored_light too_long left es i b q h) (made too_long ds left n e)
  where
    go : ((es : List Dump) → All Formed es → (b : ℕ) (q : Payload) → restored too_long es left b ≡ gives q → length q.bytes ≤ weights es)
        → Made too_long ds left n p → length p.bytes ≤ weights ds
    go more (of_whole group id bytes t r s) = omega (arith, ap (λ (x : Payload). length x.bytes) s, without-held n ds t)
    go more (of_delta base patches t b) =
        let away = restored_avoids ds n too_long (suc left) base (ap base_of t) e in
        let light =
        more (without n ds) (without_all Formed n ds a) base b.old (sym (restored-without ds n too_long left base away) ∙ b.is_base)
        in
        let far = apart (length b.old.bytes) patches (held_all Formed ds n a t) b.good in
        let size = ap (λ (x : Payload). length x.bytes) b.is in
        omega (arith, size, length-replaced b.old.bytes patches far, light, without-held n ds t)

pub restored_size : (store : List ℕ) → well_formed at_start (records_of store) ≡ true → (left n : ℕ) (p : Payload)
    → restored unlimited (dumps_of store) left n ≡ gives p → length p.bytes ≤ length store
restored_size store w left n p e =
    omega (arith, restored_light unlimited left (dumps_of store) (all_formed at_start (records_of store) w) n p e, weights_length store)
