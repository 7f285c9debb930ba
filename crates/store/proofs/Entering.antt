-- One pass over the dumps: numbers used, places noted. Assumes nothing.
use Rattle.std.specs.Prelude.{Some, None}
use mathlib.Core.Path.{◌≡◌, refl, sym, ap, ◌∙◌}
use mathlib.Core.Bool.{Bool, true, false, ◌||◌}
use mathlib.Core.List.{List, [], ◌∷◌, ◌++◌, map, append-nil}
use Prim.Native.Nat.{ℕ, suc, ◌+◌, ◌≤◌, ◌<◌}
use native.Mathlib.Omega.{arith}
use lib.Dec.{eqb}
use lib.ListN.{length, get_or, take, set, replicate, length-set, length-replicate}
use lib.Seq.{length-take-le, take-suc-set, get_or-take, get_or-set_same, get_or-set_other, append_snoc}
use borrow.Author.Tests.{eqb-true, eqb-false, eq-eqb, ne_eqb}
use Rattle.ump.specs.Word.{pair_at}
use Rattle.ump.specs.Edits.{elem}
use Rattle.store.specs.Store.{is_dump, Dump, dumps_of, numbers_of, twice}
use Rattle.store.specs.Places.{next_at, dumps_from, dump_at, DumpBegins, Noted, flagged, Flags, Entering}
use Rattle.store.specs.Meaning.{Enters, Passed}
use Rattle.store.proofs.Records.{not_both}
use Rattle.store.proofs.Flagging.{none-flagged, flag_inside}
use Rattle.store.proofs.Dumps.{dumps_end, dumps_here, dumps_past, number_here}

-- ---- numbers used again

-- a test put behind another
or_last : (a b : Bool) → (a || b) ≡ (b || (a || false))
or_last true true = refl
or_last true false = refl
or_last false true = refl
or_last false false = refl

or_assoc : (a b c : Bool) → ((a || b) || c) ≡ (a || (b || c))
or_assoc true b c = refl
or_assoc false b c = refl

pub elem_append : (m : ℕ) (ns ks : List ℕ) → elem m (ns ++ ks) ≡ (elem m ns || elem m ks)
elem_append m [] ks = refl
elem_append m (n ∷ ns) ks = ap (λ (b : Bool). eqb m n || b) (elem_append m ns ks) ∙ sym (or_assoc (eqb m n) (elem m ns) (elem m ks))

-- a number that is there, and comes again
pub twice_again : (ns : List ℕ) (n : ℕ) (ks : List ℕ) → elem n ns ≡ true → twice (ns ++ n ∷ ks) ≡ true
unfolding twice
twice_again [] n ks e = not_both e refl
twice_again (m ∷ ns) n ks e = go (λ h. twice_again ns n ks h) (eqb n m) refl e
  where
    go : (elem n ns ≡ true → twice (ns ++ n ∷ ks) ≡ true) → (b : Bool) → eqb n m ≡ b → (b || elem n ns) ≡ true
        → (elem m (ns ++ n ∷ ks) || twice (ns ++ n ∷ ks)) ≡ true
    go more true q h = rw (elem_append m ns (n ∷ ks), eq-eqb m n (sym (eqb-true n m q))) (or_true (elem m ns) (twice (ns ++ n ∷ ks)))
      where
        or_true : (a b : Bool) → ((a || true) || b) ≡ true
        or_true true b = refl
        or_true false b = refl
    go more false q h = rw (more h) (or_true (elem m (ns ++ n ∷ ks)))
      where
        or_true : (a : Bool) → (a || true) ≡ true
        or_true true = refl
        or_true false = refl

-- a number that is not there, behind numbers that are each there once
pub twice_new : (ns : List ℕ) (n : ℕ) → twice ns ≡ false → elem n ns ≡ false → twice (ns ++ n ∷ []) ≡ false
unfolding twice
twice_new [] n t e = refl
twice_new (m ∷ ns) n t e = go (λ u f. twice_new ns n u f) (eqb n m) (elem m ns) refl refl t e
  where
    go : (twice ns ≡ false → elem n ns ≡ false → twice (ns ++ n ∷ []) ≡ false) → (b c : Bool) → eqb n m ≡ b → elem m ns ≡ c
        → (c || twice ns) ≡ false → (b || elem n ns) ≡ false → (elem m (ns ++ n ∷ []) || twice (ns ++ n ∷ [])) ≡ false
    go more true c p q u f = not_both refl f
    go more false true p q u f = not_both refl u
    go more false false p q u f =
        let other : eqb m n ≡ false = ne_eqb m n (λ r. eqb-false n m p (sym r)) in
        rw (elem_append m ns (n ∷ []), q, other, more u f)

-- ---- the pass

pub entering_start : (store : List ℕ) {used : List ℕ} (places : List ℕ) → used ≡ replicate 8192 0 → Entering store 0 0 used places
unfolding twice
entering_start store {used} places e =
    record {
      passed = [];
      table = ap (λ (l : List ℕ). length l) e ∙ length-replicate {0} {A = ℕ} 8192 0;
      fewer = omega arith;
      numbers = refl;
      once = refl;
      marks = λ m h. none-flagged 8192 e m;
      counted = omega arith;
      dumps = λ h. refl;
      begin = λ i h k. absurd (omega arith);
    }

module _ {store : List ℕ} {at count : ℕ} {used places : List ℕ} (e : Entering store at count used places) where
  module _ (h : at < length store) where
    pub entering_past : is_dump (get_or store at 0) ≡ false → Entering store (next_at store at) count used places
    entering_past d =
        let same = dumps_past store at h d in
        record {
          passed = e.passed;
          table = e.table;
          fewer = omega (arith, e.fewer);
          numbers = e.numbers ∙ ap (λ (ds : List Dump). e.passed ++ numbers_of ds) same;
          once = e.once;
          marks = e.marks;
          counted = e.counted ∙ ap (λ (ds : List Dump). count + length ds) same;
          dumps = λ k. e.dumps k ∙ ap (λ (ds : List Dump). map (dump_at store) (take count places) ++ ds) same;
          begin = e.begin;
        }

    module _ (d : is_dump (get_or store at 0) ≡ true) {n : ℕ} (q : n ≡ pair_at store (at + 1)) (small : n < 65536) where
      all_numbers : numbers_of (dumps_of store) ≡ e.passed ++ n ∷ numbers_of (dumps_from store (next_at store at))
      all_numbers =
          e.numbers ∙ ap (λ (ds : List Dump). e.passed ++ numbers_of ds) (dumps_here store at h d)
          ∙ ap (λ (k : ℕ). e.passed ++ k ∷ numbers_of (dumps_from store (next_at store at))) (number_here store at h d ∙ sym q)

      pub entering_again : flagged used n ≡ true → twice (numbers_of (dumps_of store)) ≡ true
      entering_again u = ap twice all_numbers ∙ twice_again e.passed n _ (sym (e.marks n small) ∙ u)

      pub entering_dump : {used' : List ℕ} → flagged used n ≡ false → length used' ≡ length used → Flags used n used'
          → Entering store (next_at store at) (count + 1) used' (set places count at)
      entering_dump {used'} u l f =
          let new : elem n e.passed ≡ false = sym (e.marks n small) ∙ u in
          record {
            passed = e.passed ++ n ∷ [];
            table = l ∙ e.table;
            fewer = omega (arith, e.fewer);
            numbers = all_numbers ∙ sym (append_snoc e.passed n (numbers_of (dumps_from store (next_at store at))));
            once = twice_new e.passed n e.once new;
            marks = λ m k.
                flag_inside used n used' f (omega (arith, e.table, small)) m ∙ ap (λ (b : Bool). eqb m n || b) (e.marks m k) ∙ or_last (eqb m n) (elem m e.passed) ∙ sym (elem_append m e.passed (n ∷ []));
            counted = omega (arith, e.counted, ap (λ (ds : List Dump). length ds) (dumps_here store at h d));
            dumps = λ k. noted (omega (arith, k, length-set places count at));
            begin = λ i k l. place i k (omega (arith, l, length-set places count at)) (eqb i count) refl;
          }
        where
          noted : count < length places
              → dumps_of store ≡ map (dump_at store) (take (count + 1) (set places count at)) ++ dumps_from store (next_at store at)
          noted k =
              let one : count + 1 ≡ suc count = omega arith in
              e.dumps (omega arith) ∙ ap (λ (ds : List Dump). map (dump_at store) (take count places) ++ ds) (dumps_here store at h d)
              ∙ sym (append_snoc (map (dump_at store) (take count places)) (dump_at store at) (dumps_from store (next_at store at)))
              ∙ ap (λ (ds : List Dump). ds ++ dumps_from store (next_at store at)) (sym (map_snoc (take count places)))
              ∙ ap (λ (l : List ℕ). map (dump_at store) l ++ dumps_from store (next_at store at))
              (sym (ap (λ (j : ℕ). take j (set places count at)) one ∙ take-suc-set places count at k))
            where
              map_snoc : (l : List ℕ) → map (dump_at store) (l ++ at ∷ []) ≡ map (dump_at store) l ++ dump_at store at ∷ []
              map_snoc [] = refl
              map_snoc (x ∷ l) = ap (λ (ds : List Dump). dump_at store x ∷ ds) (map_snoc l)

          place : (i : ℕ) → i < count + 1 → i < length places → (b : Bool) → eqb i count ≡ b → DumpBegins store (get_or (set places count at) i 0)
          place i k l true p =
              let same = eqb-true i count p in
              rw (same, get_or-set_same places count at 0 (omega (arith, same, l))) (h, d)
          place i k l false p =
              let other = eqb-false i count p in
              rw (get_or-set_other places count i at 0 other) (e.begin i (omega (arith, other, k)) l)

  module _ (h : length store ≤ at) where
    pub entering_once : twice (numbers_of (dumps_of store)) ≡ false
    entering_once =
        ap twice (e.numbers ∙ ap (λ (ds : List Dump). e.passed ++ numbers_of ds) (dumps_end store at h) ∙ append-nil e.passed) ∙ e.once

    pub entering_count : count ≡ length (dumps_of store)
    entering_count = omega (arith, e.counted, ap (λ (ds : List Dump). length ds) (dumps_end store at h))

    pub entering_noted : count ≤ length places → Noted store (take count places)
    entering_noted k =
        record {
          dumps = e.dumps k ∙ ap (λ (ds : List Dump). map (dump_at store) (take count places) ++ ds) (dumps_end store at h)
              ∙ append-nil (map (dump_at store) (take count places));
          begin = λ i l.
              let inside : i < count = omega (arith, l, length-take-le count places k) in
              rw (get_or-take count places i 0 inside) (e.begin i inside (omega arith));
        }

-- ---- by cases

module _ {store : List ℕ} {at : ℕ} {used places : List ℕ} where
  pub enters_on : {count : ℕ} → Entering store (next_at store at) count used places → Enters store at (Some count) used places
  enters_on {count} e =
      record {
        on = λ count' q. let same : count ≡ count' = cc in rw same at e;
        again = λ q. let z : ◌≡◌ {A = ℕ} 0 1 = cc in absurd (omega arith);
      }

  pub enters_again : twice (numbers_of (dumps_of store)) ≡ true → Enters store at None used places
  enters_again t = record { on = λ count q. let z : ◌≡◌ {A = ℕ} 0 1 = cc in absurd (omega arith); again = λ q. t }

pub passed_all : {store : List ℕ} {at count : ℕ} {used places : List ℕ} → Entering store at count used places → length store ≤ at
    → Passed store (Some count) places
passed_all {store} {at} {count} {used} {places} e h =
    record {
      counts = λ count' q. let same : count ≡ count' = cc in (entering_once e h, sym same ∙ entering_count e h);
      notes = λ count' q k. let same : count ≡ count' = cc in rw same at (entering_noted e h (omega (arith, same, k)));
      again = λ q. let z : ◌≡◌ {A = ℕ} 0 1 = cc in absurd (omega arith);
    }
