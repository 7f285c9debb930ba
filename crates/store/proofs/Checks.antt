-- Format, Twice, Full, each before the next. Assumes nothing.
use Rattle.std.specs.Prelude.{Option, None, Result, Ok, Err}
use Rattle.std.specs.Option.{ok_or}
use mathlib.Core.Path.{◌≡◌, refl, sym, ap, ◌∙◌}
use mathlib.Core.Bool.{Bool, true, false, not}
use mathlib.Core.List.{List}
use Prim.Native.Nat.{ℕ, ◌≤◌}
use native.Mathlib.Omega.{arith}
use lib.Dec.{ltb}
use lib.ListN.{length, take, length-map}
use lib.Seq.{length-take-le}
use borrow.Author.Tests.{ltb-false}
use Rattle.refusal.specs.Answer.{gives, refused, pass, ◌▷◌, guard}
use Rattle.refusal.specs.Number.{number_of, Named, accepted}
use Rattle.refusal.specs.declared.Fault.{Fault}
use Rattle.refusal.specs.declared.Refusal.{Refusal}
use Rattle.refusal.specs.declared.Refusal.TheVariants.{Format, Twice, Full}
use Rattle.refusal.proofs.Laws.{never_refused, given_passes, refused_by, by_guard, by_both}
use Rattle.store.specs.Store.{records_of, at_start, well_formed, Dump, dumps_of, numbers_of, twice, most_dumps, sound, check_store}
use Rattle.store.specs.Places.{dump_at, Noted}
use Rattle.store.specs.Meaning.{Indexes}
use Rattle.refusal.specs.Meaning.{answer_of}

module _ (store : List ℕ) where
  abbrev form : Bool
  form = well_formed at_start (records_of store)

  abbrev again : Bool
  again = twice (numbers_of (dumps_of store))

  abbrev many : Bool
  many = ltb most_dumps (length (dumps_of store))

  pub sound_format : form ≡ false → sound store ≡ refused 21 0
  unfolding sound
  sound_format a = rw a

  module _ (a : form ≡ true) where
    pub sound_twice : again ≡ true → sound store ≡ refused 22 0
    unfolding sound
    sound_twice b = rw (a, b)

    module _ (b : again ≡ false) where
      pub sound_full : many ≡ true → sound store ≡ refused 23 0
      unfolding sound
      sound_full c = rw (a, b, c)

      pub sound_pass : many ≡ false → sound store ≡ pass
      unfolding sound
      sound_pass c = rw (a, b, c)

  -- what a good store has
  pub record Good : Type 0 where
    pub formed : form ≡ true
    pub once : again ≡ false
    pub few : length (dumps_of store) ≤ most_dumps

  pub sound_good : sound store ≡ pass → Good
  unfolding sound
  sound_good e = go form again many refl refl refl e
    where
      go : (a b c : Bool) → form ≡ a → again ≡ b → many ≡ c → guard (not a) 21 0 ▷ guard b 22 0 ▷ guard c 23 0 ≡ pass → Good
      go true true c p q r h = never_refused h
      go true false true p q r h = never_refused h
      go true false false p q r h = record { formed = p; once = q; few = ltb-false most_dumps (length (dumps_of store)) r }
      go false b c p q r h = never_refused h

-- each refusal is one of the names
pub sound_named : (store : List ℕ) → Named (sound store)
unfolding sound
sound_named store =
    by_both _ _ (by_guard (not (well_formed at_start (records_of store))) Format 0)
    (by_both _ _ (by_guard (twice (numbers_of (dumps_of store))) Twice 0) (by_guard (ltb most_dumps (length (dumps_of store))) Full 0))

pub check_named : (store : List ℕ) → Named (check_store store)
check_named store = by_both _ _ (sound_named store) accepted

-- the refusal in place of a value that is not there
pub ok_or_err : {A : Type 0} {r : Option A} {x y : Refusal} → r ≡ None → Err x ≡ ok_or r y → x ≡ y
ok_or_err {A} {r} {x} {y} n e = let k : ◌≡◌ {A = Result A Refusal} (Err x) (Err y) = e ∙ ap (λ (o : Option A). ok_or o y) n in cc

-- ---- the answer, and the places

pub check_refused : (store : List ℕ) {number : ℕ} → sound store ≡ refused number 0 → check_store store ≡ refused number 0
check_refused store e = rw e

pub check_passed : (store : List ℕ) {count : ℕ} → sound store ≡ pass → count ≡ length (dumps_of store) → gives count ≡ check_store store
check_passed store e q = rw (e, q)

pub indexes_refused : {store places : List ℕ} {r : (Result ℕ Fault)} {number : ℕ} → answer_of r ≡ refused number 0 → sound store ≡ refused number 0 → Indexes store r places
indexes_refused {store} m e =
    record { checks = m ∙ sym (check_refused store e); notes = λ count q. never_refused (sym m ∙ ap answer_of q) }

pub indexes_passed : {store places : List ℕ} {count : ℕ} → sound store ≡ pass → count ≡ length (dumps_of store)
    → (count ≤ length places → Noted store (take count places)) → Indexes store (Ok count) places
indexes_passed {store} {places} {count} e q n =
    record {
      checks = check_passed store e q;
      notes = λ count' r k. let same : count ≡ count' = cc in rw same at (n (omega (arith, same, k)));
    }

-- ---- what an index says

-- so many dumps stand at the first so many places
pub record Indexed (store places : List ℕ) (count : ℕ) : Type 0 where
  pub passes : sound store ≡ pass
  pub inside : count ≤ length places
  pub noted : Noted store (take count places)
  pub long : length (take count places) ≡ count
  pub few : count ≤ most_dumps

module _ {store places : List ℕ} {r : (Result ℕ Fault)} (i : Indexes store r places) where
  pub index_given : most_dumps ≤ length places → {count : ℕ} → r ≡ Ok count → Indexed store places count
  index_given h {count} e =
      let p = given_passes (sound store) (sym i.checks ∙ ap answer_of e) in
      let k : count ≤ length places = omega (arith, h, p.1, (sound_good store p.0).few) in
      record {
        passes = p.0;
        inside = k;
        noted = i.notes count e k;
        long = length-take-le count places k;
        few = omega (arith, p.1, (sound_good store p.0).few);
      }

  pub index_refused : {fault : Fault} → r ≡ Err fault → sound store ≡ refused (number_of fault.refusal) fault.place
  index_refused e = refused_by (sound store) (length (dumps_of store)) (sym i.checks ∙ ap answer_of e)

-- as many places as dumps
pub noted_count : (store places : List ℕ) → Noted store places → length places ≡ length (dumps_of store)
noted_count store places n = sym (ap (λ (ds : List Dump). length ds) n.dumps ∙ length-map places (dump_at store))
