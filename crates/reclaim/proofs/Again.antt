-- A number that is freed may be used again (02, T-13). Assumes nothing.
use Rattle.std.specs.Prelude.{Some}
use mathlib.Core.Path.{◌≡◌, refl, sym, ap, ◌∙◌}
use mathlib.Core.Bool.{Bool, true, false, cond, ◌||◌}
use Rattle.std.specs.Option.{option_or}
use mathlib.Core.List.{List, [], ◌∷◌, ◌++◌, map-append}
use Prim.Native.Nat.{ℕ, suc, ◌≤◌, ◌<◌}
use native.Mathlib.Omega.{arith}
use lib.Dec.{eqb}
use lib.ListN.{length, length-append}
use borrow.Author.Tests.{eqb-true, eq-eqb, le-ltb}
use Rattle.refusal.specs.Answer.{gives, refused, pass}
use Rattle.ump.specs.Edits.{elem}
use Rattle.store.specs.Store.{records_of, at_start, well_formed, Dump, dump_number, dumps_of, held, numbers_of, twice, most_dumps, sound, check_store}
use Rattle.store.proofs.Records.{not_both}
use Rattle.store.proofs.Entering.{twice_again, twice_new}
use Rattle.store.proofs.Checks.{sound_twice, sound_pass, sound_good, check_refused, check_passed}
use Rattle.reclaim.proofs.Bytes.{dumps-append, formed_append}
use Rattle.reclaim.proofs.Kept.{kept_dumps, elem_kept, length_kept, held-freed, kept_store, kept-dumps, kept_sound}

-- ---- dumps behind others

pub held-append : (ds es : List Dump) (n : ℕ) → held (ds ++ es) n ≡ option_or (held ds n) (held es n)
unfolding held
held-append [] es n = refl
held-append (d ∷ ds) es n = go (held-append ds es n) (eqb n (dump_number d))
  where
    go : held (ds ++ es) n ≡ option_or (held ds n) (held es n) → (b : Bool)
        → cond b (Some d) (held (ds ++ es) n) ≡ option_or (cond b (Some d) (held ds n)) (held es n)
    go more true = refl
    go more false = more

-- one is freed at least
fewer_kept : (keep : ℕ → Bool) (n : ℕ) → keep n ≡ false → (ds : List Dump) → elem n (numbers_of ds) ≡ true → length (kept_dumps keep ds) < length ds
unfolding kept_dumps
fewer_kept keep n k [] e = not_both e refl
fewer_kept keep n k (d ∷ ds) e = go (fewer_kept keep n k ds) (length_kept keep ds) (eqb n (dump_number d)) refl (keep (dump_number d)) refl e
  where
    go : (elem n (numbers_of ds) ≡ true → length (kept_dumps keep ds) < length ds) → length (kept_dumps keep ds) ≤ length ds
        → (b : Bool) → eqb n (dump_number d) ≡ b → (c : Bool) → keep (dump_number d) ≡ c → (b || elem n (numbers_of ds)) ≡ true
        → length (cond c (d ∷ kept_dumps keep ds) (kept_dumps keep ds)) < suc (length ds)
    go more few b p false q h = omega (arith, few)
    go more few true p true q h = not_both q (ap keep (sym (eqb-true n (dump_number d) p)) ∙ k)
    go more few false p true q h = omega (arith, more h)

-- ---- the store, with one more dump of a number that is freed

module _ (store more : List ℕ) (s : sound store ≡ pass) (f : well_formed at_start (records_of more) ≡ true)
    {d : Dump} (one : dumps_of more ≡ d ∷ []) (e : elem (dump_number d) (numbers_of (dumps_of store)) ≡ true) where
  before_twice : sound (store ++ more) ≡ refused 22 0
  before_twice =
      let g = sound_good store s in
      let all = dumps-append at_start store more g.formed f ∙ ap (λ (ds : List Dump). dumps_of store ++ ds) one in
      sound_twice (store ++ more) (formed_append at_start store more g.formed f)
      (ap (λ (ds : List Dump). twice (numbers_of ds)) all
      ∙ ap twice (map-append dump_number (dumps_of store) (d ∷ [])) ∙ twice_again (numbers_of (dumps_of store)) (dump_number d) [] e)

  pub again_before : check_store (store ++ more) ≡ refused 22 0
  again_before = check_refused (store ++ more) before_twice

  module _ (keep : ℕ → Bool) (k : keep (dump_number d) ≡ false) where
    abbrev left : List ℕ
    left = kept_store keep store

    left_sound : sound left ≡ pass
    left_sound = kept_sound keep store s

    all_dumps : dumps_of (left ++ more) ≡ dumps_of left ++ d ∷ []
    all_dumps = dumps-append at_start left more (sound_good left left_sound).formed f ∙ ap (λ (ds : List Dump). dumps_of left ++ ds) one

    count : length (dumps_of (left ++ more)) ≡ suc (length (dumps_of left))
    count = ap (λ (ds : List Dump). length ds) all_dumps ∙ length-append (dumps_of left) (d ∷ []) ∙ omega arith

    new : elem (dump_number d) (numbers_of (dumps_of left)) ≡ false
    new = rw (kept-dumps keep store s, elem_kept keep (dump_number d) (dumps_of store), k)

    again_sound : sound (left ++ more) ≡ pass
    again_sound =
        let g = sound_good left left_sound in
        let few = ap (λ (ds : List Dump). length ds) (kept-dumps keep store s) in
        sound_pass (left ++ more) (formed_append at_start left more g.formed f)
        (ap (λ (ds : List Dump). twice (numbers_of ds)) all_dumps
        ∙ ap twice (map-append dump_number (dumps_of left) (d ∷ [])) ∙ twice_new (numbers_of (dumps_of left)) (dump_number d) g.once new)
        (le-ltb most_dumps (length (dumps_of (left ++ more)))
        (omega (arith, count, few, fewer_kept keep (dump_number d) k (dumps_of store) e, (sound_good store s).few)))

    pub again_after : check_store (left ++ more) ≡ gives (suc (length (dumps_of left)))
    again_after = sym (check_passed (left ++ more) again_sound (sym count))

    pub again_held : held (dumps_of (left ++ more)) (dump_number d) ≡ Some d
    unfolding held
    again_held =
        let none-held = ap (λ (ds : List Dump). held ds (dump_number d)) (kept-dumps keep store s) ∙ held-freed keep (dump_number d) k (dumps_of store) in
        ap (λ (ds : List Dump). held ds (dump_number d)) all_dumps ∙ held-append (dumps_of left) (d ∷ []) (dump_number d)
        ∙ rw (none-held, eq-eqb (dump_number d) (dump_number d) refl)
