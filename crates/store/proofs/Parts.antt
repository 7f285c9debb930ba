-- Data and edits from a place of the store on. Assumes nothing.
use mathlib.Core.Path.{◌≡◌, refl, sym, ap, ◌∙◌}
use mathlib.Core.Bool.{Bool, true, false}
use mathlib.Core.List.{List, [], ◌∷◌, ◌++◌}
use Prim.Native.Nat.{ℕ, ◌+◌, ◌<◌}
use native.Mathlib.Omega.{arith}
use lib.Dec.{ltb}
use lib.ListN.{length, get_or, get_or-eq_default}
use borrow.Author.Tests.{ltb-true, ltb-false, eqb-true}
use Rattle.ump.specs.Word.{pair_at}
use Rattle.store.specs.Store.{is_edit, is_data, data_in, patches_in}
use Rattle.store.specs.Places.{record_at, next_at, records_from}
use Rattle.store.proofs.Records.{not_both, data_low, data_other, records_end, records_step, body_pair}

-- a test of a byte that was read
pub test_is : (f : ℕ → Bool) {r b : Bool} {k j : ℕ} → r ≡ f k → k ≡ j → r ≡ b → f j ≡ b
test_is f p q e = sym (ap f q) ∙ sym p ∙ e

-- behind the end stands a zero, which is no kind
pub kind_inside : (test : ℕ → Bool) → test 0 ≡ false → (store : List ℕ) (at : ℕ) → test (get_or store at 0) ≡ true → at < length store
kind_inside test z store at e = go (ltb at (length store)) refl
  where
    go : (b : Bool) → ltb at (length store) ≡ b → at < length store
    go true p = ltb-true at (length store) p
    go false p = not_both e (ap test (get_or-eq_default store 0 (ltb-false at (length store) p)) ∙ z)

pub data_inside : (store : List ℕ) (at : ℕ) → is_data (get_or store at 0) ≡ true → at < length store
unfolding is_data
data_inside store at e = kind_inside is_data refl store at e

pub edit_inside : (store : List ℕ) (at : ℕ) → is_edit (get_or store at 0) ≡ true → at < length store
edit_inside store at e = kind_inside is_edit refl store at e

pub edit_no_data : (k : ℕ) → is_edit k ≡ true → is_data k ≡ false
edit_no_data k e = let q = eqb-true k 3 e in sym (data_low k (omega arith))

module _ (store : List ℕ) (at : ℕ) where
  pub data_step : is_data (get_or store at 0) ≡ true → data_in (records_from store at) ≡ (record_at store at).body ++ data_in (records_from store (next_at store at))
  unfolding data_in
  data_step e = rw (records_step store at (data_inside store at e), e)

  pub data_stop : is_data (get_or store at 0) ≡ false → data_in (records_from store at) ≡ []
  unfolding data_in
  data_stop e = go (ltb at (length store)) refl
    where
      go : (b : Bool) → ltb at (length store) ≡ b → data_in (records_from store at) ≡ []
      go true p = rw (records_step store at (ltb-true at (length store) p), e)
      go false p = rw (records_end store at (ltb-false at (length store) p))

  pub patches_stop : is_edit (get_or store at 0) ≡ false → is_data (get_or store at 0) ≡ false → patches_in (records_from store at) ≡ []
  unfolding patches_in
  patches_stop e d = go (ltb at (length store)) refl
    where
      go : (b : Bool) → ltb at (length store) ≡ b → patches_in (records_from store at) ≡ []
      go true p = rw (records_step store at (ltb-true at (length store) p), e, d)
      go false p = rw (records_end store at (ltb-false at (length store) p))

  pub patches_data : is_data (get_or store at 0) ≡ true → patches_in (records_from store at) ≡ patches_in (records_from store (next_at store at))
  unfolding patches_in
  patches_data e = rw (records_step store at (data_inside store at e), e, (data_other _ e).1.1)

  pub patches_edit : is_edit (get_or store at 0) ≡ true → patches_in (records_from store at)
      ≡ record { from = pair_at store (at + 1); to = pair_at store (at + 3); bytes = data_in (records_from store (next_at store at)) } ∷ patches_in (records_from store (next_at store at))
  unfolding patches_in
  patches_edit e =
      let d = edit_no_data (get_or store at 0) e in
      let p : at + 1 + 0 ≡ at + 1 = omega arith in
      let q : at + 1 + 2 ≡ at + 3 = omega arith in
      rw (records_step store at (edit_inside store at e), e, body_pair store at 0 d (omega arith), body_pair store at 2 d (omega arith), p, q)
