-- The numbers of the dumps and of the wanted ones, record by record. Assumes nothing.
use mathlib.Core.Path.{◌≡◌, refl, sym, ◌∙◌}
use mathlib.Core.Bool.{Bool, true, false, cond, ◌&&◌, ◌||◌}
use mathlib.Core.List.{List, [], ◌∷◌}
use Prim.Native.Nat.{ℕ}
use lib.Dec.{eqb}
use borrow.Author.Tests.{eq-eqb}
use Rattle.ump.specs.Edits.{elem}
use Rattle.ump.proofs.Replace.{or_right_true}
use Rattle.store.specs.Store.{is_wanted, is_dump, Record, dump_number, dump_of, dumps_in, numbers_of, twice}
use Rattle.store.proofs.Records.{not_both}
use Rattle.store.proofs.Dumps.{dump-number}
use Rattle.reclaim.specs.Reclaim.{record_number, wanted_in}

module _ (r : Record) (rs : List Record) where
  pub number_elem : (m : ℕ) → elem m (numbers_of (dumps_in (r ∷ rs))) ≡ ((is_dump r.kind && eqb m (record_number r)) || elem m (numbers_of (dumps_in rs)))
  unfolding dumps_in
  number_elem m = rw (← dump-number r rs) (go (is_dump r.kind))
    where
      go : (b : Bool) → elem m (numbers_of (cond b (dump_of r rs ∷ dumps_in rs) (dumps_in rs))) ≡ ((b && eqb m (dump_number (dump_of r rs))) || elem m (numbers_of (dumps_in rs)))
      go true = refl
      go false = refl

  pub number-twice : twice (numbers_of (dumps_in (r ∷ rs))) ≡ ((is_dump r.kind && elem (record_number r) (numbers_of (dumps_in rs))) || twice (numbers_of (dumps_in rs)))
  unfolding dumps_in twice
  number-twice = rw (← dump-number r rs) (go (is_dump r.kind))
    where
      go : (b : Bool) → twice (numbers_of (cond b (dump_of r rs ∷ dumps_in rs) (dumps_in rs))) ≡ ((b && elem (dump_number (dump_of r rs)) (numbers_of (dumps_in rs))) || twice (numbers_of (dumps_in rs)))
      go true = refl
      go false = refl

  pub wanted_elem : (m : ℕ) → elem m (wanted_in (r ∷ rs)) ≡ ((is_wanted r.kind && eqb m (record_number r)) || elem m (wanted_in rs))
  unfolding wanted_in
  wanted_elem m = go (is_wanted r.kind)
    where
      go : (b : Bool) → elem m (cond b (record_number r ∷ wanted_in rs) (wanted_in rs)) ≡ ((b && eqb m (record_number r)) || elem m (wanted_in rs))
      go true = refl
      go false = refl

  pub number_first : is_dump r.kind ≡ true → elem (record_number r) (numbers_of (dumps_in (r ∷ rs))) ≡ true
  number_first d = rw (number_elem (record_number r), d, eq-eqb (record_number r) (record_number r) refl)

  pub number_later : (m : ℕ) → elem m (numbers_of (dumps_in rs)) ≡ true → elem m (numbers_of (dumps_in (r ∷ rs))) ≡ true
  number_later m e = rw (number_elem m, e) (or_right_true (is_dump r.kind && eqb m (record_number r)) true refl)

  pub wanted_first : is_wanted r.kind ≡ true → elem (record_number r) (wanted_in (r ∷ rs)) ≡ true
  wanted_first d = rw (wanted_elem (record_number r), d, eq-eqb (record_number r) (record_number r) refl)

  pub wanted_later : (m : ℕ) → elem m (wanted_in rs) ≡ true → elem m (wanted_in (r ∷ rs)) ≡ true
  wanted_later m e = rw (wanted_elem m, e) (or_right_true (is_wanted r.kind && eqb m (record_number r)) true refl)

pub wanted_dump : (k : ℕ) → is_wanted k ≡ true → is_dump k ≡ true
wanted_dump k e = go (eqb k 1) (eqb k 17) (eqb k 2) (eqb k 18) e
  where
    go : (a b c d : Bool) → (a || c) ≡ true → ((a || b) || (c || d)) ≡ true
    go true b c d h = refl
    go false true c d h = refl
    go false false true d h = refl
    go false false false d h = not_both h refl

-- a wanted dump is one of the dumps
pub wanted_held : (m : ℕ) (rs : List Record) → elem m (wanted_in rs) ≡ true → elem m (numbers_of (dumps_in rs)) ≡ true
unfolding wanted_in
wanted_held m [] e = not_both e refl
wanted_held m (r ∷ rs) e =
    number_elem r rs m
    ∙ go (elem m (wanted_in rs)) (is_wanted r.kind) (eqb m (record_number r)) (is_dump r.kind) (wanted_held m rs) (wanted_dump r.kind)
    (sym (wanted_elem r rs m) ∙ e)
  where
    go : (b w a d : Bool) {c : Bool} → (b ≡ true → c ≡ true) → (w ≡ true → d ≡ true) → ((w && a) || b) ≡ true → ((d && a) || c) ≡ true
    go true w a d p q h = rw (p refl) (or_right_true (d && a) true refl)
    go false true true d p q h = rw (q refl)
    go false true false d p q h = not_both h refl
    go false false a d p q h = not_both h refl
