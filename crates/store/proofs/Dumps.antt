-- The dumps from a place of the store on. Assumes nothing.
use mathlib.Core.Path.{◌≡◌, refl, sym, ap, ◌∙◌}
use mathlib.Core.Bool.{Bool, true, false, cond, ◌||◌}
use mathlib.Core.List.{List, [], ◌∷◌}
use Prim.Native.Nat.{ℕ, ◌+◌, ◌≤◌, ◌<◌}
use native.Mathlib.Omega.{arith}
use lib.Dec.{eqb}
use lib.ListN.{length, get_or}
use borrow.Author.Tests.{eqb-true}
use Rattle.ump.specs.Word.{pair_at}
use Rattle.store.specs.Store.{is_whole, is_dump, Record, Dump, whole, delta, dump_number, dump_of, dumps_in}
use Rattle.store.specs.Places.{record_at, next_at, records_from, dumps_from, dump_at}
use Rattle.store.proofs.Records.{not_both, data_low, records_end, records_step, body_pair}

-- what holds of all four kinds of a dump
pub dump_kinds : (P : ℕ → Type 0) → P 0x01 → P 0x11 → P 0x02 → P 0x12 → (k : ℕ) → is_dump k ≡ true → P k
dump_kinds P w x d y k e = go (eqb k 1) (eqb k 17) (eqb k 2) (eqb k 18) refl refl refl refl e
  where
    go : (a b c d : Bool) → eqb k 1 ≡ a → eqb k 17 ≡ b → eqb k 2 ≡ c → eqb k 18 ≡ d → ((a || b) || (c || d)) ≡ true → P k
    go true b c e p q r s h = rw (eqb-true k 1 p) w
    go false true c e p q r s h = rw (eqb-true k 17 q) x
    go false false true e p q r s h = rw (eqb-true k 2 r) d
    go false false false true p q r s h = rw (eqb-true k 18 s) y
    go false false false false p q r s h = not_both h refl

-- they are no data
pub dump_small : (k : ℕ) → is_dump k ≡ true → k < 19
dump_small k e = dump_kinds (λ n. n < 19) (omega arith) (omega arith) (omega arith) (omega arith) k e

-- the number of the dump that a record begins
pub dump-number : (r : Record) (rs : List Record) → dump_number (dump_of r rs) ≡ pair_at r.body 0
unfolding dump_of
dump-number r rs = go (is_whole r.kind) (whole _ _ _ _) (delta _ _ _) refl refl
  where
    go : (b : Bool) (c d : Dump) {n : ℕ} → dump_number c ≡ n → dump_number d ≡ n → dump_number (cond b c d) ≡ n
    go true c d p q = p
    go false c d p q = q

pub dumps_end : (store : List ℕ) (at : ℕ) → length store ≤ at → dumps_from store at ≡ []
unfolding dumps_in
dumps_end store at h = rw (records_end store at h)

-- the number of a dump's record
pub number-body : (store : List ℕ) (at : ℕ) → is_dump (get_or store at 0) ≡ true → pair_at (record_at store at).body 0 ≡ pair_at store (at + 1)
number-body store at d =
    let k = get_or store at 0 in
    let q : at + 1 + 0 ≡ at + 1 = omega arith in
    body_pair store at 0 (sym (data_low k (omega (arith, dump_small k d)))) (omega arith) ∙ ap (pair_at store) q

module _ (store : List ℕ) (at : ℕ) (h : at < length store) where
  pub dumps_here : is_dump (get_or store at 0) ≡ true → dumps_from store at ≡ dump_at store at ∷ dumps_from store (next_at store at)
  unfolding dumps_in
  dumps_here d = rw (records_step store at h, d)

  pub dumps_past : is_dump (get_or store at 0) ≡ false → dumps_from store at ≡ dumps_from store (next_at store at)
  unfolding dumps_in
  dumps_past d = rw (records_step store at h, d)

  pub number_here : is_dump (get_or store at 0) ≡ true → dump_number (dump_at store at) ≡ pair_at store (at + 1)
  number_here d = dump-number (record_at store at) (records_from store (next_at store at)) ∙ number-body store at d
