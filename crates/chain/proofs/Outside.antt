-- Edits that are reversed or past a payload. Assumes nothing.
use mathlib.Core.Path.{◌≡◌, refl, ap}
use mathlib.Core.Bool.{Bool, true, false, ◌&&◌, ◌||◌}
use mathlib.Core.List.{List}
use Prim.Native.Nat.{ℕ, ◌+◌, ◌<◌}
use lib.Dec.{ltb}
use lib.ListN.{length, get_or}
use Rattle.ump.specs.Word.{pair_at}
use Rattle.store.specs.Store.{is_edit, is_data, patches_in}
use Rattle.store.specs.Places.{next_at, records_from}
use Rattle.store.proofs.Records.{not_both}
use Rattle.store.proofs.Parts.{kind_inside, patches_data, patches_edit, patches_stop}
use Rattle.chain.specs.Restore.{outside}
use Rattle.chain.specs.Laying.{bad_edit_at}

or_cases : (b c : Bool) → (b || c) ≡ true → (b ≡ false → c ≡ true)
or_cases true c h e = not_both refl e
or_cases false c h e = h

pub or_false : (b c : Bool) → (b || c) ≡ false → (b ≡ false) × (c ≡ false)
or_false true c h = not_both refl h
or_false false c h = (refl, h)

abbrev pub is_part : ℕ → Bool
is_part kind = is_edit kind || is_data kind

pub part_inside : (store : List ℕ) (at : ℕ) → is_part (get_or store at 0) ≡ true → at < length store
unfolding is_data
part_inside store at e = kind_inside is_part refl store at e

module _ (store : List ℕ) (at n : ℕ) where
  pub out_bad : bad_edit_at store at n ≡ true → true ≡ outside n (patches_in (records_from store at))
  unfolding outside
  out_bad e = go (is_edit (get_or store at 0)) refl e
    where
      go : (b : Bool) → is_edit (get_or store at 0) ≡ b → (b && (ltb (pair_at store (at + 3)) (pair_at store (at + 1)) || ltb n (pair_at store (at + 3)))) ≡ true
          → true ≡ outside n (patches_in (records_from store at))
      go true p h = rw (patches_edit store at p, h)
      go false p h = not_both h refl

  pub out_past : is_part (get_or store at 0) ≡ true → bad_edit_at store at n ≡ false
      → outside n (patches_in (records_from store at)) ≡ outside n (patches_in (records_from store (next_at store at)))
  unfolding outside
  out_past q e = go (is_edit (get_or store at 0)) refl e
    where
      go : (b : Bool) → is_edit (get_or store at 0) ≡ b → (b && (ltb (pair_at store (at + 3)) (pair_at store (at + 1)) || ltb n (pair_at store (at + 3)))) ≡ false
          → outside n (patches_in (records_from store at)) ≡ outside n (patches_in (records_from store (next_at store at)))
      go true p h = rw (patches_edit store at p, h)
      go false p h = ap (outside n) (patches_data store at (or_cases _ _ q p))

  pub out_stop : is_part (get_or store at 0) ≡ false → false ≡ outside n (patches_in (records_from store at))
  unfolding outside
  out_stop q = let e = or_false (is_edit (get_or store at 0)) (is_data (get_or store at 0)) q in rw (patches_stop store at e.0 e.1)
