-- One step of the walk, by the place where a dump stands. Assumes nothing.
use Rattle.std.specs.Prelude.{None, Option, Some}
use mathlib.Core.Path.{◌≡◌, refl, sym, ap, ◌∙◌}
use mathlib.Core.Bool.{Bool, true, false}
use mathlib.Core.List.{List}
use Prim.Native.Nat.{ℕ, zero, suc, ◌+◌, ◌-◌, ◌<◌}
use native.Mathlib.Omega.{arith}
use lib.ListN.{length, get_or}
use Rattle.refusal.specs.Answer.{Answer, gives, refused}
use Rattle.ump.specs.Word.{pair_at}
use Rattle.store.specs.Store.{is_whole, is_dump, is_data, Dump, delta, dump_of, dumps_of, patches_in, held}
use Rattle.store.specs.Places.{record_at, next_at, records_from, dump_at}
use Rattle.store.specs.Meaning.{FoundDump, FoundInside}
use Rattle.store.proofs.Records.{data_low, body_byte, body_pair}
use Rattle.store.proofs.Dumps.{dump_small}
use Rattle.chain.specs.Walk.{base_of}
use Rattle.chain.specs.Restore.{Payload, roomed, rebuilt, restored_by, restored}
use Rattle.chain.specs.Laying.{whole_at}
use Rattle.chain.proofs.Walks.{rebuilt_refused}

-- ---- the walk

module _ (too_long : ℕ → Bool) (dumps : List Dump) where
  pub restored-none : (left n : ℕ) → left ≡ 0 → restored too_long dumps left n ≡ refused 25 0
  unfolding restored
  restored-none left n e = rw e

  pub restored-step : (left n : ℕ) → (left ≡ 0 → ⊥) → restored too_long dumps left n ≡ restored_by too_long (λ base. restored too_long dumps (left - 1) base) (held dumps n)
  unfolding restored
  restored-step zero n h = absurd (h refl)
  restored-step (suc left) n h = let q : suc left - 1 ≡ left = omega arith in rw q

pub whole_dump : (k : ℕ) → is_whole k ≡ true → is_dump k ≡ true
whole_dump k e = rw e

-- what stands at a place: a whole dump, or a delta
module _ (store : List ℕ) (at : ℕ) (d : is_dump (get_or store at 0) ≡ true) where
  kind : is_data (get_or store at 0) ≡ false
  kind = let k = get_or store at 0 in sym (data_low k (omega (arith, dump_small k d)))

  pub whole_here : (too_long : ℕ → Bool) (f : ℕ → Answer Payload) → is_whole (get_or store at 0) ≡ true → restored_by too_long f (Some (dump_at store at)) ≡ roomed too_long (whole_at store at)
  unfolding dump_of
  whole_here too_long f e = rw e

  pub delta_dump : is_whole (get_or store at 0) ≡ false
      → dump_at store at ≡ delta (pair_at (record_at store at).body 0) (pair_at store (at + 3)) (patches_in (records_from store (next_at store at)))
  unfolding dump_of
  delta_dump e =
      let q : at + 1 + 2 ≡ at + 3 = omega arith in
      rw (e, body_pair store at 2 kind (omega arith), q)

  pub delta-here : (too_long : ℕ → Bool) (f : ℕ → Answer Payload) → is_whole (get_or store at 0) ≡ false
      → restored_by too_long f (Some (dump_at store at)) ≡ rebuilt too_long (patches_in (records_from store (next_at store at))) (f (pair_at store (at + 3)))
  delta-here too_long f e = ap (λ (d : Dump). restored_by too_long f (Some d)) (delta_dump e)

  pub whole_base : is_whole (get_or store at 0) ≡ true → base_of (Some (dump_at store at)) ≡ None
  unfolding dump_of
  whole_base e = rw e

  pub delta_base : is_whole (get_or store at 0) ≡ false → base_of (Some (dump_at store at)) ≡ Some (pair_at store (at + 3))
  delta_base e = ap (λ (d : Dump). base_of (Some d)) (delta_dump e)

  pub group_here : get_or store (at + 3) 0 ≡ (whole_at store at).group
  group_here = let q : at + 1 + 2 ≡ at + 3 = omega arith in ap (λ (k : ℕ). get_or store k 0) (sym q) ∙ sym (body_byte store at 2 kind (omega arith))

  pub id_here : get_or store (at + 4) 0 ≡ (whole_at store at).id
  id_here = let q : at + 1 + 3 ≡ at + 4 = omega arith in ap (λ (k : ℕ). get_or store k 0) (sym q) ∙ sym (body_byte store at 3 kind (omega arith))

-- ---- one step of the walk

module _ (too_long : ℕ → Bool) (store : List ℕ) (left n : ℕ) (h : left ≡ 0 → ⊥) where
  abbrev dumps : List Dump
  dumps = dumps_of store

  pub step_missing : None ≡ held dumps n → restored too_long dumps left n ≡ refused 24 0
  step_missing q = restored-step too_long dumps left n h ∙ ap (restored_by too_long (λ base. restored too_long dumps (left - 1) base)) (sym q)

  module _ (at : ℕ) (d : is_dump (get_or store at 0) ≡ true) (q : Some (dump_at store at) ≡ held dumps n) where
    pub step_whole : is_whole (get_or store at 0) ≡ true → roomed too_long (whole_at store at) ≡ restored too_long dumps left n
    step_whole e =
        sym (whole_here store at d too_long (λ base. restored too_long dumps (left - 1) base) e)
        ∙ ap (restored_by too_long (λ base. restored too_long dumps (left - 1) base)) q
        ∙ sym (restored-step too_long dumps left n h)

    pub step_delta : is_whole (get_or store at 0) ≡ false
        → rebuilt too_long (patches_in (records_from store (next_at store at))) (restored too_long dumps (left - 1) (pair_at store (at + 3))) ≡ restored too_long dumps left n
    step_delta e =
        sym (delta-here store at d too_long (λ base. restored too_long dumps (left - 1) base) e)
        ∙ ap (restored_by too_long (λ base. restored too_long dumps (left - 1) base)) q
        ∙ sym (restored-step too_long dumps left n h)

    module _ (e : is_whole (get_or store at 0) ≡ false) {m : ℕ} (w : m ≡ pair_at store (at + 3)) where
      pub step_refused : {number place : ℕ} → restored too_long dumps (left - 1) m ≡ refused number place → restored too_long dumps left n ≡ refused number place
      step_refused r = sym (step_delta e) ∙ rebuilt_refused too_long (patches_in (records_from store (next_at store at))) (rw w at r)

      pub step_gives : {base : Payload} → restored too_long dumps (left - 1) m ≡ gives base
          → rebuilt too_long (patches_in (records_from store (next_at store at))) (gives base) ≡ restored too_long dumps left n
      step_gives g = ap (rebuilt too_long (patches_in (records_from store (next_at store at)))) (sym g ∙ ap (restored too_long dumps (left - 1)) w) ∙ step_delta e

-- what was found stands there
pub found_at : (store : List ℕ) {r : (Option ℕ)} {at : ℕ} → FoundDump store r → r ≡ Some at → (at < length store) × (is_dump (get_or store at 0) ≡ true)
found_at store l e = rw e at l

pub found_within : (store : List ℕ) {r : (Option ℕ)} {at : ℕ} → FoundInside store r → r ≡ Some at → at < length store
found_within store l e = rw e at l
