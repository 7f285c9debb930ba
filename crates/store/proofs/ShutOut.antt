-- Wrong outcomes of the check that its promise shuts out, each on a concrete store. Assumes nothing.
use Rattle.std.specs.Prelude.{Result, Ok, Err}
use Rattle.refusal.specs.declared.Fault.{Fault}
use mathlib.Core.Path.{◌≡◌}
use mathlib.Core.List.{List, [], ◌∷◌, ◌++◌}
use Prim.Native.Nat.{ℕ}
use Rattle.refusal.specs.declared.Refusal.{Refusal}
use Rattle.refusal.specs.declared.Refusal.TheVariants.{Format, Twice}
use Rattle.refusal.specs.Tight.{ShutOut}
use Rattle.refusal.proofs.Tight.{differ, told}
use Rattle.store.specs.Store.{is_data, body_size, records_after, follows_by, allowed_by, well_formed, data_in, patches_in, dump_of, dumps_in, twice, sound}
use Rattle.store.specs.Samples.{one, two, bare, edit}
use Rattle.store.proofs.check.Kinds as check-kinds
use Rattle.store.proofs.check.Reads as check

-- the check answers this of this store
abbrev Wrong : List ℕ → (Result ℕ Fault) → Type 0
Wrong store answer = ShutOut 1 check-kinds.ps check-kinds.r check.Post (λ κs a x s. (a.0.now ≡ store) × (x ≡ answer))

abbrev refuse : Refusal → (Result ℕ Fault)
refuse name = Err (record { refusal = name; place = 0 })

-- Records counted, not dumps (records); a number used again let pass (again), or looked at before the form of the whole store (early); a base
-- behind its delta refused (behind), and a reversed edit (reversed); the empty store refused (empty).
record Outcomes : Type 0 where
  records : Wrong (two ++ one) (Ok 6)
  again : Wrong (one ++ bare 1 1) (Ok 2)
  early : Wrong (one ++ (bare 1 1 ++ (0x04 ∷ []))) (refuse Twice)
  behind : Wrong (two ++ one) (refuse Format)
  reversed : Wrong (one ++ (bare 2 1 ++ edit 2 1)) (refuse Format)
  empty : Wrong [] (refuse Format)

shut_out : Outcomes
unfolding is_data body_size records_after follows_by allowed_by well_formed data_in patches_in dump_of dumps_in twice sound
shut_out =
    record {
      records = λ κs a x s w p. differ (told (λ (n : ℕ). n)) tt (rw (w.0, w.1) at p);
      again = λ κs a x s w p. differ (told (λ (n : ℕ). n)) tt (rw (w.0, w.1) at p);
      early = λ κs a x s w p. differ (told (λ (n : ℕ). n)) tt (rw (w.0, w.1) at p);
      behind = λ κs a x s w p. differ (told (λ (n : ℕ). n)) tt (rw (w.0, w.1) at p);
      reversed = λ κs a x s w p. differ (told (λ (n : ℕ). n)) tt (rw (w.0, w.1) at p);
      empty = λ κs a x s w p. differ (told (λ (n : ℕ). n)) tt (rw (w.0, w.1) at p);
    }
