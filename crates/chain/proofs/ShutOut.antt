-- Wrong outcomes of `describe` that its promise shuts out, each on a concrete store. Assumes nothing.
use Rattle.std.specs.Prelude.{Option, None, Some, Result, Ok, Err}
use Rattle.chain.specs.declared.Description.{Description}
use Rattle.refusal.specs.declared.Fault.{Fault}
use mathlib.Core.Path.{◌≡◌, refl}
use mathlib.Core.Bool.{Bool, false, not}
use lib.Dec.{T, eqb}
use mathlib.Core.List.{List, ◌++◌}
use Prim.Native.Nat.{ℕ, ◌+◌, ◌*◌}
use Rattle.refusal.specs.Answer.{Answer}
use Rattle.refusal.specs.declared.Refusal.{Refusal}
use Rattle.refusal.specs.declared.Refusal.TheVariants.{Room, Missing}
use Rattle.refusal.specs.Tight.{ShutOut}
use Rattle.refusal.proofs.Tight.{differ, told}
use Rattle.ump.specs.Packet.{joined}
use Rattle.ump.specs.Packing.{packets_for}
use Rattle.ump.specs.Edits.{replaced}
use Rattle.store.specs.Store.{is_data, body_size, records_after, follows_by, allowed_by, well_formed, data_in, patches_in, dump_of, dumps_in, held, twice, sound}
use Rattle.store.specs.Samples.{one, two, bare}
use Rattle.chain.specs.Restore as paper
use Rattle.chain.specs.Meaning.{described_meaning}
use Rattle.chain.specs.Samples.{shorter, three}
use Rattle.chain.specs.declared.Basis.{Basis}
use Rattle.chain.specs.declared.Basis.TheVariants as basis
use Rattle.chain.proofs.describe.Kinds as describe-kinds
use Rattle.chain.proofs.describe.Reads as describe

-- `describe` answers this of this store and number
abbrev Wrong : List ℕ → ℕ → (Result Description Fault) → Type 0
Wrong store number answer =
    ShutOut 1 describe-kinds.ps describe-kinds.r describe.Post (λ κs a x s. (a.0.now ≡ store) × (a.1.0 ≡ number) × (x ≡ answer))

abbrev dump : Basis → ℕ → ℕ → ℕ → ℕ → ℕ → (Result Description Fault)
dump b group id size words steps = Ok (record { basis = b; group = group; id = id; size = size; words = words; steps = steps })

abbrev refuse : Refusal → (Result Description Fault)
refuse name = Err (record { refusal = name; place = 0 })

-- a number of a description
abbrev base_number : Option ℕ → ℕ
base_number None = 0
base_number (Some base) = base + 1

abbrev tells : Answer paper.Description → ℕ
tells = told (λ (d : paper.Description). 100000 * base_number d.base + (10000 * d.group + (1000 * d.words + (100 * d.size + (10 * d.steps + d.id)))))

-- The words of the dump itself, where its base needs more (own); one step for two (step); the base of the base (base); the base's size (size);
-- a delta called whole (whole); another group (group); a ring called Missing (ring); Room (room).
record Outcomes : Type 0 where
  own : Wrong shorter 2 (dump (basis.Delta 1) 0 0 13 4 1)
  step : Wrong (three ++ (two ++ one)) 3 (dump (basis.Delta 2) 2 7 3 4 1)
  base : Wrong (three ++ (two ++ one)) 3 (dump (basis.Delta 1) 2 7 3 4 2)
  size : Wrong (two ++ one) 2 (dump (basis.Delta 1) 2 7 2 4 1)
  whole : Wrong (one ++ bare 9 1) 9 (dump basis.Whole 2 7 2 4 1)
  group : Wrong one 1 (dump basis.Whole 0 7 2 4 0)
  ring : Wrong (bare 3 3) 3 (refuse Missing)
  room : Wrong one 1 (refuse Room)

-- what is answered there is another
abbrev Others : List ℕ → ℕ → (Result Description Fault) → Type 0
Others store number answer = eqb (tells (described_meaning answer)) (tells (paper.describe store number)) ≡ false

own_other : Others shorter 2 (dump (basis.Delta 1) 0 0 13 4 1)
unfolding is_data body_size records_after follows_by allowed_by well_formed data_in patches_in dump_of dumps_in held twice sound paper.roomed paper.outside paper.rebuilt paper.restored paper.sizes paper.described paper.describe packets_for joined replaced
own_other = refl

step_other : Others (three ++ (two ++ one)) 3 (dump (basis.Delta 2) 2 7 3 4 1)
unfolding is_data body_size records_after follows_by allowed_by well_formed data_in patches_in dump_of dumps_in held twice sound paper.roomed paper.outside paper.rebuilt paper.restored paper.sizes paper.described paper.describe packets_for joined replaced
step_other = refl

base_other : Others (three ++ (two ++ one)) 3 (dump (basis.Delta 1) 2 7 3 4 2)
unfolding is_data body_size records_after follows_by allowed_by well_formed data_in patches_in dump_of dumps_in held twice sound paper.roomed paper.outside paper.rebuilt paper.restored paper.sizes paper.described paper.describe packets_for joined replaced
base_other = refl

size_other : Others (two ++ one) 2 (dump (basis.Delta 1) 2 7 2 4 1)
unfolding is_data body_size records_after follows_by allowed_by well_formed data_in patches_in dump_of dumps_in held twice sound paper.roomed paper.outside paper.rebuilt paper.restored paper.sizes paper.described paper.describe packets_for joined replaced
size_other = refl

whole_other : Others (one ++ bare 9 1) 9 (dump basis.Whole 2 7 2 4 1)
unfolding is_data body_size records_after follows_by allowed_by well_formed data_in patches_in dump_of dumps_in held twice sound paper.roomed paper.outside paper.rebuilt paper.restored paper.sizes paper.described paper.describe packets_for joined replaced
whole_other = refl

group_other : Others one 1 (dump basis.Whole 0 7 2 4 0)
unfolding is_data body_size records_after follows_by allowed_by well_formed data_in patches_in dump_of dumps_in held twice sound paper.roomed paper.outside paper.rebuilt paper.restored paper.sizes paper.described paper.describe packets_for joined replaced
group_other = refl

ring_other : Others (bare 3 3) 3 (refuse Missing)
unfolding is_data body_size records_after follows_by allowed_by well_formed data_in patches_in dump_of dumps_in held twice sound paper.roomed paper.outside paper.rebuilt paper.restored paper.sizes paper.described paper.describe packets_for joined replaced
ring_other = refl

room_other : Others one 1 (refuse Room)
unfolding is_data body_size records_after follows_by allowed_by well_formed data_in patches_in dump_of dumps_in held twice sound paper.roomed paper.outside paper.rebuilt paper.restored paper.sizes paper.described paper.describe packets_for joined replaced
room_other = refl

other : {b : Bool} → b ≡ false → T (not b)
other e = rw e tt

shut_out : Outcomes
shut_out =
    record {
      own = λ κs a x s w p. differ tells (other own_other) (rw (w.0, w.1, w.2) at p);
      step = λ κs a x s w p. differ tells (other step_other) (rw (w.0, w.1, w.2) at p);
      base = λ κs a x s w p. differ tells (other base_other) (rw (w.0, w.1, w.2) at p);
      size = λ κs a x s w p. differ tells (other size_other) (rw (w.0, w.1, w.2) at p);
      whole = λ κs a x s w p. differ tells (other whole_other) (rw (w.0, w.1, w.2) at p);
      group = λ κs a x s w p. differ tells (other group_other) (rw (w.0, w.1, w.2) at p);
      ring = λ κs a x s w p. differ tells (other ring_other) (rw (w.0, w.1, w.2) at p);
      room = λ κs a x s w p. differ tells (other room_other) (rw (w.0, w.1, w.2) at p);
    }
