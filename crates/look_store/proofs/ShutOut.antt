-- Wrong outcomes of `byte` that its promise shuts out, each on a concrete store. Assumes nothing.
use Rattle.std.specs.Prelude.{Result, Ok, Err}
use mathlib.Core.Path.{◌≡◌}
use mathlib.Core.List.{List, ◌++◌}
use Prim.Native.Nat.{ℕ}
use Rattle.refusal.specs.declared.Refusal.{Refusal}
use Rattle.refusal.specs.declared.Refusal.TheVariants.{Range, Ring}
use Rattle.refusal.specs.declared.Fault.{Fault}
use Rattle.refusal.specs.Tight.{ShutOut}
use Rattle.refusal.proofs.Laws.{never_both, never_refused}
use Rattle.refusal.proofs.Tight.{differ, told}
use Rattle.ump.specs.Packet.{joined}
use Rattle.ump.specs.Edits.{replaced}
use Rattle.store.specs.Store.{is_data, body_size, records_after, follows_by, allowed_by, well_formed, data_in, patches_in, dump_of, dumps_in, held, twice, sound}
use Rattle.store.specs.Samples.{one, two, bare, edit}
use Rattle.chain.specs.Restore.{roomed, outside, rebuilt, restored}
use Rattle.look_store.specs.Byte.{byte_of_dump}
use Rattle.look_store.proofs.byte.Kinds as byte-kinds
use Rattle.look_store.proofs.byte.Reads as byte
use Rattle.refusal.specs.Meaning.{answer_of}

-- `byte` answers this of this store, number and position
abbrev Wrong : List ℕ → ℕ → ℕ → (Result ℕ Fault) → Type 0
Wrong store number position answer =
    ShutOut 1 byte-kinds.ps byte-kinds.r byte.Post
    (λ κs a x s. (a.0.now ≡ store) × (a.1.0 ≡ number) × (a.1.1.0 ≡ position) × (x ≡ answer))

wrong : {store : List ℕ} {number position : ℕ} {answer : (Result ℕ Fault)} → (answer_of answer ≡ byte_of_dump store number position → ⊥)
    → Wrong store number position answer
wrong h κs a x s w p = h (rw (w.0, w.1, w.2, w.3) at p)

abbrev refuse : Refusal → (Result ℕ Fault)
refuse name = Err (record { refusal = name; place = 0 })

-- The base's byte where the delta has an edit (base); the base's byte at the same position behind a range that was taken out (end); a
-- zero where the data goes on in a second record (record_two); a byte for the position behind the last (behind), for a ring (ring), or of a
-- delta that has an edit past its base (edits); Range for the position before Missing (missing); a refusal of a good one (good), or of one
-- with a ring beside it (beside).
record Outcomes : Type 0 where
  base : Wrong (two ++ one) 2 1 (Ok 0x42)
  end : Wrong (one ++ (bare 2 1 ++ edit 0 1)) 2 0 (Ok 0x41)
  record_two : Wrong one 1 1 (Ok 0)
  behind : (value : ℕ) → Wrong (two ++ one) 2 3 (Ok value)
  ring : (value : ℕ) → Wrong (bare 3 3) 3 0 (Ok value)
  edits : (value : ℕ) → Wrong (one ++ (bare 2 1 ++ edit 2 3)) 2 0 (Ok value)
  missing : Wrong two 2 9 (refuse Range)
  good : (fault : Fault) → Wrong (two ++ one) 2 2 (Err fault)
  beside : Wrong (one ++ bare 3 3) 1 0 (refuse Ring)

shut_out : Outcomes
unfolding byte_of_dump is_data body_size records_after follows_by allowed_by well_formed data_in patches_in dump_of dumps_in held twice sound roomed outside rebuilt restored joined replaced
shut_out =
    record {
      base = wrong (differ (told (λ (n : ℕ). n)) tt);
      end = wrong (differ (told (λ (n : ℕ). n)) tt);
      record_two = wrong (differ (told (λ (n : ℕ). n)) tt);
      behind = λ value. wrong never_both;
      ring = λ value. wrong never_both;
      edits = λ value. wrong never_both;
      missing = wrong (differ (told (λ (n : ℕ). n)) tt);
      good = λ fault. wrong never_refused;
      beside = wrong (differ (told (λ (n : ℕ). n)) tt);
    }
