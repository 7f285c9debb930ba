-- Wrong answers that the promise shuts out, each on P5's message, which carries A0 A1 A2 in three packets. Assumes nothing.
use Rattle.std.specs.Prelude.{Result, Ok, Err}
use Rattle.refusal.specs.declared.Fault.{Fault}
use mathlib.Core.Path.{◌≡◌}
use mathlib.Core.Bool.{not}
use mathlib.Core.List.{List, [], ◌∷◌}
use Prim.Native.Nat.{ℕ}
use lib.Dec.{T, eqb}
use Rattle.refusal.specs.Answer.{Verdict}
use Rattle.refusal.specs.declared.Refusal.TheVariants as refusal
use Rattle.refusal.specs.Tight as tight
use Rattle.refusal.proofs.Tight.{differ, told}
use Rattle.ump.specs.Word.{octets}
use Rattle.ump.specs.Packet.{sysex8, size_of, payload_at, joined, payload}
use Rattle.ump.specs.Packing.{status_for}
use Rattle.ump.specs.Check.{first_where, bad_type, bad_status, bad_count, bad_group, bad_id, status_number, check_packets, check}
use Rattle.ump.specs.Samples.{message5}
use Rattle.carries.specs.Carries as definition
use Rattle.carries.proofs.Calls.{ask_given}
use Rattle.carries.proofs.carries.Kinds as carries-kinds
use Rattle.carries.proofs.carries.Reads as carries
use Rattle.refusal.specs.Meaning.{answer_of}

abbrev Shut : List ℕ → ℕ → ℕ → (Result (Unit {0}) Fault) → Type 0
Shut bytes group id wrong =
    tight.ShutOut 2 carries-kinds.ps carries-kinds.r carries.Post (λ κs a x s. ask_given message5 12 bytes group (id ∷ []) κs a × (x ≡ wrong))

abbrev value : Verdict → ℕ
value = told (λ v. 0)

-- an answer other than the definition's
answer_wrong : (bytes : List ℕ) (group id : ℕ) (wrong : (Result (Unit {0}) Fault))
    → T (not (eqb (value (answer_of wrong)) (value (definition.carries sysex8 message5 12 bytes group (id ∷ []))))) → Shut bytes group id wrong
answer_wrong bytes group id wrong t κs a x s w p = let g = w.0 in differ value t (rw (g.0, g.1, g.2, g.3, g.4, w.1) at p)

abbrev other : ℕ → (Result (Unit {0}) Fault)
other place = Err (record { refusal = refusal.Other; place = place })

-- always no (refuses), always yes (takes); the packet named by its number (number), by the first of all (first_of_all), the empty packet
-- between (empty); a payload that is only begun (begun); sizes told at the last packet (sizes); the payload before the group (group); a
-- group above 15 as another one (field); the stream id not looked at (id)
record Shuts : Type 0 where
  refuses : Shut (0xA0 ∷ 0xA1 ∷ 0xA2 ∷ []) 1 5 (other 0)
  takes : Shut (0xA0 ∷ 0xA1 ∷ 0xB2 ∷ []) 1 5 (Ok tt)
  number : Shut (0xA0 ∷ 0xA1 ∷ 0xB2 ∷ []) 1 5 (other 2)
  first_of_all : Shut (0xA0 ∷ 0xA1 ∷ 0xB2 ∷ []) 1 5 (other 0)
  empty : Shut (0xA0 ∷ 0xA1 ∷ 0xB2 ∷ []) 1 5 (other 4)
  begun : Shut (0xA0 ∷ 0xA1 ∷ []) 1 5 (Ok tt)
  sizes : Shut (0xA0 ∷ 0xA1 ∷ []) 1 5 (other 8)
  group : Shut (0xA0 ∷ 0xA1 ∷ 0xB2 ∷ []) 2 5 (other 8)
  field : Shut (0xA0 ∷ 0xA1 ∷ 0xA2 ∷ []) 17 5 (other 0)
  id : Shut (0xA0 ∷ 0xA1 ∷ 0xA2 ∷ []) 1 0xA0 (Ok tt)

shuts : Shuts
unfolding definition.carries definition.other_bytes check check_packets bad_type bad_status bad_count bad_group bad_id status_number first_where status_for payload payload_at size_of octets joined
shuts =
    record {
      refuses = answer_wrong _ _ _ _ tt;
      takes = answer_wrong _ _ _ _ tt;
      number = answer_wrong _ _ _ _ tt;
      first_of_all = answer_wrong _ _ _ _ tt;
      empty = answer_wrong _ _ _ _ tt;
      begun = answer_wrong _ _ _ _ tt;
      sizes = answer_wrong _ _ _ _ tt;
      group = answer_wrong _ _ _ _ tt;
      field = answer_wrong _ _ _ _ tt;
      id = answer_wrong _ _ _ _ tt;
    }
