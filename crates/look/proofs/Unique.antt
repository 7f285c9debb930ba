-- Any two outcomes that a promise allows are equal. Of a part lent that is where it stands and its bytes: the ghost name of a
-- reference is not of the program. Assumes nothing.
use Rattle.refusal.specs.declared.Fault.{Fault}
use Rattle.std.specs.Prelude.{Result, Ok, Err}
use mathlib.Core.Path.{◌≡◌, refl, sym, ap, ◌∙◌}
use Prim.Native.Nat.{ℕ, zero, suc}
use contract.Lifetimes.{Lfts}
use denote.Triple.Clauses.{AtExit}
use borrow.Fn.Kinds.{Dens, res_t, ended_of}
use Rattle.refusal.specs.Answer.{Answer, gives, refused}
use Rattle.refusal.specs.Tight.{FixesResult}
use Rattle.refusal.proofs.Laws.{fault_back, fault-back, answer_once}
use Rattle.refusal.proofs.Tight.{once}
use Rattle.ump.specs.Runs.{Run, of_dump, of_edit, past}
use Rattle.ump.specs.Edits.{Edit}
use Rattle.look.specs.Look as definition
use Rattle.look.specs.Meaning.{run_meaning}
use Rattle.look.specs.declared.Part.{Part}
use Rattle.look.specs.declared.Found.{Found}
use Rattle.look.specs.declared.Found.TheVariants as found
use Rattle.look.proofs.Finding.{find_cases}
use Rattle.look.proofs.find.Kinds as find-kinds
use Rattle.look.proofs.find.Reads as find
use Rattle.look.proofs.run.Kinds as run-kinds
use Rattle.look.proofs.run.Reads as run
use Rattle.look.proofs.list.byte.Kinds as byte-kinds
use Rattle.look.proofs.list.byte.Reads as byte
use Rattle.look.proofs.list.byte_of_message.Kinds as message-kinds
use Rattle.look.proofs.list.byte_of_message.Reads as message

-- ---- an answer is fixed by what it means

abbrev part : ℕ → ℕ → Part
part start end = record { start = start; end = end }

abbrev pub found_back : Answer Run → Result Found Fault
found_back (gives (of_dump zero start end)) = Ok (found.Before (part start end))
found_back (gives (of_dump (suc k) start end)) = Ok (found.Behind (part start end))
found_back (gives (of_edit k start end)) = Ok (found.Within (part start end))
found_back (gives past) = Ok (found.Before (part 0 0))
found_back (refused number place) = Err (fault_back number place)

found_back_lem : (x : Result Found Fault) → found_back (run_meaning x) ≡ x
found_back_lem (Ok (found.Before part)) = refl
found_back_lem (Ok (found.Within part)) = refl
found_back_lem (Ok (found.Behind part)) = refl
found_back_lem (Err fault) = ap Err (fault-back fault)

pub found_once : (x y : Result Found Fault) → run_meaning x ≡ run_meaning y → x ≡ y
found_once = once run_meaning found_back found_back_lem

-- and each answer of the definition is the meaning of one
pub found_meant : (n : ℕ) (e : Edit) (i : ℕ) → run_meaning (found_back (definition.find n e i)) ≡ definition.find n e i
found_meant = find_cases (λ answer. run_meaning (found_back answer) ≡ answer) refl (λ start end. refl) (λ start end. refl) (λ start end. refl)

-- ---- the promises

find_unique : FixesResult 0 find-kinds.ps find-kinds.r find.Post
find_unique κs a x y s t p q = found_once x y (p ∙ sym q)

run_unique : (κs : Lfts 1) (a : Dens κs run-kinds.ps) (x y : (res_t run-kinds.r κs).Denot) (s t : AtExit (ended_of 1 run-kinds.ps run-kinds.r) κs)
    → run.Post κs a x s → run.Post κs a y t → (x.ref_ptr ≡ y.ref_ptr) × (x.now ≡ y.now)
run_unique κs a x y s t p q = (ap (λ o. o.0) (p ∙ sym q), ap (λ o. o.1) (p ∙ sym q))

byte_unique : FixesResult 3 byte-kinds.ps byte-kinds.r byte.Post
byte_unique κs a x y s t p q = answer_once x y (p ∙ sym q)

message_unique : FixesResult 3 message-kinds.ps message-kinds.r message.Post
message_unique κs a x y s t p q = answer_once x y (p ∙ sym q)
