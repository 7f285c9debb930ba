-- What is read fits its field, and an answer is fixed by what it means. Assumes nothing.
use Rattle.std.specs.Prelude.{Bool, Result, Ok, Err}
use Rattle.refusal.specs.declared.Fault.{Fault}
use mathlib.Core.Path.{◌≡◌, refl, sym, ap}
use mathlib.Core.Bool.{true, false, not}
use Prim.Native.Nat.{ℕ, zero, suc, ◌^◌, ◌<◌}
use native.Mathlib.Omega.{arith}
use lib.Dec.{eqb, leb}
use Rattle.refusal.specs.Answer.{Answer, gives, refused, guard}
use Rattle.refusal.proofs.Laws.{fault_back, fault-back, given_passes}
use Rattle.refusal.proofs.Tight.{once}
use Rattle.ump.specs.Word.{Field, shift, get_field}
use Rattle.ump.proofs.Fields.{part_lt}
use Rattle.bit_ops.specs.Meaning.{bit_number, bit_meaning}

-- what is read is below 2 to the width
pub got_lt : (field : Field) (x i : ℕ) {value : ℕ} → gives value ≡ get_field field x i → value < 2 ^ field.width
unfolding get_field
got_lt field x i e =
    let read = given_passes (guard (leb field.count i) 16 0) (sym e) in
    rw read.1 at (part_lt x (shift field i) field.width)

-- ---- answers

-- a number that is 0 or 1, tested
pub bit_tested : (n : ℕ) → n < 2 → bit_number (not (eqb n 0)) ≡ n
bit_tested zero h = refl
bit_tested (suc zero) h = refl
bit_tested (suc (suc n)) h = absurd (omega arith)

abbrev bit_back : Answer ℕ → (Result Bool Fault)
bit_back (gives zero) = Ok false
bit_back (gives (suc n)) = Ok true
bit_back (refused number place) = Err (fault_back number place)

bit-back : (x : (Result Bool Fault)) → bit_back (bit_meaning x) ≡ x
bit-back (Ok true) = refl
bit-back (Ok false) = refl
bit-back (Err fault) = ap Err (fault-back fault)

pub bit_once : (x y : (Result Bool Fault)) → bit_meaning x ≡ bit_meaning y → x ≡ y
bit_once = once bit_meaning bit_back bit-back
