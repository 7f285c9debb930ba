-- A step, a cursor and an answer are fixed by what they mean. Assumes nothing.
use Rattle.std.specs.Prelude.{Result, Ok, Err, Option, Some, None}
use Rattle.reader.specs.declared.Cursor.{Cursor}
use Rattle.refusal.specs.declared.Fault.{Fault}
use mathlib.Core.Path.{◌≡◌, refl, ap, ap₂}
use Prim.Native.Nat.{ℕ}
use native.Mathlib.Omega.{arith}
use Rattle.refusal.specs.Answer.{Answer, gives, refused}
use Rattle.refusal.proofs.Laws.{fault_back, fault-back}
use Rattle.refusal.proofs.Tight.{once}
use Rattle.ump.specs.Reader as paper
use Rattle.reader.specs.Meaning.{step_meaning, read_meaning, open_meaning}
use Rattle.reader.specs.declared.Read.{Read}

pub step_once : (x y : (Option ℕ)) → step_meaning x ≡ step_meaning y → x ≡ y
step_once (Some a) (Some b) e = ap Some (cc)
step_once (Some a) None e = let z : ◌≡◌ {A = ℕ} 0 1 = cc in absurd (omega arith)
step_once None (Some b) e = let z : ◌≡◌ {A = ℕ} 0 1 = cc in absurd (omega arith)
step_once None None e = refl

pub read_once : (x y : Read) → read_meaning x ≡ read_meaning y → x ≡ y
read_once x y e =
    ap₂ (λ (s : (Option ℕ)) (c : paper.Cursor). record { step = s; cursor = record { packet = c.packet; byte = c.byte; remaining = c.remaining } })
    (step_once x.step y.step (ap (λ (r : paper.Read). r.step) e)) (ap (λ (r : paper.Read). r.cursor) e)

abbrev open_back : Answer paper.Cursor → (Result Cursor Fault)
open_back (gives c) = Ok (record { packet = c.packet; byte = c.byte; remaining = c.remaining })
open_back (refused number place) = Err (fault_back number place)

open-back : (x : (Result Cursor Fault)) → open_back (open_meaning x) ≡ x
open-back (Ok cursor) = refl
open-back (Err fault) = ap Err (fault-back fault)

pub open_once : (x y : (Result Cursor Fault)) → open_meaning x ≡ open_meaning y → x ≡ y
open_once = once open_meaning open_back open-back
