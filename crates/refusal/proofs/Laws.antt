-- No two refusals share a number, and an answer is fixed by what it means. Assumes nothing.
use Rattle.std.specs.Prelude.{Result, Ok, Err}
use mathlib.Core.Path.{◌≡◌, refl, sym, ap, ◌∙◌}
use mathlib.Core.Bool.{Bool, true, false}
use Prim.Native.Nat.{ℕ, zero, suc, ◌<◌}
use native.Mathlib.Omega.{arith}
use Rattle.refusal.specs.Answer.{Answer, gives, refused, Verdict, pass, ◌▷◌, guard, writes_as, writes}
use Rattle.refusal.specs.Meaning.{answer_of}
use Rattle.refusal.specs.Number.{number_of, name_of, Named, accepted, named}
use Rattle.refusal.specs.declared.Refusal.{Refusal}
use Rattle.refusal.specs.declared.Refusal.TheVariants.{Long, Length, Short, Ragged, «Type», Complete, Begin, Continue, End, Count, Group, Stream, Range, Room, Status, Field, Frame, Byte, Overlap, Format, Twice, Full, Missing, Ring, Other, Port, Closed, Share}
use Rattle.refusal.specs.declared.Fault.{Fault}
use Rattle.refusal.proofs.Tight.{once}

-- ---- the numbers

pub name_of_number : (r : Refusal) → name_of (number_of r) ≡ r
name_of_number Long = refl
name_of_number Length = refl
name_of_number Short = refl
name_of_number Ragged = refl
name_of_number «Type» = refl
name_of_number Complete = refl
name_of_number Begin = refl
name_of_number Continue = refl
name_of_number End = refl
name_of_number Count = refl
name_of_number Group = refl
name_of_number Stream = refl
name_of_number Range = refl
name_of_number Room = refl
name_of_number Status = refl
name_of_number Field = refl
name_of_number Frame = refl
name_of_number Byte = refl
name_of_number Overlap = refl
name_of_number Format = refl
name_of_number Twice = refl
name_of_number Full = refl
name_of_number Missing = refl
name_of_number Ring = refl
name_of_number Other = refl
name_of_number Port = refl
name_of_number Closed = refl
name_of_number Share = refl

pub number_once : (r s : Refusal) → number_of r ≡ number_of s → r ≡ s
number_once r s e = sym (name_of_number r) ∙ ap name_of e ∙ name_of_number s

-- a number that no name has is the number of no refusal
unused : (n : ℕ) → (number_of (name_of n) ≡ n → ⊥) → (r : Refusal) → number_of r ≡ n → ⊥
unused n nameless r e = nameless (ap number_of (ap name_of (sym e) ∙ name_of_number r) ∙ e)

-- none is 0, which says "accepted" in a struct
pub number_some : (r : Refusal) → 0 < number_of r
number_some r = some (number_of r) (unused 0 (λ e. omega arith) r)
  where
    some : (n : ℕ) → (n ≡ 0 → ⊥) → 0 < n
    some zero h = absurd (h refl)
    some (suc n) h = omega arith

-- none is 19, which T-12 took out
pub not_nineteen : (r : Refusal) → number_of r ≡ 19 → ⊥
not_nineteen = unused 19 (λ e. omega arith)

-- ---- answers

-- no answer both gives and refuses
pub never_both : {A B : Type 0} {a : A} {n p : ℕ} → gives a ≡ refused n p → B
never_both e = let z : ◌≡◌ {A = ℕ} 0 1 = cc in absurd (omega arith)

pub never_refused : {A B : Type 0} {a : A} {n p : ℕ} → refused n p ≡ gives a → B
never_refused e = never_both (sym e)

-- the fault of a number and place
abbrev pub fault_back : ℕ → ℕ → Fault
fault_back number place = record { refusal = name_of number; place = place }

pub fault-back : (f : Fault) → fault_back (number_of f.refusal) f.place ≡ f
fault-back f = ap (λ (r : Refusal). record { refusal = r; place = f.place }) (name_of_number f.refusal)

-- the call that says so, where a name has the number
abbrev pub answer_back : {A : Type 0} → Answer A → Result A Fault
answer_back (gives value) = Ok value
answer_back (refused number place) = Err (fault_back number place)

answer-back : {A : Type 0} (x : Result A Fault) → answer_back (answer_of x) ≡ x
answer-back (Ok value) = refl
answer-back (Err fault) = ap Err (fault-back fault)

pub answer_once : {A : Type 0} (x y : Result A Fault) → answer_of x ≡ answer_of y → x ≡ y
answer_once = once answer_of answer_back answer-back

pub answer_meant : {A : Type 0} (answer : Answer A) → Named answer → answer_of (answer_back answer) ≡ answer
answer_meant (gives value) h = refl
answer_meant (refused number place) (named r) = ap (λ (n : Refusal). refused (number_of n) place) (name_of_number r)

-- ---- answers whose refusals have names

-- and so none is 19
pub never_nineteen : {A : Type 0} {answer : Answer A} → Named answer → (place : ℕ) → answer ≡ refused 19 place → ⊥
never_nineteen accepted place e = never_both e
never_nineteen (named r) place e = not_nineteen r cc

pub by_guard : (b : Bool) (r : Refusal) (place : ℕ) → Named (guard b (number_of r) place)
by_guard true r place = named r
by_guard false r place = accepted

pub by_both : {A : Type 0} (v : Verdict) (answer : Answer A) → Named v → Named answer → Named (v ▷ answer)
by_both (gives u) answer h k = k
by_both (refused number place) answer (named r) k = named r

-- ---- a value after a check

pub guard_passed : (b : Bool) (number place : ℕ) → guard b number place ≡ pass → b ≡ false
guard_passed true number place e = never_refused e
guard_passed false number place e = refl

pub pass_both : {A : Type 0} (v : Verdict) (answer : Answer A) {value : A} → v ▷ answer ≡ gives value → (v ≡ pass) × (answer ≡ gives value)
pass_both (gives u) answer e = (refl, e)
pass_both (refused number place) answer e = never_refused e

pub given_passes : {A : Type 0} (v : Verdict) {a b : A} → v ▷ gives a ≡ gives b → (v ≡ pass) × (a ≡ b)
given_passes v {a} e = let g = pass_both v (gives a) e in (g.0, let h = g.1 in cc)

pub refused_by : {A : Type 0} (v : Verdict) (a : A) {n p : ℕ} → v ▷ gives a ≡ refused n p → v ≡ refused n p
refused_by (gives u) a e = never_both e
refused_by (refused m q) a e = cc

-- ---- a call that writes

pub writes_named : {A B Lent : Type 0} (answer : Answer A) (before : Lent) (read : A → B) (after : A → Lent) → Named answer
    → Named (writes_as answer before read after).0
writes_named (gives value) before read after h = accepted
writes_named (refused number place) before read after (named r) = named r

pub writes_given : {A Lent : Type 0} (v : Verdict) (before after : Lent) (value : A) {x : A} {left : Lent} → writes v before value after ≡ (gives x, left)
    → (v ≡ pass) × (value ≡ x) × (after ≡ left)
writes_given (gives u) before after value e = (refl, cc (ap (λ o. o.0) e), ap (λ o. o.1) e)
writes_given (refused number place) before after value e = never_refused (ap (λ o. o.0) e)

-- what is lent stays where it is refused
pub writes_refused : {A B Lent : Type 0} (answer : Answer A) (before : Lent) (read : A → B) (after : A → Lent) {number place : ℕ} {left : Lent}
    → writes_as answer before read after ≡ (refused number place, left) → (answer ≡ refused number place) × (left ≡ before)
writes_refused (gives value) before read after e = never_both (ap (λ o. o.0) e)
writes_refused (refused n p) before read after e = (let k = ap (λ o. o.0) e in cc, sym (ap (λ o. o.1) e))
