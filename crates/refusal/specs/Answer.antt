-- What a call answers: its values, or a refusal by document 01's number and a place.
-- Assumes nothing.
use Rattle.std.specs.Prelude.{Bool, true, false, ℕ}

pub data Answer (A : Type 0) : Type 0 where
  gives : A → Answer A
  refused : ℕ → ℕ → Answer A

-- the answer of a check: it passes, or refuses
abbrev pub Verdict : Type 0
Verdict = Answer (Unit {0})

abbrev pub pass : Verdict
pass = gives tt

-- one check after the other: the first refusal is the answer
infixr 40 ◌▷◌
abbrev pub ◌▷◌ : {A : Type 0} → Verdict → Answer A → Answer A
◌▷◌ (gives u) answer = answer
◌▷◌ (refused number place) answer = refused number place

-- refused with this number and place if the test holds
abbrev pub guard : Bool → ℕ → ℕ → Verdict
guard true number place = refused number place
guard false number place = pass

-- what an answer says apart from its values
abbrev pub verdict : {A : Type 0} → Answer A → Verdict
verdict (gives value) = pass
verdict (refused number place) = refused number place

-- what an answer says, its value read by f
abbrev pub map_answer : {A B : Type 0} → (A → B) → Answer A → Answer B
map_answer f (gives value) = gives (f value)
map_answer f (refused number place) = refused number place

-- a call that writes what its answer says: the answer, its value read so, and what is lent (a list, or several) as it is after the call;
-- a refusal leaves that as it was before
abbrev pub writes_as : {A B Lent : Type 0} → Answer A → Lent → (A → B) → (A → Lent) → Answer B × Lent
writes_as (gives value) before read after = (gives (read value), after value)
writes_as (refused number place) before read after = (refused number place, before)

-- the same, where a check decides: one value, and one state after
abbrev pub writes : {A Lent : Type 0} → Verdict → Lent → A → Lent → Answer A × Lent
writes check before value after = writes_as check before (λ u. value) (λ u. after)
