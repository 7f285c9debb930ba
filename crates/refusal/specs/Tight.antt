-- What it is for a promise to be tight: any two outcomes that it allows are equal, and a wrong one is shut out; and a call with any
-- outcome that its promise allows. Definitions alone.
-- Assumes nothing.
use Rattle.std.specs.Prelude.{◌≡◌, List, ℕ}
use contract.Lifetimes.{Lfts}
use Rattle.std.specs.Borrow.{Bor, MutBor}
use denote.Triple.Clauses.{AtExit}
use borrow.Fn.Kinds.{Out, ParamKind, ResultKind, Dens, res_t, ended_of}
use Rattle.refusal.specs.Answer.{Answer}

-- ---- two outcomes are equal

-- of a function that writes nothing: its result is fixed
abbrev pub FixesResult : (n : ℕ) (ps : List (ParamKind n)) (r : ResultKind n) → Out n ps r → Type 0
FixesResult n ps r P =
    (κs : Lfts n) (a : Dens κs ps) (x y : (res_t r κs).Denot) (s t : AtExit (ended_of n ps r) κs) → P κs a x s → P κs a y t → x ≡ y

-- of a function that writes: its result, and what is lent as it is after the call
abbrev pub FixesOutcome : {Lent : Type 0} (n : ℕ) (ps : List (ParamKind n)) (r : ResultKind n) → Out n ps r → ((κs : Lfts n) → AtExit (ended_of n ps r) κs → Lent) → Type 0
FixesOutcome n ps r P lent =
    (κs : Lfts n) (a : Dens κs ps) (x y : (res_t r κs).Denot) (s t : AtExit (ended_of n ps r) κs) → P κs a x s → P κs a y t
    → (x ≡ y) × (lent κs s ≡ lent κs t)

-- ---- a wrong outcome is shut out

-- a promise allows no such answer at such arguments, with such words after
abbrev pub ShutOut : (n : ℕ) (ps : List (ParamKind n)) (r : ResultKind n) → Out n ps r
    → ((κs : Lfts n) → Dens κs ps → (res_t r κs).Denot → AtExit (ended_of n ps r) κs → Type 0) → Type 0
ShutOut n ps r P Wrong = (κs : Lfts n) (a : Dens κs ps) (x : (res_t r κs).Denot) (s : AtExit (ended_of n ps r) κs) → Wrong κs a x s → P κs a x s → ⊥

-- the same of a call that takes values alone: no such answer to these arguments
abbrev pub Shuts : {Lifetimes A X : Type 0} {S : Lifetimes → Type 0} → ((κs : Lifetimes) → A → X → S κs → Type 0) → A → X → Type 0
Shuts {Lifetimes = Lifetimes} {S = S} P a x = (κs : Lifetimes) (s : S κs) → P κs a x s → ⊥

-- ---- a call

-- A function with this promise is called with arguments that are such, its answer is read so, and what is lent is such after it.
pub record Called {A : Type 0} (n : ℕ) (ps : List (ParamKind n)) (r : ResultKind n) (Promise : Out n ps r) (Given : (κs : Lfts n) → Dens κs ps → Type 0)
    (read : (κs : Lfts n) → (res_t r κs).Denot → Answer A) (Left : (κs : Lfts n) → AtExit (ended_of n ps r) κs → Type 0) (answer : Answer A) : Type 0 where
  pub lifetimes : Lfts n
  pub arguments : Dens lifetimes ps
  pub said : (res_t r lifetimes).Denot
  pub exit : AtExit (ended_of n ps r) lifetimes
  pub promise : Promise lifetimes arguments said exit
  pub given : Given lifetimes arguments
  pub answer_is : read lifetimes said ≡ answer
  pub left : Left lifetimes exit

-- a list that is lent, at some place of memory
abbrev pub lent : List ℕ → Bor (List ℕ)
lent list = record { ref_ptr = (0, 0); now = list }

-- the same of a list that is lent to be written
abbrev pub lent_mut : List ℕ → MutBor (List ℕ)
lent_mut list = record { ref_ptr = (0, 0); ghost_name = 0; now = list }

-- a call that has an outcome, so that nothing is said of none
pub record HasAnswer {A : Type 0} (Call : Answer A → Type 0) : Type 0 where
  pub answer : Answer A
  pub call : Call answer
