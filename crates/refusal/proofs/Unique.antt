-- Any two outcomes that the promise allows are equal, and wrong ones are shut out. Assumes nothing.
use mathlib.Core.Path.{sym, ◌∙◌}
use native.Mathlib.Omega.{arith}
use contract.Lifetimes.{Lfts}
use denote.Triple.Clauses.{AtExit}
use borrow.Fn.Kinds.{ended_of}
use Rattle.refusal.specs.declared.Refusal.{Refusal}
use Rattle.refusal.specs.declared.Refusal.TheVariants.{Long, Ring}
use Rattle.refusal.specs.Tight.{FixesResult}
use Rattle.refusal.proofs.Laws.{not_nineteen}
use Rattle.refusal.proofs.number.Kinds as number-kinds
use Rattle.refusal.proofs.number.Reads as number

number_unique : FixesResult 0 number-kinds.ps number-kinds.r number.Post
number_unique κs a x y s t p q = p ∙ sym q

-- counted from 0, and a number past the table
module _ (κs : Lfts 0) (s : AtExit (ended_of 0 number-kinds.ps number-kinds.r) κs) where
  not_from_zero : number.Post κs (Long, tt) 0 s → ⊥
  not_from_zero p = omega (arith, p)

  not_past_table : number.Post κs (Ring, tt) 26 s → ⊥
  not_past_table p = omega (arith, p)

  -- the number that T-12 took out, of any refusal
  not_nineteen_again : (refusal : Refusal) → number.Post κs (refusal, tt) 19 s → ⊥
  not_nineteen_again refusal p = not_nineteen refusal (sym p)
