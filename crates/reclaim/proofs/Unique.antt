-- Any two outcomes that the promises of `mark` and `collect` allow are equal: the answer, and the whole store. Assumes nothing.
use mathlib.Core.Bool.{not}
use mathlib.Core.List.{List}
use Prim.Native.Nat.{ℕ}
use Rattle.refusal.specs.Number.{Named}
use Rattle.refusal.specs.declared.Refusal.TheVariants.{Missing}
use Rattle.refusal.specs.Tight.{FixesOutcome}
use Rattle.refusal.proofs.Laws.{by_guard, by_both, writes_named, answer_once}
use Rattle.refusal.proofs.Tight.{both_fixed}
use Rattle.ump.specs.Edits.{elem}
use Rattle.store.specs.Store.{dumps_of, numbers_of}
use Rattle.store.proofs.Checks.{sound_named}
use Rattle.reclaim.specs.Reclaim as paper
use Rattle.reclaim.proofs.mark.Kinds as mark-kinds
use Rattle.reclaim.proofs.mark.Reads as mark
use Rattle.reclaim.proofs.collect.Kinds as collect-kinds
use Rattle.reclaim.proofs.collect.Reads as collect
use Rattle.refusal.specs.Meaning.{answer_of}

mark_unique : FixesOutcome 1 mark-kinds.ps mark-kinds.r mark.Post (λ κs s. s.0.now)
mark_unique κs a x y s t p q = both_fixed answer_of answer_once p q

collect_unique : FixesOutcome 1 collect-kinds.ps collect-kinds.r collect.Post (λ κs s. s.0.now)
collect_unique κs a x y s t p q = both_fixed answer_of answer_once p q

-- ---- each outcome whose refusals have names is the meaning of an answer

-- and each refusal is one of the names
module _ (store : List ℕ) where
  pub mark_named : (n : ℕ) → Named (paper.mark store n).0
  unfolding paper.mark
  mark_named n =
      writes_named _ store _ _ (by_both _ _ (sound_named store) (by_guard (not (elem n (numbers_of (dumps_of store)))) Missing 0))

  pub collect_named : Named (paper.collect store).0
  unfolding paper.collect
  collect_named = writes_named _ store _ _ (sound_named store)
