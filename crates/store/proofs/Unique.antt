-- Any two outcomes that the promise of the check allows are equal. Assumes nothing.
use mathlib.Core.Path.{sym, ◌∙◌}
use Rattle.refusal.specs.Tight.{FixesResult}
use Rattle.refusal.proofs.Laws.{answer_once}
use Rattle.store.proofs.check.Kinds as check-kinds
use Rattle.store.proofs.check.Reads as check

check_unique : FixesResult 1 check-kinds.ps check-kinds.r check.Post
check_unique κs a x y s t p q = answer_once x y (p ∙ sym q)
