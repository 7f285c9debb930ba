-- Any two outcomes that the promise allows are equal. Assumes nothing.
use mathlib.Core.Path.{sym, ◌∙◌}
use Rattle.refusal.specs.Tight.{FixesResult}
use Rattle.refusal.proofs.Laws.{answer_once}
use Rattle.carries.proofs.carries.Kinds as carries-kinds
use Rattle.carries.proofs.carries.Reads as carries

carries_unique : FixesResult 2 carries-kinds.ps carries-kinds.r carries.Post
carries_unique κs a x y s t p q = answer_once x y (p ∙ sym q)
