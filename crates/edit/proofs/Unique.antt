-- Any two outcomes that a promise allows are equal: the answer, and all lent words after a call that writes. Assumes nothing.
use mathlib.Core.Path.{sym, ◌∙◌}
use Rattle.refusal.specs.Tight.{FixesResult, FixesOutcome}
use Rattle.refusal.proofs.Tight.{both_fixed}
use Rattle.splice.specs.Meaning.{spliced_meaning}
use Rattle.splice.proofs.Unique.{spliced_once}
use Rattle.edit.proofs.AnswersFixed.{moved_once, origin_once, placed_once}
use Rattle.edit.proofs.growth.Kinds as growth-kinds
use Rattle.edit.proofs.growth.Reads as growth
use Rattle.edit.proofs.move_edit.Kinds as move-kinds
use Rattle.edit.proofs.move_edit.Reads as move
use Rattle.edit.proofs.all.splice_all.Kinds as all_kinds
use Rattle.edit.proofs.all.splice_all.Reads as all
use Rattle.edit.proofs.origins.origin.Kinds as origin-kinds
use Rattle.edit.proofs.origins.origin.Reads as origin
use Rattle.edit.proofs.is_bad.Kinds as bad-kinds
use Rattle.edit.proofs.is_bad.Reads as bad
use Rattle.edit.proofs.placing.place.Kinds as place-kinds
use Rattle.edit.proofs.placing.place.Reads as place
use Rattle.refusal.proofs.Laws.{answer_once}

growth_unique : FixesResult 0 growth-kinds.ps growth-kinds.r growth.Post
growth_unique κs a x y s t p q = answer_once x y (p ∙ sym q)

move_unique : FixesResult 0 move-kinds.ps move-kinds.r move.Post
move_unique κs a x y s t p q = moved_once x y (p ∙ sym q)

all_unique : FixesOutcome 3 all_kinds.ps all_kinds.r all.Post (λ κs s. s.0.now)
all_unique κs a x y s t p q = both_fixed spliced_meaning spliced_once p q

origin_unique : FixesResult 3 origin-kinds.ps origin-kinds.r origin.Post
origin_unique κs a x y s t p q = origin_once x y (p ∙ sym q)

bad_unique : FixesResult 0 bad-kinds.ps bad-kinds.r bad.Post
bad_unique κs a x y s t p q = p ∙ sym q

place_unique : FixesResult 1 place-kinds.ps place-kinds.r place.Post
place_unique κs a x y s t p q = placed_once x y (p ∙ sym q)
