-- Any two outcomes that the promise allows are equal: the answer and the text after. Assumes nothing.
use Rattle.refusal.specs.Tight.{FixesOutcome}
use Rattle.refusal.proofs.Laws.{answer_once}
use Rattle.refusal.proofs.Tight.{both_fixed}
use Rattle.listing.proofs.list.Kinds as list-kinds
use Rattle.listing.proofs.list.Reads as list
use Rattle.listing.proofs.refuse.Kinds as refuse-kinds
use Rattle.listing.proofs.refuse.Reads as refuse
use Rattle.refusal.specs.Meaning.{answer_of}

list_unique : FixesOutcome 2 list-kinds.ps list-kinds.r list.Post (λ κs s. s.1.0.now)
list_unique κs a x y s t p q = both_fixed answer_of answer_once p q

refuse_unique : FixesOutcome 1 refuse-kinds.ps refuse-kinds.r refuse.Post (λ κs s. s.1.0.now)
refuse_unique κs a x y s t p q = both_fixed answer_of answer_once p q
