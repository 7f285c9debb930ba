-- Any two outcomes that the promise allows are equal: the answer and the text after. Assumes nothing.
use Rattle.refusal.specs.Tight.{FixesOutcome}
use Rattle.refusal.proofs.Tight.{both_fixed}
use Rattle.restorer.proofs.output.write.Kinds as write-kinds
use Rattle.restorer.proofs.output.write.Reads as write
use Rattle.refusal.specs.Meaning.{answer_of}
use Rattle.refusal.proofs.Laws.{answer_once}

write_unique : FixesOutcome 2 write-kinds.ps write-kinds.r write.Post (λ κs s. s.1.1.0.now)
write_unique κs a x y s t p q = both_fixed answer_of answer_once p q
