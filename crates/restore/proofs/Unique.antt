-- Any two outcomes that the promise of `restore` allows are equal: the answer, and all lent words. Assumes nothing.
use Rattle.refusal.specs.Tight.{FixesOutcome}
use Rattle.refusal.proofs.Laws.{answer_once}
use Rattle.refusal.proofs.Tight.{both_fixed}
use Rattle.restore.proofs.restore.Kinds as restore-kinds
use Rattle.restore.proofs.restore.Reads as restore
use Rattle.refusal.specs.Meaning.{answer_of}

restore_unique : FixesOutcome 2 restore-kinds.ps restore-kinds.r restore.Post (λ κs s. s.1.1.0.now)
restore_unique κs a x y s t p q = both_fixed answer_of answer_once p q
