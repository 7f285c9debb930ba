-- Any two outcomes that the promise allows are equal: the answer, and all lent words after the call. Assumes nothing.
use Rattle.refusal.specs.Tight.{FixesOutcome}
use Rattle.refusal.proofs.Laws.{answer_once}
use Rattle.refusal.proofs.Tight.{both_fixed}
use Rattle.stream.proofs.to_sysex7.Kinds as kinds
use Rattle.stream.proofs.to_sysex7.Reads as stream
use Rattle.refusal.specs.Meaning.{answer_of}

stream_unique : FixesOutcome 2 kinds.ps kinds.r stream.Post (λ κs s. s.1.1.0.now)
stream_unique κs a x y s t p q = both_fixed answer_of answer_once p q
