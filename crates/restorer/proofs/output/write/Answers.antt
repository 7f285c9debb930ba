-- `restorer::output::write`: the line of a refusal, or the words' bytes. Assumes nothing.
use Rattle.std.proofs.Common.{sym}
use lib.Seq.{length-take-le}
use Rattle.restorer.proofs.Outputs.{within, output-words, output-line}
use Rattle.restorer.proofs.output.write.Goals as goal

-- a dump that is restored lies within the words
pub slice_bounds-words-end : goal.slice_bounds-words-end
slice_bounds-words-end c = within _ _ _ _ _ c.in-Ok.ensures

pub slice_bounds-hand_words-end : goal.slice_bounds-hand_words-end
slice_bounds-hand_words-end c = sym (length-take-le _ _ (within _ _ _ _ _ c.in-Ok.ensures))

pub returns-in-Err : goal.returns-in-Err
returns-in-Err c = rw (output-line _ _ c.in-Err.ensures) c.refuse.ensures

pub returns-in-Ok : goal.returns-in-Ok
returns-in-Ok c = rw (output-words _ _ c.in-Ok.ensures) c.hand_words.ensures
