-- What program sx8restore writes: the octets of the restored words, or the line of the refusal.
-- Assumes nothing.
use Rattle.std.specs.Prelude.{cond, List, ℕ, ltb, length, take, replicate}
use Rattle.refusal.specs.Answer.{Answer, gives, refused}
use Rattle.ump.specs.Word.{octets}
use Rattle.ump.specs.Limits.{most_words}
use Rattle.listing.specs.Listing.{refusal_line}
use Rattle.chain.specs.Restore.{restore}

-- Long where the store has more than 1,048,576 bytes; else what restoring answers
unfoldable pub restore_limited : List ℕ → ℕ → List ℕ → Answer ℕ × List ℕ
restore_limited store number words = cond (ltb 1048576 (length store)) (refused 1 0, words) (restore store number words)

abbrev pub output_of : Answer ℕ × List ℕ → List ℕ
output_of (gives count, words) = octets (take count words)
output_of (refused number place, words) = refusal_line number place

-- what is written, with as many words lent to restoring as a message may have
unfoldable pub output : List ℕ → ℕ → List ℕ
output store number = output_of (restore_limited store number (replicate most_words 0))
