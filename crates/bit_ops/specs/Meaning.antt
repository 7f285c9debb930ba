-- What the answers of the calls on word fields mean: document 01's number and place, or the value.
-- Assumes nothing.
use Rattle.refusal.specs.declared.Fault.{Fault}
use Rattle.std.specs.Prelude.{Result, Bool, true, false, ℕ}
use Rattle.refusal.specs.Answer.{Answer, map_answer}
use Rattle.refusal.specs.Meaning.{answer_of}

-- a bit as a number
abbrev pub bit_number : Bool → ℕ
bit_number true = 1
bit_number false = 0

abbrev pub bit_meaning : Result Bool Fault → Answer ℕ
bit_meaning answer = map_answer bit_number (answer_of answer)
