-- What is taken out of a line fits the room lent for it.
-- Assumes nothing.
use Rattle.recorded_lines.specs.declared.Record.{Record}
use Rattle.std.specs.Prelude.{Option, Some, None, ℕ, ◌≤◌}

-- a record has no more words, bytes, numbers and numbers of the answer than these
abbrev pub RecordFits : (Option Record) → ℕ → ℕ → ℕ → ℕ → Type 0
RecordFits (Some r) words bytes numbers answer =
    (r.words ≤ words) × (r.bytes ≤ bytes) × (r.numbers ≤ numbers) × (r.answer ≤ answer)
RecordFits None words bytes numbers answer = Unit
