-- The limits of document 01: how many words are lent at most, and how many bytes a message in them carries.
-- Assumes nothing.
use Rattle.std.specs.Prelude.{ℕ, ◌*◌, ◌/◌, ◌≤◌}
use Rattle.ump.specs.Packet.{Shape}

-- lent word buffers hold at most so many words
abbrev pub most_words : ℕ
most_words = 16384

-- a SysEx8 message in them carries at most so many bytes; no number within an edit is above it
abbrev pub most_bytes : ℕ
most_bytes = 53248

-- how many bytes whole packets in so many words can carry
abbrev pub capacity : Shape → ℕ → ℕ
capacity shape words = words / shape.words * shape.room

-- a shape of which no message in the words that may be lent carries more bytes than that (SysEx8 and SysEx7 are such)
abbrev pub Dense : Shape → Type 0
Dense shape = capacity shape most_words ≤ most_bytes
