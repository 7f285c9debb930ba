-- A reader that holds its words, as a cursor over them. Assumes nothing.
use Rattle.std.specs.Prelude.{List, ℕ}
use Rattle.std.specs.Borrow.{Bor}
use Rattle.ump.specs.Packet.{sysex8}
use Rattle.ump.specs.Reader.{Cursor, Step, nth}
use Rattle.reader.specs.declared.PayloadReader.{PayloadReader}

-- the reader over words at a cursor
abbrev pub reader_at : Bor (List ℕ) → Cursor → PayloadReader
reader_at words cursor =
    record { words = words; packet = cursor.packet; byte = cursor.byte; remaining = cursor.remaining }

abbrev pub cursor_of : PayloadReader → Cursor
cursor_of reader = record { packet = reader.packet; byte = reader.byte; remaining = reader.remaining }

-- the same words, at another cursor
abbrev pub moved_to : PayloadReader → Cursor → PayloadReader
moved_to reader cursor = reader_at reader.words cursor

-- what a reader answers that skips n bytes and reads one, and the reader after it
abbrev pub read_on : PayloadReader → ℕ → Step × PayloadReader
read_on reader n =
    let answer = nth sysex8 reader.words.now (cursor_of reader) n in
    (answer.step, moved_to reader answer.cursor)
