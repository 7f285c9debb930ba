-- The structs that the exported calls answer: the number of the refusal, 0 if the call is accepted, its place, and the values, which
-- are 0 where it is refused.
-- Assumes nothing.
use Rattle.std.specs.Prelude.{Option, None, Some, Bool, true, false, List, ℕ, ◌*◌, ℤ, pos, get_or}
use Rattle.refusal.specs.Answer.{Answer, gives, refused, Verdict}
use Rattle.ump.specs.Single as single
use Rattle.ump.specs.Check.{Summary}
use Rattle.ump.specs.Splice.{Spliced}
use Rattle.ump.specs.Edits.{Range}
use Rattle.ump.specs.Runs.{Run, of_dump, of_edit, past}
use Rattle.ump.specs.Origin.{Origin, header_octet, carried, dump_byte, edit_byte, filler, zeroed, untouched}
use Rattle.ump.specs.Reader as paper
use Rattle.chain.specs.Restore.{Description}
use Rattle.ports.specs.Streams.{Reply, kept, dropped, handed_out}
use Rattle.answers.specs.declared.NumberAnswer.{NumberAnswer}
use Rattle.answers.specs.declared.PacketAnswer.{PacketAnswer}
use Rattle.answers.specs.declared.MessageAnswer.{MessageAnswer}
use Rattle.answers.specs.declared.ChangeAnswer.{ChangeAnswer}
use Rattle.answers.specs.declared.GrowthAnswer.{GrowthAnswer}
use Rattle.answers.specs.declared.RangeAnswer.{RangeAnswer}
use Rattle.answers.specs.declared.OriginAnswer.{OriginAnswer}
use Rattle.answers.specs.declared.RunAnswer.{RunAnswer}
use Rattle.answers.specs.declared.CursorAnswer.{CursorAnswer}
use Rattle.answers.specs.declared.ReadAnswer.{ReadAnswer}
use Rattle.answers.specs.declared.DumpAnswer.{DumpAnswer}
use Rattle.answers.specs.declared.ReceivedAnswer.{ReceivedAnswer}

-- a call that writes: the struct of its answer, and what is lent as it is after the call
abbrev pub leaving : {A B Lent : Type 0} → (A → B) → A × Lent → B × Lent
leaving struct (answer, after) = (struct answer, after)

abbrev pub number_answer : Answer ℕ → NumberAnswer
number_answer (gives value) = record { refusal = 0; place = 0; value = value }
number_answer (refused number place) = record { refusal = number; place = place; value = 0 }

-- a call that only stores, or only says yes, gives no value
abbrev pub done_answer : Verdict → NumberAnswer
done_answer (gives u) = record { refusal = 0; place = 0; value = 0 }
done_answer (refused number place) = record { refusal = number; place = place; value = 0 }

abbrev pub kind_code : single.Kind → ℕ
kind_code single.complete = 0
kind_code single.start = 1
kind_code single.continue = 2
kind_code single.end = 3
kind_code (single.unexpected_end true) = 4
kind_code (single.unexpected_end false) = 5

-- a stream id is 0 where there is none
abbrev pub id_number : List ℕ → ℕ
id_number id = get_or id 0 0

abbrev pub packet_answer : Answer single.Packet → PacketAnswer
packet_answer (gives p) =
    record { refusal = 0; place = 0; kind = kind_code p.kind; group = p.group; id = id_number p.id; size = p.size }
packet_answer (refused number place) = record { refusal = number; place = place; kind = 0; group = 0; id = 0; size = 0 }

abbrev pub message_answer : Answer Summary → MessageAnswer
message_answer (gives m) =
    record { refusal = 0; place = 0; group = m.group; id = id_number m.id; size = m.size; words = m.words }
message_answer (refused number place) = record { refusal = number; place = place; group = 0; id = 0; size = 0; words = 0 }

abbrev pub change_answer : Answer Spliced → ChangeAnswer
change_answer (gives change) = record { refusal = 0; place = 0; length = change.length; growth = change.growth }
change_answer (refused number place) = record { refusal = number; place = place; length = 0; growth = pos 0 }

abbrev pub growth_answer : Answer ℤ → GrowthAnswer
growth_answer (gives growth) = record { refusal = 0; place = 0; growth = growth }
growth_answer (refused number place) = record { refusal = number; place = place; growth = pos 0 }

abbrev pub range_answer : Answer Range → RangeAnswer
range_answer (gives range) = record { refusal = 0; place = 0; from = range.from; to = range.to }
range_answer (refused number place) = record { refusal = number; place = place; from = 0; to = 0 }

-- the kind of an origin, and its numbers
abbrev pub origin_struct : ℕ → ℕ → ℕ → OriginAnswer
origin_struct kind number index = record { refusal = 0; place = 0; kind = kind; number = number; index = index }

abbrev pub origin_answer : Answer Origin → OriginAnswer
origin_answer (gives (header_octet packet octet)) = origin_struct 0 packet octet
origin_answer (gives (carried (dump_byte byte))) = origin_struct 1 0 byte
origin_answer (gives (carried (edit_byte edit byte))) = origin_struct 2 edit byte
origin_answer (gives filler) = origin_struct 3 0 0
origin_answer (gives zeroed) = origin_struct 4 0 0
origin_answer (gives untouched) = origin_struct 5 0 0
origin_answer (refused number place) = record { refusal = number; place = place; kind = 0; number = 0; index = 0 }

-- a part of a source, by its number: the payload before the edit, the replacement, the payload behind the edit
abbrev pub run_struct : ℕ → ℕ → ℕ → RunAnswer
run_struct source start end = record { refusal = 0; place = 0; source = source; start = start; end = end }

abbrev pub run_answer : Answer Run → RunAnswer
run_answer (gives (of_dump k start end)) = run_struct (2 * k) start end
run_answer (gives (of_edit k start end)) = run_struct 1 start end
run_answer (gives past) = run_struct 0 0 0
run_answer (refused number place) = record { refusal = number; place = place; source = 0; start = 0; end = 0 }

abbrev pub cursor_answer : Answer paper.Cursor → CursorAnswer
cursor_answer (gives cursor) =
    record { refusal = 0; place = 0; packet = cursor.packet; byte = cursor.byte; remaining = cursor.remaining }
cursor_answer (refused number place) = record { refusal = number; place = place; packet = 0; byte = 0; remaining = 0 }

abbrev pub step_answer : paper.Step → paper.Cursor → ReadAnswer
step_answer (paper.byte value) cursor =
    record { ended = false; value = value; packet = cursor.packet; byte = cursor.byte; remaining = cursor.remaining }
step_answer paper.ended cursor =
    record { ended = true; value = 0; packet = cursor.packet; byte = cursor.byte; remaining = cursor.remaining }

abbrev pub read_answer : paper.Read → ReadAnswer
read_answer read = step_answer read.step read.cursor

-- whether a dump is a delta, and its base, 0 where it is whole
abbrev pub has_base : Option ℕ → Bool
has_base None = false
has_base (Some base) = true

abbrev pub base_number : Option ℕ → ℕ
base_number None = 0
base_number (Some base) = base

abbrev pub dump_answer : Answer Description → DumpAnswer
dump_answer (gives dump) =
    record {
      refusal = 0;
      place = 0;
      delta = has_base dump.base;
      group = dump.group;
      id = dump.id;
      base = base_number dump.base;
      size = dump.size;
      words = dump.words;
      steps = dump.steps;
    }
dump_answer (refused number place) =
    record { refusal = number; place = place; delta = false; group = 0; id = 0; base = 0; size = 0; words = 0; steps = 0 }

-- what a received packet did, by its number: it is kept, its stream is dropped, a message of so many words is handed out
abbrev pub received_struct : ℕ → ℕ → ReceivedAnswer
received_struct kind words = record { refusal = 0; place = 0; kind = kind; words = words }

abbrev pub received_answer : Answer Reply → ReceivedAnswer
received_answer (gives kept) = received_struct 0 0
received_answer (gives dropped) = received_struct 1 0
received_answer (gives (handed_out words)) = received_struct 2 words
received_answer (refused number place) = record { refusal = number; place = place; kind = 0; words = 0 }
