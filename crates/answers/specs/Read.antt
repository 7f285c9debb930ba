-- How a caller reads the structs that the exported calls answer: refused where the number is not 0.
-- Assumes nothing.
use Rattle.std.specs.Prelude.{None, Some, cond, ℕ, eqb}
use Rattle.refusal.specs.Answer.{Answer, gives, refused, Verdict}
use Rattle.ump.specs.Splice.{Spliced}
use Rattle.ump.specs.Edits.{Range}
use Rattle.ump.specs.Runs.{Run, of_dump, of_edit}
use Rattle.ump.specs.Origin.{Origin, header_octet, carried, dump_byte, edit_byte, filler, zeroed, untouched}
use Rattle.chain.specs.Restore.{Description}
use Rattle.ports.specs.Streams.{Reply, kept, dropped, handed_out}
use Rattle.answers.specs.declared.NumberAnswer.{NumberAnswer}
use Rattle.answers.specs.declared.ChangeAnswer.{ChangeAnswer}
use Rattle.answers.specs.declared.RangeAnswer.{RangeAnswer}
use Rattle.answers.specs.declared.OriginAnswer.{OriginAnswer}
use Rattle.answers.specs.declared.RunAnswer.{RunAnswer}
use Rattle.answers.specs.declared.DumpAnswer.{DumpAnswer}
use Rattle.answers.specs.declared.ReceivedAnswer.{ReceivedAnswer}

-- a value, refused where the number is not 0
abbrev pub read_as : {A : Type 0} → ℕ → ℕ → A → Answer A
read_as number place value = cond (eqb number 0) (gives value) (refused number place)

abbrev pub number_read : NumberAnswer → Answer ℕ
number_read said = read_as said.refusal said.place said.value

-- of a call that only stores
abbrev pub done_read : NumberAnswer → Verdict
done_read said = read_as said.refusal said.place tt

abbrev pub change_read : ChangeAnswer → Answer Spliced
change_read said = read_as said.refusal said.place (record { length = said.length; growth = said.growth })

abbrev pub range_read : RangeAnswer → Answer Range
range_read said = read_as said.refusal said.place (record { from = said.from; to = said.to })

-- the kinds of an origin by their numbers, as the header has them
abbrev pub origin_read : OriginAnswer → Answer Origin
origin_read said =
    read_as said.refusal said.place
    (cond (eqb said.kind 0) (header_octet said.number said.index)
    (cond (eqb said.kind 1) (carried (dump_byte said.index))
    (cond (eqb said.kind 2) (carried (edit_byte said.number said.index))
    (cond (eqb said.kind 3) filler (cond (eqb said.kind 4) zeroed untouched)))))

-- a run by the number of its source
abbrev pub run_read : RunAnswer → Answer Run
run_read said =
    read_as said.refusal said.place
    (cond (eqb said.source 0) (of_dump 0 said.start said.end)
    (cond (eqb said.source 1) (of_edit 0 said.start said.end) (of_dump 1 said.start said.end)))

-- the struct of a dump, read
abbrev pub dump_read : DumpAnswer → Answer Description
dump_read said =
    read_as said.refusal said.place
    (record {
      base = cond said.delta (Some said.base) None;
      group = said.group;
      id = said.id;
      size = said.size;
      words = said.words;
      steps = said.steps;
    })

-- what a received packet did, by its number
abbrev pub received_read : ReceivedAnswer → Answer Reply
received_read said =
    read_as said.refusal said.place
    (cond (eqb said.kind 0) kept (cond (eqb said.kind 1) dropped (handed_out said.words)))
