-- What the records and the answers of this crate mean: document 01's number and place, or the values.
-- Assumes nothing.
use Rattle.refusal.specs.declared.Fault.{Fault}
use Rattle.std.specs.Prelude.{Result, Ok, Err}
use Rattle.refusal.specs.Answer.{Answer, gives}
use Rattle.refusal.specs.Meaning.{fault_of}
use Rattle.ump.specs.Edits as ump
use Rattle.ump.specs.Origin.{Origin, header_octet, carried, dump_byte, edit_byte, filler, zeroed, untouched}
use Rattle.edit.specs.Placed.{Place, in_dump, in_bytes}
use Rattle.edit.specs.declared.Edit.{Edit}
use Rattle.edit.specs.declared.Range.{Range}
use Rattle.edit.specs.declared.placing.Placed.{Placed}
use Rattle.edit.specs.declared.placing.Placed.TheVariants as placed
use Rattle.edit.specs.declared.origins.OctetOrigin.{OctetOrigin}
use Rattle.edit.specs.declared.origins.OctetOrigin.TheVariants as origin

abbrev pub edit_meaning : Edit → ump.Edit
edit_meaning edit = record { from = edit.from; to = edit.to; length = edit.length }

abbrev pub range_meaning : Range → ump.Range
range_meaning range = record { from = range.from; to = range.to }

abbrev pub moved_meaning : (Result Range Fault) → Answer ump.Range
moved_meaning (Ok range) = gives (range_meaning range)
moved_meaning (Err fault) = fault_of fault

abbrev pub octet_meaning : OctetOrigin → Origin
octet_meaning (origin.Header place) = header_octet place.packet place.octet
octet_meaning (origin.Dump byte) = carried (dump_byte byte)
octet_meaning (origin.Edit place) = carried (edit_byte place.edit place.byte)
octet_meaning origin.Filler = filler
octet_meaning origin.Zeroed = zeroed
octet_meaning origin.Untouched = untouched

abbrev pub origin_meaning : Result OctetOrigin Fault → Answer Origin
origin_meaning (Ok comes) = gives (octet_meaning comes)
origin_meaning (Err fault) = fault_of fault

abbrev pub place_meaning : Placed → Place
place_meaning (placed.Dump at) = in_dump at
place_meaning (placed.Bytes at) = in_bytes at

abbrev pub placed_meaning : Result Placed Fault → Answer Place
placed_meaning (Ok stands) = gives (place_meaning stands)
placed_meaning (Err fault) = fault_of fault
