-- `message::sysex8::byte_of`: the byte where it stands. Assumes nothing.
use mathlib.Core.Path.{sym, ◌∙◌}
use Rattle.ump.specs.Packet.{sysex8}
use Rattle.ump.proofs.Checks.{passes_valid}
use Rattle.message.proofs.Checked.{Taken}
use Rattle.message.proofs.Places.{Standing, sized, standing}
use Rattle.message.proofs.sysex8.byte_of.Statement.{statement}
use Rattle.message.proofs.sysex8.byte_of.Tie as tie

message : (d : tie.Start) → Taken sysex8 d.args.words.now d.args.length d.args.size
message d = record { passes = d.requires.0.passes; valid = passes_valid sysex8 _ _ d.requires.0.passes; sized = d.requires.0.sized }

-- the byte is where it was found
stands : (c : tie.After-place_of-place) →
    Standing c.args.words.now c.args.length c.args.index c.place_of-place.result.packet c.place_of-place.result.byte
stands c = standing (message c.before.before) c.requires.1 c.place_of-place.ensures

pub byte_of_spec : {M : Type 1} → statement M
byte_of_spec =
    tie.close
    (tie.spec
    (λ c κs. (sized (message c.before), c.requires.1))
    (λ c κs. let s = stands c in (s.there, s.few, s.inner))
    (λ c. c.byte_at.ensures ∙ sym (stands c.before).reads))
