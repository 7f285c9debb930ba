-- An answer is fixed by what it means: each meaning has a way back. Assumes nothing.
use Rattle.std.specs.Prelude.{Result, Ok, Err}
use Rattle.refusal.specs.declared.Fault.{Fault}
use mathlib.Core.Path.{◌≡◌, refl, ap}
use mathlib.Core.Bool.{true, false}
use lib.ListN.{get_or}
use Rattle.refusal.specs.Answer.{Answer, gives, refused}
use Rattle.refusal.proofs.Laws.{fault_back, fault-back}
use Rattle.refusal.proofs.Tight.{once}
use Rattle.ump.specs.Single as ump
use Rattle.packet.specs.Meaning.{kind_meaning, packet_meaning8, packet_meaning7}
use Rattle.packet.specs.declared.sysex8.Packet as packet8
use Rattle.packet.specs.declared.sysex7.Packet as packet7
use Rattle.packet.specs.declared.Earlier.TheVariants.{Valid, Invalid}
use Rattle.packet.specs.declared.Kind.{Kind}
use Rattle.packet.specs.declared.Kind.TheVariants.{Complete, Start, Continue, End, UnexpectedEnd}

abbrev kind_back : ump.Kind → Kind
kind_back ump.complete = Complete
kind_back ump.start = Start
kind_back ump.continue = Continue
kind_back ump.end = End
kind_back (ump.unexpected_end true) = UnexpectedEnd Valid
kind_back (ump.unexpected_end false) = UnexpectedEnd Invalid

kind-back : (k : Kind) → kind_back (kind_meaning k) ≡ k
kind-back Complete = refl
kind-back Start = refl
kind-back Continue = refl
kind-back End = refl
kind-back (UnexpectedEnd Valid) = refl
kind-back (UnexpectedEnd Invalid) = refl

abbrev back8 : Answer ump.Packet → Result packet8.Packet Fault
back8 (gives p) = Ok (record { kind = kind_back p.kind; group = p.group; id = get_or p.id 0 0; size = p.size })
back8 (refused number place) = Err (fault_back number place)

packet_back8 : (x : Result packet8.Packet Fault) → back8 (packet_meaning8 x) ≡ x
packet_back8 (Ok p) = rw kind-back
packet_back8 (Err fault) = ap Err (fault-back fault)

abbrev back7 : Answer ump.Packet → Result packet7.Packet Fault
back7 (gives p) = Ok (record { kind = kind_back p.kind; group = p.group; size = p.size })
back7 (refused number place) = Err (fault_back number place)

packet_back7 : (x : Result packet7.Packet Fault) → back7 (packet_meaning7 x) ≡ x
packet_back7 (Ok p) = rw kind-back
packet_back7 (Err fault) = ap Err (fault-back fault)

pub packet8_once : (x y : Result packet8.Packet Fault) → packet_meaning8 x ≡ packet_meaning8 y → x ≡ y
packet8_once = once packet_meaning8 back8 packet_back8

pub packet7_once : (x y : Result packet7.Packet Fault) → packet_meaning7 x ≡ packet_meaning7 y → x ≡ y
packet7_once = once packet_meaning7 back7 packet_back7
