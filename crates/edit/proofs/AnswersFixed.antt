-- An answer is fixed by what it means: each meaning has a way back. Assumes nothing.
use Rattle.std.specs.Prelude.{Result, Ok, Err}
use Rattle.refusal.specs.declared.Fault.{Fault}
use Rattle.edit.specs.declared.Range.{Range}
use mathlib.Core.Path.{◌≡◌, refl, ap}
use Rattle.refusal.specs.Answer.{Answer, gives, refused}
use Rattle.refusal.proofs.Laws.{fault_back, fault-back}
use Rattle.refusal.proofs.Tight.{once}
use Rattle.ump.specs.Edits as ump
use Rattle.ump.specs.Origin.{Origin, header_octet, carried, dump_byte, edit_byte, filler, zeroed, untouched}
use Rattle.edit.specs.Meaning.{moved_meaning, origin_meaning, placed_meaning}
use Rattle.edit.specs.Placed.{Place, in_dump, in_bytes}
use Rattle.edit.specs.declared.origins.OctetOrigin.{OctetOrigin}
use Rattle.edit.specs.declared.origins.OctetOrigin.TheVariants as origin
use Rattle.edit.specs.declared.placing.Placed.{Placed}
use Rattle.edit.specs.declared.placing.Placed.TheVariants as placed

abbrev moved_back : Answer ump.Range → (Result Range Fault)
moved_back (gives r) = Ok (record { from = r.from; to = r.to })
moved_back (refused number place) = Err (fault_back number place)

moved_back_lem : (x : (Result Range Fault)) → moved_back (moved_meaning x) ≡ x
moved_back_lem (Ok range) = refl
moved_back_lem (Err fault) = ap Err (fault-back fault)

pub moved_once : (x y : (Result Range Fault)) → moved_meaning x ≡ moved_meaning y → x ≡ y
moved_once = once moved_meaning moved_back moved_back_lem

abbrev pub origin_back : Answer Origin → Result OctetOrigin Fault
origin_back (gives (header_octet packet octet)) = Ok (origin.Header (record { packet = packet; octet = octet }))
origin_back (gives (carried (dump_byte byte))) = Ok (origin.Dump byte)
origin_back (gives (carried (edit_byte edit byte))) = Ok (origin.Edit (record { edit = edit; byte = byte }))
origin_back (gives filler) = Ok origin.Filler
origin_back (gives zeroed) = Ok origin.Zeroed
origin_back (gives untouched) = Ok origin.Untouched
origin_back (refused number place) = Err (fault_back number place)

origin-back : (x : Result OctetOrigin Fault) → origin_back (origin_meaning x) ≡ x
origin-back (Ok (origin.Header place)) = refl
origin-back (Ok (origin.Dump byte)) = refl
origin-back (Ok (origin.Edit place)) = refl
origin-back (Ok origin.Filler) = refl
origin-back (Ok origin.Zeroed) = refl
origin-back (Ok origin.Untouched) = refl
origin-back (Err fault) = ap Err (fault-back fault)

pub origin_once : (x y : Result OctetOrigin Fault) → origin_meaning x ≡ origin_meaning y → x ≡ y
origin_once = once origin_meaning origin_back origin-back

abbrev placed_back : Answer Place → Result Placed Fault
placed_back (gives (in_dump at)) = Ok (placed.Dump at)
placed_back (gives (in_bytes at)) = Ok (placed.Bytes at)
placed_back (refused number place) = Err (fault_back number place)

placed-back : (x : Result Placed Fault) → placed_back (placed_meaning x) ≡ x
placed-back (Ok (placed.Dump at)) = refl
placed-back (Ok (placed.Bytes at)) = refl
placed-back (Err fault) = ap Err (fault-back fault)

pub placed_once : (x y : Result Placed Fault) → placed_meaning x ≡ placed_meaning y → x ≡ y
placed_once = once placed_meaning placed_back placed-back
