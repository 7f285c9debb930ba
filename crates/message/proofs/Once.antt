-- An answer is fixed by what it means: each meaning has a way back. Assumes nothing.
use Rattle.std.specs.Prelude.{Result, Ok, Err}
use Rattle.refusal.specs.declared.Fault.{Fault}
use mathlib.Core.Path.{◌≡◌, refl, ap}
use lib.ListN.{get_or}
use Rattle.refusal.specs.Answer.{Answer, gives, refused}
use Rattle.refusal.proofs.Laws.{fault-back, fault_back}
use Rattle.refusal.proofs.Tight.{once}
use Rattle.message.specs.declared.sysex8.Summary as sysex8
use Rattle.message.specs.declared.sysex7.Summary as sysex7
use Rattle.ump.specs.Check.{Summary}
use Rattle.message.specs.Meaning.{check_meaning8, check_meaning7}

abbrev back8 : Answer Summary → Result sysex8.Summary Fault
back8 (gives m) = Ok (record { group = m.group; id = get_or m.id 0 0; size = m.size; words = m.words })
back8 (refused number place) = Err (fault_back number place)

is8 : (x : Result sysex8.Summary Fault) → back8 (check_meaning8 x) ≡ x
is8 (Ok m) = refl
is8 (Err fault) = ap Err (fault-back fault)

pub checked8_once : (x y : Result sysex8.Summary Fault) → check_meaning8 x ≡ check_meaning8 y → x ≡ y
checked8_once = once check_meaning8 back8 is8

abbrev back7 : Answer Summary → Result sysex7.Summary Fault
back7 (gives m) = Ok (record { group = m.group; size = m.size; words = m.words })
back7 (refused number place) = Err (fault_back number place)

is7 : (x : Result sysex7.Summary Fault) → back7 (check_meaning7 x) ≡ x
is7 (Ok m) = refl
is7 (Err fault) = ap Err (fault-back fault)

pub checked7_once : (x y : Result sysex7.Summary Fault) → check_meaning7 x ≡ check_meaning7 y → x ≡ y
checked7_once = once check_meaning7 back7 is7
