-- The numbers of the refusals: 1 to 20 by document 01's table, 21 to 25 by document 02's T-02, 26 by its T-04, 29 to 31 by its T-07. 19 is
-- not used again: T-12 took it out (proofs/Laws.not_nineteen).
-- Assumes nothing.
use Rattle.std.specs.Prelude.{cond, List, [], ◌∷◌, ℕ, eqb}
use Rattle.refusal.specs.Answer.{Answer, gives, refused}
use Rattle.refusal.specs.declared.Refusal.{Refusal}
use Rattle.refusal.specs.declared.Refusal.TheVariants.{Long, Length, Short, Ragged, «Type», Complete, Begin, Continue, End, Count, Group, Stream, Range, Room, Status, Field, Frame, Byte, Overlap, Format, Twice, Full, Missing, Ring, Other, Port, Closed, Share}

abbrev pub number_of : Refusal → ℕ
number_of Long = 1
number_of Length = 2
number_of Short = 3
number_of Ragged = 4
number_of «Type» = 5
number_of Complete = 6
number_of Begin = 7
number_of Continue = 8
number_of End = 9
number_of Count = 10
number_of Group = 11
number_of Stream = 12
number_of Range = 13
number_of Room = 14
number_of Status = 15
number_of Field = 16
number_of Frame = 17
number_of Byte = 18
number_of Overlap = 20
number_of Format = 21
number_of Twice = 22
number_of Full = 23
number_of Missing = 24
number_of Ring = 25
number_of Other = 26
number_of Port = 29
number_of Closed = 30
number_of Share = 31

-- all names, and the one among them that has a number (Long, where none has it)
abbrev pub names : List Refusal
names =
    Long ∷ Length ∷ Short ∷ Ragged ∷ «Type» ∷ Complete ∷ Begin ∷ Continue ∷ End ∷ Count ∷ Group ∷ Stream ∷ Range ∷ Room ∷ Status ∷ Field ∷ Frame ∷ Byte ∷ Overlap
    ∷ Format ∷ Twice ∷ Full ∷ Missing ∷ Ring ∷ Other ∷ Port ∷ Closed ∷ Share ∷ []

abbrev pub name_in : List Refusal → ℕ → Refusal
name_in [] n = Long
name_in (name ∷ others) n = cond (eqb (number_of name) n) name (name_in others n)

abbrev pub name_of : ℕ → Refusal
name_of n = name_in names n

-- an answer that is accepted, or refused with the number of a name
pub data Named {A : Type 0} : Answer A → Type 0 where
  accepted : {value : A} → Named (gives value)
  named : (r : Refusal) {place : ℕ} → Named (refused (number_of r) place)
