-- The numbers of a shape, as code takes them. Assumes nothing.
use Rattle.std.specs.Prelude.{◌≡◌, refl, ℕ, ◌≤◌}
use Rattle.std.proofs.Common.{lit≤}
use Rattle.ump.specs.Packet.{Shape, sysex8, sysex7}

-- these are the message type, the words, the octets of stream id (one at most), the room and the bias of the packets of a shape
pub record Numbers (shape : Shape) (type words ids room bias : ℕ) : Type 0 where
  pub type_is : type ≡ shape.type
  pub words_are : words ≡ shape.words
  pub ids_are : ids ≡ shape.ids
  pub room_is : room ≡ shape.room
  pub bias_is : bias ≡ shape.bias
  pub few_ids : ids ≤ 1

pub numbers8 : Numbers sysex8 5 4 1 13 1
numbers8 = record { type_is = refl; words_are = refl; ids_are = refl; room_is = refl; bias_is = refl; few_ids = lit≤ tt }

pub numbers7 : Numbers sysex7 3 2 0 6 0
numbers7 = record { type_is = refl; words_are = refl; ids_are = refl; room_is = refl; bias_is = refl; few_ids = lit≤ tt }
