-- The first words of the packets of a message of any shape. Assumes nothing.
use Rattle.std.specs.Prelude.{List, ℕ, ◌+◌, ◌-◌, ◌*◌, ◌^◌, min}
use Rattle.ump.specs.Packet.{Shape}
use Rattle.ump.specs.Packing.{status_for, packets_for}
use Rattle.flow.specs.Digits.{val}

-- type, group and stream id, with zeros for status, count and payload octets
abbrev pub base_for : Shape → ℕ → List ℕ → ℕ
base_for shape group id = (shape.type * 16 + group) * 2 ^ 24 + val 2 id

-- the first word of packet p of a message of n bytes, with zeros for its payload octets
unfoldable pub head_for : Shape → ℕ → ℕ → ℕ → ℕ
head_for shape base n p = base + (status_for (packets_for shape n) p * 16 + (min shape.room (n - shape.room * p) + shape.bias)) * 2 ^ 16

-- that of each packet between the first and the last: continue, and full
abbrev pub inner_head : Shape → ℕ → ℕ
inner_head shape base = base + (2 * 16 + (shape.room + shape.bias)) * 2 ^ 16
