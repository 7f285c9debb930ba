-- What a splice asks of a message, a range and a replacement. Assumes nothing.
use Rattle.std.specs.Prelude.{List, ℕ, ◌+◌, ◌-◌, ◌≤◌, length}
use Rattle.ump.specs.Packet.{sysex8}
use Rattle.ump.specs.Packing.{words_for}
use Rattle.message.specs.Accepted.{Accepted}

-- the size of the new payload
abbrev pub new_size : ℕ → ℕ → ℕ → List ℕ → ℕ
new_size size from to replacement = size - (to - from) + length replacement

pub record Possible (words replacement : List ℕ) (len size from to : ℕ) : Type 0 where
  pub passed : Accepted words len size
  pub forward : from ≤ to
  pub inside : to ≤ size
  pub room : words_for sysex8 (new_size size from to replacement) ≤ length words
