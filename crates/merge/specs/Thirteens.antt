-- The 13 bytes of a packet as a number, in two parts, and parts of them. Assumes nothing.
use Rattle.std.specs.Prelude.{List, [], ◌∷◌, ℕ, ◌+◌, ◌-◌, ◌*◌, ◌/◌, ◌%◌, ◌^◌, drop, get_or}
use Rattle.ump.specs.Word.{octets}
use Rattle.merge.specs.declared.held.Thirteen.{Thirteen}

abbrev pub number : Thirteen → ℕ
number t = t.high * 2 ^ 64 + t.low

-- the octets of packet p that can carry payload
abbrev pub body : List ℕ → ℕ → List ℕ
body ws p = drop 3 (octets (get_or ws (4 * p) 0 ∷ get_or ws (4 * p + 1) 0 ∷ get_or ws (4 * p + 2) 0 ∷ get_or ws (4 * p + 3) 0 ∷ []))

-- the first bytes, and zeros
abbrev pub front_of : ℕ → ℕ → ℕ
front_of n some = n / 2 ^ (8 * (13 - some)) * 2 ^ (8 * (13 - some))

-- some bytes from byte `byte` on, and zeros
abbrev pub middle_of : ℕ → ℕ → ℕ → ℕ
middle_of n byte some = front_of (n * 2 ^ (8 * byte) % 2 ^ 104) some
