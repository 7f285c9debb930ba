-- The number of a dump in decimal digits.
-- Assumes nothing.
use Rattle.std.specs.Prelude.{Option, Some, None, Bool, cond, ◌&&◌, List, [], ◌∷◌, ℕ, ◌+◌, ◌-◌, ◌*◌, min, eqb, leb, length}

abbrev pub is_digit : ℕ → Bool
is_digit byte = leb 48 byte && leb byte 57

-- one digit more; a number above 65,535 counts as 65,536, which no dump has
abbrev pub with_digit : ℕ → ℕ → ℕ
with_digit n byte = min 65536 (10 * n + (byte - 48))

-- the number that goes on with these bytes, all of them digits
unfoldable pub number_from : ℕ → List ℕ → Option ℕ
number_from n [] = Some n
number_from n (byte ∷ bytes) = cond (is_digit byte) (number_from (with_digit n byte) bytes) None

-- one digit or more
unfoldable pub number_in : List ℕ → Option ℕ
number_in bytes = cond (eqb (length bytes) 0) None (number_from 0 bytes)
