-- Words of 32 bits: their fields and octets. Field 0, nibble 0 and octet 0 are the most significant.
-- Assumes nothing.
use Rattle.std.specs.Prelude.{◌⊎◌, List, [], ◌∷◌, ℕ, ◌+◌, ◌-◌, ◌*◌, ◌/◌, ◌%◌, ◌^◌, ◌≤◌, ◌<◌, leb, get_or}
use Rattle.refusal.specs.Answer.{Answer, gives, ◌▷◌, guard}

-- ---- fields (01, module 1)

-- a kind of field: how many a word has, how many bits apart they begin, how many bits wide each is
pub record Field : Type 0 where
  pub count : ℕ
  pub step : ℕ
  pub width : ℕ

abbrev pub bit_field : Field
bit_field = record { count = 32; step = 1; width = 1 }

abbrev pub crumb_field : Field
crumb_field = record { count = 16; step = 2; width = 2 }

abbrev pub nibble_field : Field
nibble_field = record { count = 8; step = 4; width = 4 }

abbrev pub septet_field : Field
septet_field = record { count = 4; step = 8; width = 7 }

abbrev pub octet_field : Field
octet_field = record { count = 4; step = 8; width = 8 }

abbrev pub word_field : Field
word_field = record { count = 2; step = 16; width = 16 }

-- how far the lowest bit of field i stands above the lowest bit of the word
abbrev pub shift : Field → ℕ → ℕ
shift field i = (field.count - 1 - i) * field.step

-- the bits of x that stand `low` above the lowest, `width` of them
abbrev pub part : ℕ → ℕ → ℕ → ℕ
part x low width = x / 2 ^ low % 2 ^ width

-- x with a value there: the bits above, the value, the bits below
abbrev pub with_part : ℕ → ℕ → ℕ → ℕ → ℕ
with_part x low width value = (x / 2 ^ (low + width) * 2 ^ width + value) * 2 ^ low + x % 2 ^ low

-- reading field i of x, and setting it: refused (Field) where the index or the value is too big
unfoldable pub get_field : Field → ℕ → ℕ → Answer ℕ
get_field field x i = guard (leb field.count i) 16 0 ▷ gives (part x (shift field i) field.width)

unfoldable pub set_field : Field → ℕ → ℕ → ℕ → Answer ℕ
set_field field x i value =
    guard (leb field.count i) 16 0
    ▷ guard (leb (2 ^ field.width) value) 16 0
    ▷ gives (with_part x (shift field i) field.width value)

-- field i of one kind and field j of another share no bit
abbrev pub Disjoint : Field → ℕ → Field → ℕ → Type 0
Disjoint field i other j = (shift other j + other.width ≤ shift field i) ⊎ (shift field i + field.width ≤ shift other j)

-- ---- nibbles and octets

abbrev pub nibble : ℕ → ℕ → ℕ
nibble x i = part x (shift nibble_field i) 4

abbrev pub octet : ℕ → ℕ → ℕ
octet x i = part x (shift octet_field i) 8

-- the word of four octets
abbrev pub word : ℕ → ℕ → ℕ → ℕ → ℕ
word a b c d = ((a * 256 + b) * 256 + c) * 256 + d

-- the octets of words, and the words of octets (fewer than four at the end are left out)
unfoldable pub octets : List ℕ → List ℕ
octets [] = []
octets (x ∷ words) = octet x 0 ∷ octet x 1 ∷ octet x 2 ∷ octet x 3 ∷ octets words

unfoldable pub words_of : List ℕ → List ℕ
words_of [] = []
words_of (a ∷ []) = []
words_of (a ∷ b ∷ []) = []
words_of (a ∷ b ∷ c ∷ []) = []
words_of (a ∷ b ∷ c ∷ d ∷ rest) = word a b c d ∷ words_of rest

-- the number of two octets of a list, from index i on, the first the most significant
abbrev pub pair_at : List ℕ → ℕ → ℕ
pair_at bytes i = get_or bytes i 0 * 256 + get_or bytes (i + 1) 0

-- each number of a list is below m
abbrev pub Below : ℕ → List ℕ → Type 0
Below m [] = Unit {0}
Below m (x ∷ xs) = (x < m) × Below m xs
