-- The definitions of this crate at small inputs, computed: the edits of document 01's P8, and the heads of P6's message.
-- Assumes nothing.
use Rattle.std.specs.Prelude.{◌≡◌, refl, List, [], ◌∷◌, ℕ}
use Rattle.std.proofs.Common.{lit≤}
use Rattle.ump.specs.Packing.{status_for, packets_for}
use Rattle.ump.specs.Edits.{Edit, edits_from, edits_of}
use Rattle.flow.specs.Heads.{head_for}
use Rattle.splice.specs.Header.{base_of, leveled, finished}
use Rattle.splice.specs.Merging.{Within, less_after, widths}

abbrev edits8 : List Edit
edits8 = edits_of (0 ∷ 1 ∷ 2 ∷ 2 ∷ 3 ∷ 0 ∷ [])

-- 15 bytes in two packets
abbrev message6 : List ℕ
message6 = 0x521E0741 ∷ 0x10111213 ∷ 0x14151617 ∷ 0x18191A1B ∷ 0x5233071C ∷ 0x42000000 ∷ 0 ∷ 0 ∷ []

-- with the head of a packet between others in both
abbrev level6 : List ℕ
level6 = 0x522E0741 ∷ 0x10111213 ∷ 0x14151617 ∷ 0x18191A1B ∷ 0x522E071C ∷ 0x42000000 ∷ 0 ∷ 0 ∷ []

pub record Samples : Type 0 where
  pub sums : (widths edits8 ≡ 2) × (less_after 3 edits8 ≡ 2)
  pub fits : Within 1 0 0 edits8
  pub heads : (base_of 0x521E0741 ≡ 0x52000700) × (leveled 0x522E0700 message6 8 ≡ level6) × (finished 0x52000700 15 level6 8 8 ≡ message6)

pub samples : Samples
unfolding Within less_after widths edits_from head_for status_for packets_for
samples = record { sums = (refl, refl); fits = (lit≤ tt, (lit≤ tt, tt)); heads = (refl, refl, refl) }
