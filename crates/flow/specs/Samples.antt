-- The definitions of this crate at small inputs, computed: document 01's P12, a SysEx7 message of seven bytes, and P6's SysEx8 heads.
-- Assumes nothing.
use Rattle.std.specs.Prelude.{◌≡◌, refl, List, [], ◌∷◌, ℕ}
use Rattle.ump.specs.Packet.{sysex8, sysex7}
use Rattle.ump.specs.Packing.{status_for, packets_for}
use Rattle.flow.specs.Digits.{val}
use Rattle.flow.specs.Flowing.{firsts, number_word, flow_word}
use Rattle.flow.specs.Heads.{base_for, head_for, inner_head}

abbrev bytes12 : List ℕ
bytes12 = 1 ∷ 2 ∷ 3 ∷ 4 ∷ 5 ∷ 6 ∷ 7 ∷ []

-- word k of P12's packets, with the head of its packet
abbrev word12 : ℕ → ℕ → ℕ
word12 head k = flow_word sysex7 head bytes12 k

pub record Samples : Type 0 where
  pub octets : (val 3 bytes12 ≡ 0x010203) × (val 3 (1 ∷ []) ≡ 0x010000) × (val 0 bytes12 ≡ 0)
  pub payload : (firsts sysex7 ≡ 2) × (firsts sysex8 ≡ 1)
  pub words : (number_word sysex7 0x30160000 0x010203040506 0 ≡ 0x30160102) × (number_word sysex7 0x30160000 0x010203040506 1 ≡ 0x03040506)
  pub heads7 : (head_for sysex7 (base_for sysex7 0 []) 7 0 ≡ 0x30160000) × (head_for sysex7 (base_for sysex7 0 []) 7 1 ≡ 0x30310000)
  pub heads8 : (head_for sysex8 (base_for sysex8 2 (7 ∷ [])) 15 0 ≡ 0x521E0700) × (head_for sysex8 (base_for sysex8 2 (7 ∷ [])) 15 1 ≡ 0x52330700)
  pub inner : inner_head sysex8 (base_for sysex8 2 (7 ∷ [])) ≡ 0x522E0700
  pub P12 : (word12 0x30160000 0 ≡ 0x30160102) × (word12 0x30160000 1 ≡ 0x03040506) × (word12 0x30310000 2 ≡ 0x30310700) × (word12 0x30310000 3 ≡ 0)

pub samples : Samples
unfolding val number_word flow_word head_for status_for packets_for
samples = record {
  octets = (refl, refl, refl);
  payload = (refl, refl);
  words = (refl, refl);
  heads7 = (refl, refl);
  heads8 = (refl, refl);
  inner = refl;
  P12 = (refl, refl, refl, refl);
}
