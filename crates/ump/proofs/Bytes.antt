-- Single payload bytes: where they stand, in document 01's own formula. Assumes nothing.
use mathlib.Core.Path.{◌≡◌, sym, ap, ◌∙◌}
use mathlib.Core.List.{List, map}
use Prim.Native.Nat.{ℕ, ◌+◌, ◌-◌, ◌*◌, ◌/◌, ◌%◌, ◌^◌, ◌≤◌, ◌<◌}
use native.Mathlib.Nat.{zero-mod}
use native.Mathlib.Omega.{arith}
use lib.ListN.{length, get_or, take, drop, length-map, length-take, length-drop, get_or-map}
use lib.Pow.{mod-mod-pow}
use lib.Seq.{get_or-take, get_or-drop}
use Rattle.ump.specs.Word.{octet_field, shift, octet, octets}
use Rattle.ump.specs.Packet.{Shape, header, count_at, size_at, packet, payload_at, place_word, place_octet, byte_at}
use Rattle.ump.proofs.Words.{get_d_octets, length-octets}
use Rattle.ump.proofs.Sizes.{size_small}

-- the low bits of an octet are those of the number that it is a part of
narrow : (shape : Shape) (y : ℕ) → y % 2 ^ 8 % shape.limit ≡ y % 2 ^ shape.width
narrow shape y =
    let e : 8 ≡ (8 - shape.width) + shape.width = omega (arith, shape.width_fits) in
    ap (λ (n : ℕ). y % 2 ^ 8 % n) (sym shape.limit_is)
    ∙ ap (λ (n : ℕ). y % 2 ^ n % 2 ^ shape.width) e
    ∙ mod-mod-pow y (8 - shape.width) shape.width

module _ (shape : Shape) (words : List ℕ) (p : ℕ) (there : shape.words * p + shape.words ≤ length words) where
  pub length_packet : length (packet shape words p) ≡ shape.words
  length_packet = simp (length-take, length-drop) (omega arith)

  pub length-payload_at : length (payload_at shape words p) ≡ size_at shape words p
  unfolding payload_at
  length-payload_at =
      simp (length-map, length-take, length-drop, length-octets)
      (omega (arith, length_packet, shape.full, size_small shape (count_at shape words p)))

  -- payload byte i is octet (i + header) mod 4 of word (i + header) / 4, or the low bits of it
  pub get_d_payload_at : (i : ℕ) → i < size_at shape words p → get_or (payload_at shape words p) i 0 ≡ byte_at shape words p i
  unfolding payload_at
  get_d_payload_at i k =
      let q : ℕ = i + header shape in
      let os : List ℕ = octets (packet shape words p) in
      let e : header shape + i ≡ 4 * (q / 4) + q % 4 = omega arith in
      let w : q / 4 < shape.words = omega (arith, shape.full, size_small shape (count_at shape words p)) in
      let m : q % 4 < 4 = omega arith in
      ap (λ (z : ℕ). get_or (map (λ b. b % shape.limit) (take (size_at shape words p) (drop (header shape) os))) i z) (sym (zero-mod shape.limit))
      ∙ get_or-map (λ b. b % shape.limit) (take (size_at shape words p) (drop (header shape) os)) i 0
      ∙ ap (λ (z : ℕ). z % shape.limit)
      (get_or-take (size_at shape words p) (drop (header shape) os) i 0 k
      ∙ get_or-drop (header shape) os i 0
      ∙ ap (λ (z : ℕ). get_or os z 0) e
      ∙ get_d_octets (packet shape words p) (q / 4) (q % 4) m
      ∙ ap (λ (z : ℕ). octet z (q % 4))
      (get_or-take shape.words (drop (shape.words * p) words) (q / 4) 0 w ∙ get_or-drop (shape.words * p) words (q / 4) 0))
      ∙ narrow shape (get_or words (place_word shape p i) 0 / 2 ^ shift octet_field (place_octet shape i))
