-- The words of the fewest-packet form are those of the flow, each packet with its head. Assumes nothing.
use mathlib.Core.Path.{◌≡◌, refl, sym, ap, ◌∙◌}
use mathlib.Core.List.{List, ◌∷◌, ◌++◌}
use Prim.Native.Nat.{ℕ, zero, suc, ◌+◌, ◌-◌, ◌*◌, ◌/◌, ◌%◌, ◌^◌, ◌<◌, min}
use native.Mathlib.Nat.{add-mul, mul_assoc, mod-lt}
use native.Mathlib.Omega.{arith}
use lib.ListN.{length, get_or, drop, get_or-append}
use lib.Seq.{get_or-drop, get_or-append-add, drop-append-add}
use Rattle.ump.specs.Word.{word, Below}
use Rattle.ump.specs.Packet.{Shape, header}
use Rattle.ump.specs.Packing.{status_for, words_for, pack}
use Rattle.ump.specs.Origin.{header_octets}
use Rattle.ump.proofs.Words.{below_drop}
use Rattle.ump.proofs.Sizes.{words_pos, packets_are}
use Rattle.ump.proofs.Positions.{octet_at, word_at, get_d_pack}
use Rattle.ump.proofs.First.{Side, under, over, side}
use Rattle.flow.specs.Digits.{val}
use Rattle.flow.specs.Flowing.{firsts, number_word, flow_word}
use Rattle.flow.specs.Heads.{base_for, head_for}
use Rattle.flow.proofs.Digits.{powers, val_split, val_pad, val-append, val-two, val_four}
use Rattle.flow.proofs.Puts.{number_first, number_other}

-- ---- heads, as numbers

pub base_is : (shape : Shape) (g : ℕ) (id : List ℕ) → base_for shape g id ≡ word (shape.type * 16 + g) 0 (get_or id 0 0) (get_or id 1 0)
base_is shape g id = rw (val-two id) (omega arith)

pub head_is : (shape : Shape) (base n p : ℕ)
    → head_for shape base n p ≡ base + (status_for (suc ((n - 1) / shape.room)) p * 16 + (min shape.room (n - shape.room * p) + shape.bias)) * 2 ^ 16
unfolding head_for
head_is shape base n p = rw (packets_are shape n)

module _ (shape : Shape) (g : ℕ) (id : List ℕ) (named : length id ≡ shape.ids) where
  -- a first word with zeros for its payload octets is its header octets, in their place
  pub head_number : (b : ℕ) → base_for shape g id + b * 2 ^ 16 ≡ val (header shape) ((shape.type * 16 + g) ∷ b ∷ id) * 2 ^ (8 * firsts shape)
  head_number b =
      let a = shape.type * 16 + g in
      let two : shape.ids + firsts shape ≡ 2 = omega (arith, shape.full, shape.ids_fit) in
      let p : 2 ^ 16 ≡ 2 ^ (8 * shape.ids) * 2 ^ (8 * firsts shape) = rw two at (powers shape.ids (firsts shape)) in
      let v : val 2 id ≡ val shape.ids id * 2 ^ (8 * firsts shape) = rw two at (val_pad shape.ids (firsts shape) id (omega arith)) in
      rw (
        val_split 2 shape.ids (a ∷ b ∷ id),
        val-two (a ∷ b ∷ id),
        add-mul ((a * 256 + b) * 2 ^ (8 * shape.ids)) (val shape.ids id) (2 ^ (8 * firsts shape)),
        mul_assoc (a * 256 + b) (2 ^ (8 * shape.ids)) (2 ^ (8 * firsts shape)),
        ← p,
        ← v,
      ) (omega arith)

  module _ (bytes : List ℕ) where
    abbrev n : ℕ
    n = length bytes

    -- the octets of packet p and all bytes behind it
    abbrev from : ℕ → List ℕ
    from p = header_octets shape g id n p ++ drop (shape.room * p) bytes

    octet_is : (p q : ℕ) → octet_at shape g id n (λ i. get_or bytes i 0) p q ≡ get_or (from p) q 0
    unfolding octet_at
    octet_is p q = go (side q (header shape))
      where
        go : Side q (header shape) → octet_at shape g id n (λ i. get_or bytes i 0) p q ≡ get_or (from p) q 0
        go (under l e) = rw e (sym (get_or-append (header_octets shape g id n p) (drop (shape.room * p) bytes) 0 q (omega arith)))
        go (over l e) =
            let i = q - header shape in
            let z : length (header_octets shape g id n p) + i ≡ q = omega arith in
            rw e
            (sym (get_or-drop (shape.room * p) bytes i 0)
            ∙ sym (get_or-append-add (header_octets shape g id n p) (drop (shape.room * p) bytes) i 0)
            ∙ ap (λ (k : ℕ). get_or (from p) k 0) z)

    word_is : (k : ℕ) → word_at shape g id n (λ i. get_or bytes i 0) k ≡ val 4 (drop (4 * (k % shape.words)) (from (k / shape.words)))
    unfolding word_at
    word_is k =
        let p = k / shape.words in
        let r = k % shape.words in
        rw (
          octet_is p (4 * r + 0),
          octet_is p (4 * r + 1),
          octet_is p (4 * r + 2),
          octet_is p (4 * r + 3),
          ← get_or-drop (4 * r) (from p) 0 0,
          ← get_or-drop (4 * r) (from p) 1 0,
          ← get_or-drop (4 * r) (from p) 2 0,
          ← get_or-drop (4 * r) (from p) 3 0,
        )
        (sym (val_four (drop (4 * r) (from p))))

    module _ (below : Below 256 bytes) where
      row_is : (p r : ℕ) → r < shape.words
          → val 4 (drop (4 * r) (from p)) ≡ number_word shape (head_for shape (base_for shape g id) n p) (val shape.room (drop (shape.room * p) bytes)) r
      unfolding head_for
      row_is p zero h =
          let hs = header_octets shape g id n p in
          let ys = drop (shape.room * p) bytes in
          let four : header shape + firsts shape ≡ 4 = omega (arith, shape.full, shape.ids_fit) in
          (rw four at (val-append (header shape) (firsts shape) hs ys (omega arith)))
          ∙ rw (number_first shape _ _ ys (below_drop 256 (shape.room * p) bytes below) refl, head_number _)
      row_is p (suc r) h =
          let hs = header_octets shape g id n p in
          let ys = drop (shape.room * p) bytes in
          let e : 4 * suc r ≡ length hs + (firsts shape + 4 * (suc r - 1)) = omega (arith, shape.full, shape.ids_fit) in
          ap (λ (j : ℕ). val 4 (drop j (from p))) e
          ∙ ap (val 4) (drop-append-add hs ys (firsts shape + 4 * (suc r - 1)))
          ∙ sym (number_other shape _ _ ys (below_drop 256 (shape.room * p) bytes below) refl (suc r) (omega arith) h)

      pub pack_word : (k : ℕ) → k < words_for shape (length bytes)
          → get_or (pack shape g id bytes) k 0 ≡ flow_word shape (head_for shape (base_for shape g id) (length bytes) (k / shape.words)) bytes k
      unfolding flow_word
      pack_word k h = get_d_pack shape g id bytes named k h ∙ word_is k ∙ row_is (k / shape.words) (k % shape.words) (mod-lt k (words_pos shape))
