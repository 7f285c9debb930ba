-- A packet that is written from the number of its payload octets, word by word. Assumes nothing.
use mathlib.Core.Path.{◌≡◌, ◌∙◌}
use mathlib.Core.List.{List}
use Prim.Native.Nat.{ℕ, ◌+◌, ◌-◌, ◌*◌, ◌/◌, ◌%◌, ◌^◌, ◌<◌}
use native.Mathlib.Nat.{add-zero, mul-suc, mul-add-div, div-eq_of_lt, mul-add-mod_self_left, mod-eq_of_lt}
use native.Mathlib.Numerals.{add-one}
use native.Mathlib.Omega.{arith}
use lib.ListN.{get_or, drop}
use borrow.Author.Tests.{ne_eqb}
use Rattle.ump.specs.Word.{Below}
use Rattle.ump.specs.Packet.{Shape}
use Rattle.ump.proofs.Sizes.{words_pos}
use Rattle.ump.proofs.First.{Side, under, over, side}
use Rattle.flow.specs.Digits.{val}
use Rattle.flow.specs.Flowing.{firsts, number_word, flow_word, Put, Poured}
use Rattle.flow.proofs.Digits.{val_high, val_low}

module _ (shape : Shape) where
  -- the payload octets of a packet: those of its first word, and four of each other
  octets_room : firsts shape + 4 * (shape.words - 1) ≡ shape.room
  octets_room = omega (arith, shape.full, shape.ids_fit)

  -- word r of packet p
  in_packet : (p r : ℕ) → r < shape.words → (shape.words * p + r) / shape.words ≡ p
  in_packet p r h = mul-add-div (words_pos shape) p r ∙ rw (div-eq_of_lt h) (add-zero p)

  in_row : (p r : ℕ) → r < shape.words → (shape.words * p + r) % shape.words ≡ r
  in_row p r h = mul-add-mod_self_left shape.words p r ∙ mod-eq_of_lt h

  -- ---- the words of a packet by its octets

  module _ (head n : ℕ) (xs : List ℕ) (below : Below 256 xs) (is : n ≡ val shape.room xs) where
    pub number_first : number_word shape head n 0 ≡ head + val (firsts shape) xs
    unfolding number_word
    number_first =
        let e : 8 * (4 * (shape.words - 1)) ≡ 32 * (shape.words - 1) = omega arith in
        let v : val shape.room xs / 2 ^ (32 * (shape.words - 1)) ≡ val (firsts shape) xs = rw (octets_room, e) at (val_high (firsts shape) (4 * (shape.words - 1)) xs below) in
        rw (is, v)

    pub number_other : (r : ℕ) → 0 < r → r < shape.words → number_word shape head n r ≡ val 4 (drop (firsts shape + 4 * (r - 1)) xs)
    unfolding number_word
    number_other r l h =
        let k = shape.words - 1 - r in
        let e : 8 * (4 * k) ≡ 32 * k = omega arith in
        let t : firsts shape + 4 * (r - 1) + 4 + 4 * k ≡ shape.room = omega (arith, octets_room) in
        let v : val shape.room xs / 2 ^ (32 * k) ≡ val (firsts shape + 4 * (r - 1) + 4) xs = rw (t, e) at (val_high (firsts shape + 4 * (r - 1) + 4) (4 * k) xs below) in
        rw (ne_eqb r 0 (λ z. omega arith), is, v) (val_low (firsts shape + 4 * (r - 1)) 4 xs below)

  -- ---- a packet that is written from its bytes has the words of the flow

  pub put_is : (head p n : ℕ) (bytes : List ℕ) → n ≡ val shape.room (drop (shape.room * p) bytes)
      → (r : ℕ) → r < shape.words → number_word shape head n r ≡ flow_word shape head bytes (shape.words * p + r)
  unfolding flow_word
  put_is head p n bytes is r h = rw (in_packet p r h, in_row p r h, is)

-- ---- one packet more

pub one_more : (m q : ℕ) → m * (q + 1) ≡ m * q + m
one_more m q = rw add-one (mul-suc m q)

module _ {shape : Shape} {w bytes us us' : List ℕ} {head q n : ℕ} (poured : Poured shape w bytes head q us) (put : Put shape us q head n us')
    (is : n ≡ val shape.room (drop (shape.room * q) bytes)) where
  pub put_poured : Poured shape w bytes head (q + 1) us'
  put_poured = record {
    long = put.long ∙ poured.long;
    done = λ k l. at k (omega (arith, one_more shape.words q)) (side k (shape.words * q));
    rest = λ k l. put.behind k (omega (arith, one_more shape.words q)) ∙ poured.rest k (omega (arith, one_more shape.words q));
  }
    where
      at : (k : ℕ) → k < shape.words * q + shape.words → Side k (shape.words * q) → get_or us' k 0 ≡ flow_word shape head bytes k
      at k l (under u _) = put.before k u ∙ poured.done k u
      at k l (over u _) =
          let r = k - shape.words * q in
          let e : shape.words * q + r ≡ k = omega arith in
          rw e at (put.here r (omega arith) ∙ put_is shape head q n bytes is r (omega arith))
