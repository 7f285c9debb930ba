-- Numbers of a shape: payload sizes of packets, and how many packets a payload takes. Assumes nothing.
use mathlib.Core.Path.{◌≡◌, refl, sym, ap}
use mathlib.Core.Bool.{Bool, true, false, cond}
use mathlib.Core.Logic.{◌≢◌}
use Prim.Native.Nat.{ℕ, zero, suc, ◌+◌, ◌-◌, ◌*◌, ◌/◌, ◌≤◌, ◌<◌}
use native.Mathlib.Nat.{zero-div, div-add-mod', mod-lt, mul-suc, mul-le-mul_left, le-div_iff_mul-le, div-mul-le_self, div-lt_iff_lt-mul, mul-pos}
use native.Mathlib.Omega.{arith}
use lib.Dec.{eqb, leb}
use lib.Pow.{pow_pos, pow_mono}
use borrow.Author.Tests.{le-leb, lt-leb, leb-true, eq-eqb, ne_eqb}
use Rattle.ump.specs.Packet.{Shape, size_of}
use Rattle.ump.specs.Packing.{by_place, status_for, packets_for, words_for}

module _ (shape : Shape) where
  pub words_pos : 0 < shape.words
  words_pos = omega (arith, shape.full)

  pub limit_pos : 0 < shape.limit
  limit_pos = rw shape.limit_is at (pow_pos shape.width)

  pub limit_fits : shape.limit ≤ 256
  limit_fits = rw shape.limit_is at (pow_mono shape.width_fits)

  -- ---- the payload size of a packet

  pub size_of_count : (count : ℕ) → count ≤ shape.room + shape.bias → size_of shape count ≡ count - shape.bias
  unfolding size_of
  size_of_count count h = rw (le-leb count (shape.room + shape.bias) h)

  pub size_too_big : (count : ℕ) → shape.room + shape.bias < count → size_of shape count ≡ 0
  unfolding size_of
  size_too_big count h = rw (lt-leb count (shape.room + shape.bias) h)

  pub size_small : (count : ℕ) → size_of shape count ≤ shape.room
  unfolding size_of
  size_small count = go (leb count (shape.room + shape.bias)) refl
    where
      go : (b : Bool) → leb count (shape.room + shape.bias) ≡ b → cond b (count - shape.bias) 0 ≤ shape.room
      go true e = omega (arith, leb-true count (shape.room + shape.bias) e)
      go false e = omega arith

  -- ---- the packets of n bytes

  -- without the special case: as numbers go, all bytes but the last of none are none
  pub packets_are : (n : ℕ) → packets_for shape n ≡ suc ((n - 1) / shape.room)
  unfolding packets_for
  packets_are zero = ap suc (sym (zero-div shape.room))
  packets_are (suc n) = rw (ne_eqb (suc n) 0 (λ z. omega arith)) (omega arith)

  pub packets_pos : (n : ℕ) → 0 < packets_for shape n
  packets_pos n = rw (packets_are n) (omega arith)

  -- the bytes fit, and one packet fewer would not hold them
  pub packets_enough : (n : ℕ) → n ≤ shape.room * packets_for shape n
  packets_enough n = rw (packets_are n) (omega (arith, div-add-mod' (n - 1) shape.room, mod-lt (n - 1) shape.some_room))

  pub packets_fewest : (n p : ℕ) → suc p < packets_for shape n → shape.room * suc p < n
  packets_fewest n p h =
      let k : suc p < suc ((n - 1) / shape.room) = rw (packets_are n) at h in
      let l : shape.room * suc p ≤ shape.room * ((n - 1) / shape.room) = mul-le-mul_left shape.room (omega arith) in
      omega (arith, l, div-add-mod' (n - 1) shape.room, mul-suc shape.room p, shape.some_room)

  -- any packets that hold the bytes are no fewer
  pub packets_least : (m n : ℕ) → 0 < n → m ≤ shape.room * n → packets_for shape m ≤ n
  packets_least m n h k =
      rw (packets_are m) ((div-lt_iff_lt-mul shape.some_room).1 (omega (arith, mul-pos shape.some_room h)))

  -- more bytes want no fewer
  pub packets_mono : (m n : ℕ) → m ≤ n → packets_for shape m ≤ packets_for shape n
  packets_mono m n h =
      let l : (m - 1) / shape.room * shape.room ≤ n - 1 = omega (arith, div-mul-le_self (m - 1) shape.room) in
      let k : (m - 1) / shape.room ≤ (n - 1) / shape.room = (le-div_iff_mul-le shape.some_room).1 l in
      rw (packets_are m, packets_are n) (omega arith)

  pub words_mono : (m n : ℕ) → m ≤ n → words_for shape m ≤ words_for shape n
  words_mono m n h = mul-le-mul_left shape.words (packets_mono m n h)

-- ---- the place of a packet among several, as the code branches on it

pub status_small : (n p : ℕ) → status_for n p < 4
unfolding status_for
status_small n p = go (eqb n 1) (eqb p 0) (eqb (suc p) n)
  where
    go : (a b c : Bool) → cond a 0 (cond b 1 (cond c 3 2)) < 4
    go true b c = omega arith
    go false true c = omega arith
    go false false true = omega arith
    go false false false = omega arith

-- any value that goes by a packet's place
module _ {A : Type 0} (alone begin inner last : A) (n p : ℕ) where
  pub place_alone : n ≡ 1 → by_place alone begin inner last n p ≡ alone
  place_alone a = rw (eq-eqb n 1 a)

  pub place_begin : n ≢ 1 → p ≡ 0 → by_place alone begin inner last n p ≡ begin
  place_begin a b = rw (ne_eqb n 1 a, eq-eqb p 0 b)

  pub place_last : n ≢ 1 → p ≢ 0 → suc p ≡ n → by_place alone begin inner last n p ≡ last
  place_last a b c = rw (ne_eqb n 1 a, ne_eqb p 0 b, eq-eqb (suc p) n c)

  pub place_inner : n ≢ 1 → p ≢ 0 → suc p ≢ n → by_place alone begin inner last n p ≡ inner
  place_inner a b c = rw (ne_eqb n 1 a, ne_eqb p 0 b, ne_eqb (suc p) n c)

-- an inner packet is a continue
pub status_inner : (n p : ℕ) → n ≢ 1 → p ≢ 0 → suc p ≢ n → status_for n p ≡ 2
unfolding status_for
status_inner n p a b c = place_inner 0 1 2 3 n p a b c
