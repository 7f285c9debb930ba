-- Payload sizes by the numbers of a shape, and the search for a byte. Assumes nothing.
use mathlib.Core.Bool.{true, false}
use mathlib.Core.Path.{◌≡◌, refl, sym, ap, ◌∙◌, subst}
use mathlib.Core.List.{List}
use Prim.Native.Nat.{ℕ, zero, suc, ◌+◌, ◌-◌, ◌*◌, ◌/◌, ◌%◌, ◌≤◌, ◌<◌}
use native.Mathlib.Nat.{mul-suc, mul-le-mul_left}
use native.Mathlib.Numerals.{add-one}
use native.Mathlib.Omega.{arith}
use lib.Dec.{ltb}
use lib.ListN.{length, get_or, length-append}
use borrow.Author.Tests.{lt-ltb, le-ltb}
use Rattle.ump.specs.Word.{nibble}
use Rattle.ump.specs.Packet.{Shape, count_at, size_at, payload_at, joined, payload}
use Rattle.ump.specs.Limits.{most_words}
use Rattle.ump.specs.Edits.{total}
use Rattle.ump.specs.Setters.{packet_of, byte_in}
use Rattle.ump.proofs.First.{first_is, Passed, passed_zero, passed_one, passed_here, first_cong, first_le, Side, under, over, side}
use Rattle.ump.proofs.Sizes.{size_of_count}
use Rattle.ump.proofs.Bytes.{length-payload_at}
use Rattle.message.specs.Scan.{Inside, Counted, size_to, Sized, Found}
use Rattle.message.proofs.Laws.{here}

-- ---- the search for payload byte i

-- what the loop knows at packet p: no packet passed reaches i, and b bytes are left to go
pub record Seeking (stride least : ℕ) (ws : List ℕ) (n i p b : ℕ) : Type 0 where
  pub passed : Passed (λ q. ltb i (size_to stride least ws (suc q))) n p
  pub left : i ≡ size_to stride least ws p + b

size_more : (stride least : ℕ) (ws : List ℕ) (p : ℕ)
    → size_to stride least ws (suc p) ≡ size_to stride least ws p + (nibble (get_or ws (stride * p) 0) 3 - least)
unfolding size_to total
size_more stride least ws p = refl

module _ {stride least : ℕ} {ws : List ℕ} {n i : ℕ} where
  pub seek_start : Seeking stride least ws n i 0 i
  unfolding size_to total
  seek_start = record { passed = passed_zero; left = omega arith }

  -- there is a packet to look at
  pub seek_below : {p b : ℕ} → i < size_to stride least ws n → Seeking stride least ws n i p b → p < n
  seek_below {p} {b} h k = go (side p n)
    where
      go : Side p n → p < n
      go (under l e) = l
      go (over l e) =
          let q : p ≡ n = omega (arith, k.passed.within) in
          let z : i ≡ size_to stride least ws n + b = subst (λ (m : ℕ). i ≡ size_to stride least ws m + b) q k.left in
          absurd (omega arith)

  -- it is not in packet p
  pub seek_more : {p b count : ℕ} → Seeking stride least ws n i p b → p < n → count ≡ nibble (get_or ws (stride * p) 0) 3 → count - least ≤ b
      → Seeking stride least ws n i (p + 1) (b - (count - least))
  seek_more {p} {b} k l e h =
      record {
        passed = passed_one k.passed l (le-ltb i (size_to stride least ws (suc p)) (omega (arith, size_more stride least ws p, k.left)));
        left = rw add-one (omega (arith, size_more stride least ws p, k.left));
      }

  -- it is
  pub seek_found : {p b count : ℕ} → Seeking stride least ws n i p b → p < n → count ≡ nibble (get_or ws (stride * p) 0) 3 → b < count - least
      → Found stride least ws n i p b
  seek_found {p} {b} k l e h =
      record {
        packet_is = passed_here k.passed l (lt-ltb i (size_to stride least ws (suc p)) (omega (arith, size_more stride least ws p, k.left)));
        byte_is = k.left;
      }

-- ---- where every packet but the last is full

pub total_most : (f : ℕ → ℕ) (k n : ℕ) → ((p : ℕ) → p < n → f p ≤ k) → total f n ≤ k * n
unfolding total
total_most f k zero h = omega arith
total_most f k (suc n) h = omega (arith, total_most f k n (λ p l. h p (omega arith)), h n (omega arith), mul-suc k n)

-- a sum is as large as it can be only if each of its parts is
total-full : (f : ℕ → ℕ) (k n : ℕ) → ((p : ℕ) → p < n → f p ≤ k) → total f n ≡ k * n → (p : ℕ) → p ≤ n → total f p ≡ k * p
unfolding total
total-full f k zero h e p l = let z : p ≡ 0 = omega arith in rw z e
total-full f k (suc n) h e p l = go (side p (suc n)) (total-full f k n (λ q m. h q (omega arith)))
  where
    go : Side p (suc n) → (total f n ≡ k * n → (q : ℕ) → q ≤ n → total f q ≡ k * q) → total f p ≡ k * p
    go (under m z) rest = rest (omega (arith, mul-suc k n, h n (omega arith), total_most f k n (λ q m. h q (omega arith)))) p (omega arith)
    go (over m z) rest = let q : p ≡ suc n = omega arith in rw q e

-- the size says so, and then payload byte room * p + b is byte b of packet p
module _ (stride least room : ℕ) (ws : List ℕ) (last : ℕ) (counted : Counted stride (suc last) least (room + least) ws)
    (full : size_to stride least ws (suc last) ≡ room * last + (nibble (get_or ws (stride * last) 0) 3 - least)) where
  room_enough : (p : ℕ) → p < suc last → nibble (get_or ws (stride * p) 0) 3 - least ≤ room
  room_enough p l = omega (arith, (counted p l).1)

  size_full : (p : ℕ) → p ≤ last → size_to stride least ws p ≡ room * p
  unfolding size_to total
  size_full p l = total-full (λ q. nibble (get_or ws (stride * q) 0) 3 - least) room last (λ q m. room_enough q (omega arith)) (omega (arith, full)) p l

  found_full : {i p b : ℕ} → i < size_to stride least ws (suc last) → i ≡ room * p + b → b < room → Found stride least ws (suc last) i p b
  found_full {i} {p} {b} h e k =
      record {
        packet_is = sym (first_is (λ q. ltb i (size_to stride least ws (suc q))) (suc last) p (omega (arith, below)) passed (λ l. reached (side p last)));
        byte_is = omega (arith, size_full p below);
      }
    where
      below : p ≤ last
      below = go (side last p)
        where
          go : Side last p → p ≤ last
          go (under l z) = absurd (omega (arith, mul-le-mul_left room l, mul-suc room last, room_enough last (omega arith), full))
          go (over l z) = l

      passed : (q : ℕ) → q < p → ltb i (size_to stride least ws (suc q)) ≡ false
      passed q l = le-ltb i _ (omega (arith, size_full (suc q) (omega (arith, below)), mul-le-mul_left room l))

      reached : Side p last → ltb i (size_to stride least ws (suc p)) ≡ true
      reached (under l z) = lt-ltb i _ (omega (arith, size_full (suc p) l, mul-suc room p))
      reached (over l z) =
          let q : last ≡ p = omega (arith, below) in
          lt-ltb i _ (rw q at h)

-- of a SysEx8 message
pub size_few : {ws : List ℕ} {n size : ℕ} → Sized ws n size → size ≤ 16 * most_words
unfolding size_to
size_few {ws} {n} m =
    omega (arith, m.size_is, m.inside.few, total_most (λ p. nibble (get_or ws (4 * p) 0) 3 - 1) 13 n (λ p l. omega (arith, (m.counted p l).1)))

module _ {ws : List ℕ} {n size i : ℕ} (m : Sized ws n size) (h : i < size) where
  pub below_size : i < size_to 4 1 ws n
  below_size = rw m.size_is at h

  pub some_packet : 0 < n
  some_packet = seek_below below_size (seek_start {i = i})

  pub at_once : size + 1 ≡ 13 * (n - 1) + nibble (get_or ws (4 * (n - 1)) 0) 3 → Found 4 1 ws n i (i / 13) (i % 13)
  at_once full =
      let q : n ≡ suc (n - 1) = omega (arith, some_packet) in
      let e : size ≡ 13 * (n - 1) + (nibble (get_or ws (4 * (n - 1)) 0) 3 - 1) = omega (arith, (m.counted (n - 1) (omega (arith, some_packet))).0) in
      subst (λ (k : ℕ). Found 4 1 ws k i (i / 13) (i % 13)) (sym q)
      (found_full 4 1 13 ws (n - 1) (λ p l. m.counted p (omega arith)) (rw (← q) (sym m.size_is ∙ e)) (rw (← q) below_size) (omega arith) (omega arith))

-- ---- for a shape, these are the sizes of its payload

module _ (s : Shape) (ws : List ℕ) (n : ℕ) (inside : Inside s.words n ws) (counted : Counted s.words n s.bias (s.room + s.bias) ws) where
  pub size-at : (p : ℕ) → p < n → size_at s ws p ≡ nibble (get_or ws (s.words * p) 0) 3 - s.bias
  size-at p l = size_of_count s (count_at s ws p) (counted p l).1

  pub size-to : (m : ℕ) → m ≤ n → size_to s.words s.bias ws m ≡ length (payload s ws m)
  unfolding size_to total payload joined
  size-to zero l = refl
  size-to (suc m) l =
      let there : s.words * m + s.words ≤ length ws = (here m inside l).there in
      omega (arith, size-to m (omega arith), length-append (joined (payload_at s ws) m) (payload_at s ws m), length-payload_at s ws m there, size-at m l)

  pub found_place : {i p b : ℕ} → Found s.words s.bias ws n i p b → (p ≡ packet_of s ws n i) × (b ≡ byte_in s ws n i)
  unfolding packet_of byte_in
  found_place {i} {p} {b} f =
      let e : p ≡ packet_of s ws n i = f.packet_is ∙ first_cong _ _ n (λ q l. ap (ltb i) (size-to (suc q) l)) in
      let l : p ≤ n = rw f.packet_is (first_le (λ q. ltb i (size_to s.words s.bias ws (suc q))) n) in
      (e, rw (← e) (omega (arith, f.byte_is, size-to p l)))
