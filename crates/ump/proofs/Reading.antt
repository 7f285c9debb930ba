-- Laws of the payload reader: what stands where, what a call leaves, and that a message is read to its end. Assumes nothing.
use mathlib.Core.Path.{◌≡◌, refl, sym, ap, ◌∙◌, subst}
use mathlib.Core.List.{List, [], ◌∷◌, ◌++◌, append-nil, append_assoc, map-append}
use Prim.Native.Nat.{ℕ, zero, suc, ◌+◌, ◌-◌, ◌*◌, ◌/◌, ◌≤◌, ◌<◌}
use native.Mathlib.Nat.{add-zero, zero-add, sub-zero, suc-sub-suc, mul-suc, mul-le-mul_left, mul-div-le}
use native.Mathlib.Numerals.{add-one}
use native.Mathlib.Omega.{arith}
use lib.ListN.{length, take, drop, length-append, length-take, length-drop, length-map, drop_of_length-le}
use lib.Seq.{take_all, take-nil, drop-nil, drop-drop, drop-cons, drop-length, take-take, take-append-le, take-append-add, drop-append-le, drop-append-add, length-take-le}
use Rattle.ump.specs.Packet.{Shape, size_at, payload_at, joined, payload, byte_at}
use Rattle.ump.specs.Check.{payload_of}
use Rattle.ump.specs.Reader.{Cursor, byte, ended, Read, row, walk, places, unread, bytes_remaining, read_first, nth, start_of, bytes_at, first_step}
use Rattle.ump.proofs.First.{Side, under, over, side}
use Rattle.ump.proofs.Fronts.{drop-take}
use Rattle.ump.proofs.Depends.{payload_same}
use Rattle.ump.proofs.Bytes.{length-payload_at, get_d_payload_at}

-- ---- the places of one packet

length-row : (p b k : ℕ) → length (row p b k) ≡ k
unfolding row
length-row p b zero = refl
length-row p b (suc k) = ap suc (length-row p (suc b) k)

drop-row : (p b k m : ℕ) → m ≤ k → drop m (row p b k) ≡ row p (b + m) (k - m)
unfolding row
drop-row p b k zero h = rw (add-zero b, sub-zero k)
drop-row p b zero (suc m) h = absurd (omega arith)
drop-row p b (suc k) (suc m) h =
    let e : b + suc m ≡ suc b + m = omega arith in
    rw (e, suc-sub-suc k m) (drop-row p (suc b) k m (omega arith))

module _ (p b k m : ℕ) (l : List (ℕ × ℕ)) where
  -- place m stands in the packet
  met : m < k → drop m (row p b k ++ l) ≡ (p, b + m) ∷ (row p (suc (b + m)) (k - suc m) ++ l)
  unfolding row
  met h =
      let e : k - m ≡ suc (k - suc m) = omega arith in
      drop-append-le m (row p b k) l (omega (arith, length-row p b k)) ∙ rw (drop-row p b k m (omega arith), e)

  -- or it is past the packet
  skipped : k ≤ m → drop m (row p b k ++ l) ≡ drop (m - k) l
  skipped h =
      let e : m ≡ length (row p b k) + (m - k) = omega (arith, length-row p b k) in
      ap (λ (n : ℕ). drop n (row p b k ++ l)) e ∙ drop-append-add (row p b k) l (m - k)

  -- of m places the packet has them all, or k
  enough : m ≤ k → length (take m (row p b k ++ l)) ≡ m
  enough h =
      rw (take-append-le m (row p b k) l (omega (arith, length-row p b k))) (omega (arith, length-take m (row p b k), length-row p b k))

  counted : k ≤ m → length (take m (row p b k ++ l)) ≡ k + length (take (m - k) l)
  counted h =
      let e : m ≡ length (row p b k) + (m - k) = omega (arith, length-row p b k) in
      ap (λ (n : ℕ). length (take n (row p b k ++ l))) e
      ∙ ap length (take-append-add (row p b k) l (m - k))
      ∙ length-append (row p b k) (take (m - k) l)
      ∙ ap (λ (n : ℕ). n + length (take (m - k) l)) (length-row p b k)

-- ---- the places from a byte on

module _ (shape : Shape) (words : List ℕ) where
  -- those of its packet, and then those of the next
  here : (p b : ℕ) → p < length words / shape.words → places shape words p b ≡ row p b (size_at shape words p - b) ++ places shape words (suc p) 0
  unfolding places walk
  here p b h = let e : length words / shape.words - p ≡ suc (length words / shape.words - suc p) = omega arith in rw e

  gone : (p b : ℕ) → length words / shape.words ≤ p → places shape words p b ≡ []
  unfolding places walk
  gone p b h = let e : length words / shape.words - p ≡ 0 = omega arith in rw e

  none_there : {A : Type 0} (p b m : ℕ) (x : ℕ × ℕ) (l : List (ℕ × ℕ)) → length words / shape.words ≤ p → drop m (places shape words p b) ≡ x ∷ l → A
  none_there p b m x l h e =
      let z : x ∷ l ≡ [] = sym e ∙ (ap (drop m) (gone p b h) ∙ drop-nil m) in
      let w : ◌≡◌ {A = ℕ} 0 1 = cc in
      absurd (omega arith)

  -- behind any place stand the places from the next byte on
  onward-places : (k p b m : ℕ) (x : ℕ × ℕ) (l : List (ℕ × ℕ)) → length words / shape.words ≤ p + k → drop m (places shape words p b) ≡ x ∷ l
      → places shape words x.0 (x.1 + 1) ≡ l
  onward-places zero p b m x l h e = none_there p b m x l (omega arith) e
  onward-places (suc k) p b m x l h e =
      go (side p (length words / shape.words)) (side m (size_at shape words p - b)) (λ n f. onward-places k (suc p) 0 n x l (omega arith) f)
    where
      go : Side p (length words / shape.words) → Side m (size_at shape words p - b)
          → ((n : ℕ) → drop n (places shape words (suc p) 0) ≡ x ∷ l → places shape words x.0 (x.1 + 1) ≡ l) → places shape words x.0 (x.1 + 1) ≡ l
      go (over ge y) z again = none_there p b m x l ge e
      go (under lt y) (over ge z) again =
          let n = size_at shape words p - b in
          again (m - n) (sym (skipped p b n m (places shape words (suc p) 0) ge) ∙ (ap (drop m) (sym (here p b lt)) ∙ e))
      go (under lt y) (under lm z) again =
          let n = size_at shape words p - b in
          let rest = places shape words (suc p) 0 in
          let f : (p, b + m) ∷ (row p (suc (b + m)) (n - suc m) ++ rest) ≡ x ∷ l =
          sym (met p b n m rest lm) ∙ (ap (drop m) (sym (here p b lt)) ∙ e)
          in
          let fx : (p, b + m) ≡ x = cc in
          let fl : row p (suc (b + m)) (n - suc m) ++ rest ≡ l = cc in
          let j : size_at shape words p - suc (b + m) ≡ n - suc m = omega arith in
          subst (λ (y : ℕ × ℕ). places shape words y.0 (y.1 + 1) ≡ l) fx (rw (add-one (b + m)) (here p (suc (b + m)) lt ∙ rw j fl))

  -- ---- what a call answers, and what it leaves

  module _ (c : Cursor) (n : ℕ) where
    abbrev all : List (ℕ × ℕ)
    all = places shape words c.packet c.byte

    -- within the count: what stands there
    nth_within : (l : List (ℕ × ℕ)) → n < c.remaining → drop n all ≡ l → nth shape words c n ≡ read_first shape words (c.remaining - (n + 1)) l
    unfolding nth unread
    nth_within l h e =
        let r : c.remaining - n ≡ suc (c.remaining - (n + 1)) = omega arith in
        rw (drop-take n c.remaining all, e, r) (first_of (c.remaining - (n + 1)) l)
      where
        first_of : (k : ℕ) (l : List (ℕ × ℕ)) → read_first shape words k (take (suc k) l) ≡ read_first shape words k l
        first_of k [] = refl
        first_of k (x ∷ l) = refl

    -- past the count: the end
    pub nth-over : c.remaining ≤ n → nth shape words c n ≡ read_first shape words 0 []
    unfolding nth unread
    nth-over h = let r : c.remaining - n ≡ 0 = omega arith in rw (drop-take n c.remaining all, r)

    tail : (l : List (ℕ × ℕ)) → drop n all ≡ l → drop (n + 1) (unread shape words c) ≡ take (c.remaining - (n + 1)) (drop 1 l)
    unfolding unread
    tail l e =
        drop-take (n + 1) c.remaining all
        ∙ ap (take (c.remaining - (n + 1))) (sym (drop-drop 1 n all) ∙ ap (drop 1) e)

    after : Side n c.remaining → (l : List (ℕ × ℕ)) → drop n all ≡ l
        → unread shape words (nth shape words c n).cursor ≡ drop (n + 1) (unread shape words c)
    unfolding unread
    after (over ge y) l e = let r : c.remaining - (n + 1) ≡ 0 = omega arith in rw (nth-over ge) (sym (tail l e ∙ rw r))
    after (under lt y) [] e = rw (nth_within [] lt e) (sym (tail [] e ∙ take-nil (c.remaining - (n + 1))))
    after (under lt y) (x ∷ l) e =
        rw (nth_within (x ∷ l) lt e)
        (ap (take (c.remaining - (n + 1))) (onward-places (length words / shape.words) c.packet c.byte n x l (omega arith) e)
        ∙ sym (tail (x ∷ l) e))

    -- a call leaves the places behind those that it passed, and so as many fewer bytes
    pub unread_after : unread shape words (nth shape words c n).cursor ≡ drop (n + 1) (unread shape words c)
    unread_after = after (side n c.remaining) (drop n all) refl

    pub remaining_after : bytes_remaining shape words (nth shape words c n).cursor ≡ bytes_remaining shape words c - (n + 1)
    unfolding bytes_remaining
    remaining_after = ap length unread_after ∙ length-drop (n + 1) (unread shape words c)

    -- with no more than n to be read the answer is the end
    pub nth_ends : bytes_remaining shape words c ≤ n → nth shape words c n ≡ read_first shape words 0 []
    unfolding bytes_remaining nth
    nth_ends h = rw (drop_of_length-le (unread shape words c) {i = n} h)

    -- which leaves nothing, and with nothing left the answer is the end for ever
    pub end_leaves : (nth shape words c n).step ≡ ended → bytes_remaining shape words (nth shape words c n).cursor ≡ 0
    unfolding bytes_remaining unread nth
    end_leaves e = go (drop n (unread shape words c)) e
      where
        go : (l : List (ℕ × ℕ)) → (read_first shape words (c.remaining - (n + 1)) l).step ≡ ended
            → length (unread shape words (read_first shape words (c.remaining - (n + 1)) l).cursor) ≡ 0
        go [] e = refl
        go (x ∷ l) e = let z : ◌≡◌ {A = ℕ} 0 1 = cc in absurd (omega arith)

    pub ended_for_ever : bytes_remaining shape words c ≡ 0
        → ((nth shape words c n).step ≡ ended) × (bytes_remaining shape words (nth shape words c n).cursor ≡ 0)
    ended_for_ever e = (ap (λ (r : Read). r.step) (nth_ends (omega arith)), omega (arith, remaining_after))

-- ---- the bytes that a cursor has yet to read

-- a call answers byte n of them, and behind the last the end
step_at : (shape : Shape) (words : List ℕ) (k n : ℕ) (l : List (ℕ × ℕ)) → (read_first shape words k (drop n l)).step ≡ first_step (drop n (bytes_at shape words l))
step_at shape words k zero [] = refl
step_at shape words k zero (x ∷ l) = refl
step_at shape words k (suc n) [] = refl
step_at shape words k (suc n) (x ∷ l) = step_at shape words k n l

pub nth-step : (shape : Shape) (words : List ℕ) (c : Cursor) (n : ℕ) → (nth shape words c n).step ≡ first_step (drop n (bytes_at shape words (unread shape words c)))
unfolding nth
nth-step shape words c n = step_at shape words (c.remaining - (n + 1)) n (unread shape words c)

-- ---- a message is read to its end

module _ (shape : Shape) (words : List ℕ) where
  whole : (p : ℕ) → p < length words / shape.words → shape.words * p + shape.words ≤ length words
  whole p h =
      let m : shape.words * suc p ≤ shape.words * (length words / shape.words) = mul-le-mul_left shape.words (omega arith) in
      omega (arith, m, mul-suc shape.words p, mul-div-le (length words) shape.words)

  bytes_row : (p b n : ℕ) → p < length words / shape.words → b + n ≡ size_at shape words p → bytes_at shape words (row p b n) ≡ drop b (payload_at shape words p)
  unfolding row
  bytes_row p b zero h e =
      let l : length (payload_at shape words p) ≡ b = omega (arith, length-payload_at shape words p (whole p h)) in
      rw (← l) (sym (drop-length (payload_at shape words p)))
  bytes_row p b (suc n) h e =
      let l : b < length (payload_at shape words p) = omega (arith, length-payload_at shape words p (whole p h)) in
      rw (bytes_row p (suc b) n h (omega arith))
      (sym (drop-cons (payload_at shape words p) b 0 l ∙ rw (get_d_payload_at shape words p (whole p h) b (omega arith))))

  bytes_walk : (k p : ℕ) → p + k ≤ length words / shape.words
      → joined (payload_at shape words) p ++ bytes_at shape words (walk shape words p 0 k) ≡ joined (payload_at shape words) (p + k)
  unfolding walk joined
  bytes_walk zero p h = rw (add-zero p) (append-nil (joined (payload_at shape words) p))
  bytes_walk (suc k) p h =
      let n = size_at shape words p - 0 in
      let e : p + suc k ≡ suc p + k = omega arith in
      ap (λ (l : List ℕ). joined (payload_at shape words) p ++ l)
      (map-append (λ place. byte_at shape words place.0 place.1) (row p 0 n) (walk shape words (suc p) 0 k)
      ∙ ap (λ (l : List ℕ). l ++ bytes_at shape words (walk shape words (suc p) 0 k)) (bytes_row p 0 n (omega arith) (omega arith)))
      ∙ sym (append_assoc (joined (payload_at shape words) p) (payload_at shape words p) (bytes_at shape words (walk shape words (suc p) 0 k)))
      ∙ rw e (bytes_walk k (suc p) (omega arith))

  -- the bytes at the places from the start on are the payload of the packets that are there
  pub bytes_places : bytes_at shape words (places shape words 0 0) ≡ payload shape words (length words / shape.words)
  unfolding places payload joined
  bytes_places = rw (sub-zero (length words / shape.words)) (bytes_walk (length words / shape.words) 0 (omega arith) ∙ rw (zero-add (length words / shape.words)))

-- from the start, with its size as the count, a payload is read whole: byte by byte, and then the end
module _ (shape : Shape) (words : List ℕ) where
  abbrev content : List ℕ
  content = payload shape words (length words / shape.words)

  pub unread-payload : bytes_at shape words (unread shape words (start_of (length content))) ≡ content
  unfolding unread
  unread-payload =
      let e = bytes_places shape words in
      let l : length (places shape words 0 0) ≡ length content =
      sym (length-map (places shape words 0 0) (λ place. byte_at shape words place.0 place.1)) ∙ ap length e
      in
      rw (take_all (length content) (places shape words 0 0) (omega arith)) e

  pub reads_payload : (n : ℕ) → (nth shape words (start_of (length content)) n).step ≡ first_step (drop n content)
  reads_payload n = nth-step shape words (start_of (length content)) n ∙ ap (λ (l : List ℕ). first_step (drop n l)) unread-payload

-- and so is the message in the first len words (all of them lent, as in any valid one), whatever stands behind it
module _ (shape : Shape) (words : List ℕ) (len : ℕ) (inside : len ≤ length words) where
  payload-take : payload shape (take len words) (length (take len words) / shape.words) ≡ payload_of shape words len
  payload-take = rw (length-take-le len words inside) (payload_same shape (take len words) words len (take-take len len words (omega arith)))

  pub unread_message : bytes_at shape (take len words) (unread shape (take len words) (start_of (length (payload_of shape words len)))) ≡ payload_of shape words len
  unread_message = rw payload-take at (unread-payload shape (take len words))

  pub reads_message : (n : ℕ) → (nth shape (take len words) (start_of (length (payload_of shape words len))) n).step ≡ first_step (drop n (payload_of shape words len))
  reads_message n = rw payload-take at (reads_payload shape (take len words) n)

-- ---- a turn of a loop over the packets, at byte b of packet p, where k bytes stand

module _ (shape : Shape) (words : List ℕ) (p b k : ℕ) (there : p < length words / shape.words) (standing : k ≡ size_at shape words p - b) (m : ℕ) where
  split : places shape words p b ≡ row p b k ++ places shape words (p + 1) 0
  split = rw (standing, add-one p) (here shape words p b there)

  -- m places on: in a later packet, or here
  pub passed : (l : List (ℕ × ℕ)) → k ≤ m → drop m (places shape words p b) ≡ l → drop (m - k) (places shape words (p + 1) 0) ≡ l
  passed l h e = sym (skipped p b k m (places shape words (p + 1) 0) h) ∙ (ap (drop m) (sym split) ∙ e)

  pub found : (c : Cursor) (n : ℕ) → n < c.remaining → m < k → drop m (places shape words p b) ≡ drop n (places shape words c.packet c.byte)
      → record {
        step = byte (byte_at shape words p (b + m));
        cursor = record { packet = p; byte = b + m + 1; remaining = c.remaining - n - 1 };
      }
      ≡ nth shape words c n
  found c n h l e =
      let q : c.remaining - n - 1 ≡ c.remaining - (n + 1) = omega arith in
      rw q (sym (nth_within shape words c n _ h (sym e ∙ (ap (drop m) split ∙ met p b k m (places shape words (p + 1) 0) l))))

  -- of m bytes, all that are here are counted, or m
  pub counted_here : (r t : ℕ) → k ≤ m → m ≤ r → length (take m (places shape words p b)) + (r - m) ≡ t
      → length (take (m - k) (places shape words (p + 1) 0)) + (r - (m - k)) ≡ t
  counted_here r t h le e =
      omega (arith, ap (λ (l : List (ℕ × ℕ)). length (take m l)) split, counted p b k m (places shape words (p + 1) 0) h)

  pub all_here : (r t : ℕ) → m ≤ k → m ≤ r → length (take m (places shape words p b)) + (r - m) ≡ t → r ≡ t
  all_here r t h le e =
      omega (arith, ap (λ (l : List (ℕ × ℕ)). length (take m l)) split, enough p b k m (places shape words (p + 1) 0) h)

-- no packet is left
module _ (shape : Shape) (words : List ℕ) (p b m : ℕ) (none : length words / shape.words ≤ p) where
  pub out : (c : Cursor) (n : ℕ) → n < c.remaining → drop m (places shape words p b) ≡ drop n (places shape words c.packet c.byte)
      → read_first shape words 0 [] ≡ nth shape words c n
  out c n h e = sym (nth_within shape words c n [] h (sym e ∙ (ap (drop m) (gone shape words p b none) ∙ drop-nil m)))

  pub counted_out : (r t : ℕ) → length (take m (places shape words p b)) + (r - m) ≡ t → r - m ≡ t
  counted_out r t e =
      omega (arith, ap (λ (l : List (ℕ × ℕ)). length (take m l)) (gone shape words p b none), ap length (take-nil {A = ℕ × ℕ} m))
