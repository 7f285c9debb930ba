-- A message whose packets are full but for the last, with one head in all of them. Assumes nothing.
use mathlib.Core.Path.{◌≡◌, refl, sym, ap, ◌∙◌}
use mathlib.Core.List.{List, ◌++◌}
use Prim.Native.Nat.{ℕ, zero, suc, ◌+◌, ◌-◌, ◌*◌, ◌/◌, ◌%◌, ◌^◌, ◌≤◌, ◌<◌, max}
use native.Mathlib.Nat.{add-zero}
use native.Mathlib.Decide.{ℕ_discrete}
use native.Mathlib.Omega.{arith}
use lib.ListN.{length, get_or, take, drop, replicate, length-set}
use lib.Seq.{take-take, get_or-set_same, get_or-set_other, drop-set-lt}
use Rattle.ump.specs.Word.{octet, word}
use Rattle.ump.specs.Packet.{sysex8, group_at, id_at, size_at, payload}
use Rattle.ump.specs.Packing.{status_for}
use Rattle.ump.specs.Check.{payload_of}
use Rattle.ump.specs.Splice.{stored}
use Rattle.ump.proofs.First.{Side, under, over, side}
use Rattle.ump.proofs.Sizes.{status_inner}
use Rattle.flow.specs.Digits.{val}
use Rattle.flow.specs.Flowing.{flow_word, number_word}
use Rattle.flow.specs.Heads.{inner_head}
use Rattle.flow.proofs.Digits.{val-take}
use Rattle.flow.proofs.Puts.{put_is}
use Rattle.message.specs.Accepted.{Accepted}
use Rattle.splice.specs.Accepted.{Full}
use Rattle.splice.specs.Header.{base_of, with_head, leveled}
use Rattle.merge.specs.Thirteens.{body}
use Rattle.merge.specs.Pieces.{Stands}
use Rattle.merge.proofs.Bodies.{body-number, body-fits, body_of_number, body_injective}
use Rattle.flow.proofs.Octets as heads
use Rattle.splice.proofs.Messages as messages
use Rattle.splice.proofs.Messages.{inside, counts, size_is, size_fits, first_is}
use Rattle.splice.proofs.Levels.{length-full}
use Rattle.splice.proofs.Taken.{taken_next, piece_is}

-- ---- the bytes where they stand

module _ {w : List ℕ} {len n : ℕ} (ok : Accepted w len n) (full : Full w len) where
  abbrev all : List ℕ
  all = payload_of sysex8 w len

  enough : (p x : ℕ) → p < len / 4 → x ≤ 13 → 13 * p + x ≤ n → x ≤ size_at sysex8 w p
  enough p x h l fits = go (side (p + 1) (len / 4))
    where
      go : Side (p + 1) (len / 4) → x ≤ size_at sysex8 w p
      go (under a _) = omega (arith, full p a)
      go (over a _) =
          let e : p + 1 ≡ len / 4 = omega arith in
          let t : length (payload sysex8 w (p + 1)) ≡ n = rw e (sym ok.sized) in
          omega (arith, t, taken_next ok p h, length-full ok full p h)

  standing : (p x : ℕ) → p < len / 4 → x ≤ 13 → 13 * p + x ≤ n → take x (body w p) ≡ take x (drop (13 * p) all)
  standing p x h l fits =
      let s = size_at sysex8 w p in
      let le : x ≤ s = enough p x h l fits in
      let same : take s (drop (13 * p) all) ≡ take s (body w p) = rw (length-full ok full p h) at (piece_is ok p h) in
      sym (take-take x s (body w p) le) ∙ ap (take x) (sym same) ∙ take-take x s (drop (13 * p) all) le

-- ---- a packet by its words

words-number : (a b c d head r : ℕ) → a < 2 ^ 32 → b < 2 ^ 32 → c < 2 ^ 32 → d < 2 ^ 32 → r < 4
    → (x : ℕ) → (r ≡ 0 → x ≡ head + a % 256) → (r ≡ 1 → x ≡ b) → (r ≡ 2 → x ≡ c) → (r ≡ 3 → x ≡ d)
    → x ≡ number_word sysex8 head ((a % 256 * 2 ^ 32 + b) * 2 ^ 64 + (c * 2 ^ 32 + d)) r
unfolding number_word
words-number a b c d head zero ha hb hc hd l x f g h i = f refl ∙ omega arith
words-number a b c d head (suc zero) ha hb hc hd l x f g h i = g refl ∙ omega arith
words-number a b c d head (suc (suc zero)) ha hb hc hd l x f g h i = h refl ∙ omega arith
words-number a b c d head (suc (suc (suc zero))) ha hb hc hd l x f g h i = i refl ∙ omega arith
words-number a b c d head (suc (suc (suc (suc r)))) ha hb hc hd l x f g h i = absurd (omega arith)

-- ---- the first words

module _ {w : List ℕ} {len n : ℕ} (ok : Accepted w len n) (full : Full w len) (small : (k : ℕ) → get_or w k 0 < 2 ^ 32) (base : ℕ) (base_is : base ≡ base_of (get_or w 0 0)) where
  abbrev head : ℕ
  head = inner_head sysex8 base

  head_plain : head % 256 ≡ 0
  head_plain = omega arith

  -- that of a packet between others
  between : (p : ℕ) → 0 < p → p + 1 < len / 4 → get_or w (4 * p) 0 ≡ head + get_or w (4 * p) 0 % 256
  between p low high =
      let s : status_for (len / 4) p ≡ 2 = status_inner (len / 4) p (λ i. omega arith) (λ i. omega arith) (λ i. omega arith) in
      let c : get_or w (4 * p) 0 / 65536 % 16 ≡ 14 = omega (arith, size_is ok p (omega arith), full p high, counts ok p (omega arith)) in
      let here : word (80 + group_at sysex8 w 0) (2 * 16 + 14) (octet (get_or w 0 0) 2) (get_or w (4 * p) 0 % 256) ≡ get_or w (4 * p) 0 = rw (s, c) at (first_is ok p (omega arith) (small (4 * p))) in
      let shared : base ≡ word (80 + group_at sysex8 w 0) 0 (octet (get_or w 0 0) 2) 0 = base_is ∙ messages.base_is ok ∙ heads.base_is sysex8 (group_at sysex8 w 0) (id_at sysex8 w 0) in
      alike (get_or w (4 * p) 0) (octet (get_or w 0 0) 2) (group_at sysex8 w 0) here shared
    where
      alike : (x id g : ℕ) → word (80 + g) 46 id (x % 256) ≡ x → base ≡ word (80 + g) 0 id 0 → x ≡ head + x % 256
      alike x id g e b = sym e ∙ omega arith

  abbrev last : ℕ
  last = len - 4

  abbrev once : List ℕ
  once = with_head head w 0

  -- all of them with one head
  abbrev level : List ℕ
  level = leveled head w len

  module _ (k : ℕ) where
    -- a word that is no first one
    other_word : (k % 4 ≡ 0 → ⊥) → get_or level k 0 ≡ get_or w k 0
    other_word h = get_or-set_other once last k _ 0 (λ e. h (rows k e)) ∙ get_or-set_other w 0 k _ 0 (λ e. h (omega arith))
      where
        rows : (k : ℕ) → k ≡ len - 4 → k % 4 ≡ 0
        rows k e = omega (arith, inside ok)

  -- the first words of its packets
  head-word : (p : ℕ) → p < len / 4 → get_or level (4 * p) 0 ≡ head + get_or w (4 * p) 0 % 256
  head-word p h = go (ℕ_discrete (4 * p) last) (ℕ_discrete (4 * p) 0)
    where
      long : length once ≡ length w
      long = length-set w 0 (head + get_or w 0 0 % 256)

      byte_once : (i : ℕ) → Dec (i ≡ 0) → get_or once i 0 % 256 ≡ get_or w i 0 % 256
      byte_once i (yes e) = rw (e, get_or-set_same w 0 (head + get_or w 0 0 % 256) 0 (omega (arith, inside ok))) (omega (arith, head_plain))
      byte_once i (no e) = ap (λ (x : ℕ). x % 256) (get_or-set_other w 0 i _ 0 e)

      go : Dec (4 * p ≡ last) → Dec (4 * p ≡ 0) → get_or level (4 * p) 0 ≡ head + get_or w (4 * p) 0 % 256
      go (yes e) _ = rw e (get_or-set_same once last _ 0 (omega (arith, long, inside ok)) ∙ ap (λ (x : ℕ). head + x) (byte_once last (ℕ_discrete last 0)))
      go (no e) (yes z) = get_or-set_other once last (4 * p) _ 0 e ∙ rw z (get_or-set_same w 0 _ 0 (omega (arith, inside ok)))
      go (no e) (no z) =
          get_or-set_other once last (4 * p) _ 0 e ∙ get_or-set_other w 0 (4 * p) _ 0 z ∙ between p (omega arith) (inner (len / 4) (inside ok).1.1.0 e)
        where
          inner : (packets : ℕ) → len ≡ 4 * packets → (4 * p ≡ len - 4 → ⊥) → p + 1 < len / 4
          inner packets q n = omega (arith, n)

  -- each word by the number of its packet
  by_number : (p r : ℕ) → p < len / 4 → r < 4 → get_or level (4 * p + r) 0 ≡ number_word sysex8 head (val 13 (body w p)) r
  by_number p r h l =
      let z : 4 * p + 0 ≡ 4 * p = omega arith in
      rw (body-number w p (small (4 * p + 1)) (small (4 * p + 2)) (small (4 * p + 3)))
      (words-number (get_or w (4 * p) 0) (get_or w (4 * p + 1) 0) (get_or w (4 * p + 2) 0) (get_or w (4 * p + 3) 0) head r (small (4 * p)) (small (4 * p + 1)) (small (4 * p + 2)) (small (4 * p + 3)) l (get_or level (4 * p + r) 0)
      (λ e. rw (e, z) (head-word p h))
      (λ e. rw e (other_word (4 * p + 1) (λ i. omega arith)))
      (λ e. rw e (other_word (4 * p + 2) (λ i. omega arith)))
      (λ e. rw e (other_word (4 * p + 3) (λ i. omega arith))))

  same_body : (p : ℕ) → p < len / 4 → body level p ≡ body w p
  same_body p h = body_injective level w p p (body_of_number level p head (val 13 (body w p)) (λ r l. by_number p r h l) (body-fits w p) head_plain)

  packet_there : (q s : ℕ) → 0 < s → 13 * q + s ≤ length (payload_of sysex8 w len) → q < len / 4
  packet_there q s h l = omega (arith, size_fits ok, ok.sized)

  pub leveled_stands : Stands (leveled (inner_head sysex8 base) w len) (payload_of sysex8 w len) (inner_head sysex8 base) 0 0
  leveled_stands = record {
    whole = λ q r a b c. words q r b c;
    part = λ q s a b c. bytes q s b c (side 0 s);
  }
    where
      words : (q r : ℕ) → 13 * q + 13 ≤ length (payload_of sysex8 w len) → r < 4 → get_or level (4 * (q + 0) + r) 0 ≡ flow_word sysex8 head (payload_of sysex8 w len) (4 * q + r)
      words q r b c =
          let h = packet_there q 13 (omega arith) b in
          let n : val 13 (body w q) ≡ val 13 (drop (13 * q) (payload_of sysex8 w len)) =
          sym (val-take 13 13 (body w q) (omega arith)) ∙ ap (val 13) (standing ok full q 13 h (omega arith) (omega (arith, ok.sized))) ∙ val-take 13 13 (drop (13 * q) (payload_of sysex8 w len)) (omega arith) in
          rw (add-zero q) (by_number q r h c ∙ put_is sysex8 head q (val 13 (body w q)) (payload_of sysex8 w len) n r c)

      bytes : (q s : ℕ) → s ≤ 13 → 13 * q + s ≤ length (payload_of sysex8 w len) → Side 0 s → take s (body level (q + 0)) ≡ take s (drop (13 * q) (payload_of sysex8 w len))
      bytes q s b c (under l _) =
          let h = packet_there q s l c in
          rw (add-zero q) (ap (take s) (same_body q h) ∙ standing ok full q s h b (omega (arith, ok.sized)))
      bytes q s b c (over l _) =
          let z : s ≡ 0 = omega arith in
          rw z

  -- what stands behind it is as it was
  pub leveled-stored : (m : List ℕ) → stored (leveled (inner_head sysex8 base) w len) len m ≡ stored w len m
  unfolding stored
  leveled-stored m =
      let k = max len (length m) in
      let behind : drop k level ≡ drop k w = drop-set-lt k once last _ (far len (length m) (inside ok).1.1.1) ∙ drop-set-lt k w 0 _ (some len (length m) (inside ok).1.1.1) in
      ap (λ (l : List ℕ). m ++ (replicate (len - length m) 0 ++ l)) behind
    where
      far : (len n : ℕ) → 0 < len / 4 → len - 4 < max len n
      far len n h = omega arith

      some : (len n : ℕ) → 0 < len / 4 → 0 < max len n
      some len n h = omega arith

pub leveled_long : (head : ℕ) (w : List ℕ) (len : ℕ) → length (leveled head w len) ≡ length w
leveled_long head w len = simp length-set
