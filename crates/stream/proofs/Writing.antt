-- Packet after packet: the words written so far are those of the fewest-packet form, and the rest are as they were. Assumes nothing.
use mathlib.Core.Path.{◌≡◌, refl, ◌∙◌}
use mathlib.Core.List.{List, [], ◌∷◌, ◌++◌}
use Prim.Native.Nat.{ℕ, zero, suc, ◌+◌, ◌-◌, ◌*◌, ◌/◌, ◌≤◌, ◌<◌, min}
use native.Mathlib.Nat.{add-zero}
use native.Mathlib.Numerals.{add-one}
use native.Mathlib.Omega.{arith}
use lib.ListN.{length, get_or, take, drop, set, length-set, length-drop}
use lib.Seq.{get_or-drop, drop-drop, take_all}
use Rattle.ump.specs.Packet.{sysex7}
use Rattle.ump.specs.Packing.{status_for, packets_for, pack}
use Rattle.ump.proofs.Packing.{length_pack}
use Rattle.ump.proofs.Sizes.{packets_are, place_begin, status_inner}
use Rattle.ump.proofs.Positions.{get_d_pack, word_head7, word-body}
use Rattle.flow.specs.Digits.{val}
use Rattle.flow.proofs.Digits.{val-two, val_four}
use Rattle.stream.specs.Steps.{head_word, TookSix}

-- one list up to k, and another from there
abbrev seam : ℕ → List ℕ → List ℕ → List ℕ
seam k new old = take k new ++ drop k old

seam_one : (k : ℕ) (new old : List ℕ) → k < length new → k < length old → set (seam k new old) k (get_or new k 0) ≡ seam (suc k) new old
seam_one k [] old h l = absurd (omega arith)
seam_one k (x ∷ new) [] h l = absurd (omega arith)
seam_one zero (x ∷ new) (y ∷ old) h l = refl
seam_one (suc k) (x ∷ new) (y ∷ old) h l = rw (seam_one k new old (omega arith) (omega arith))

abbrev packets : List ℕ → ℕ
packets bs = packets_for sysex7 (length bs)

abbrev packed : ℕ → List ℕ → List ℕ
packed group bs = pack sysex7 group [] bs

-- some packets are written, and what stands ahead is the data behind them
pub record Wrote (group : ℕ) (bs old words ahead : List ℕ) (packet : ℕ) : Type 0 where
  pub to_read : ahead ≡ drop (6 * packet) bs
  pub kept : length words ≡ length old
  pub seamed : words ≡ seam (2 * packet) (packed group bs) old

length_packed : (group : ℕ) (bs : List ℕ) → length (packed group bs) ≡ 2 * packets bs
length_packed group bs = length_pack sysex7 group [] bs refl

-- the two words of packet p
module _ (group : ℕ) (bs : List ℕ) (p : ℕ) (h : p < packets bs) where
  first-word : get_or (packed group bs) (2 * p) 0
      ≡ head_word group (status_for (packets bs) p) (min 6 (length bs - 6 * p)) + val 2 (drop (6 * p) bs)
  first-word =
      let d : 2 * p / 2 ≡ p = omega arith in
      get_d_pack sysex7 group [] bs refl (2 * p) (omega arith)
      ∙ word_head7 group (length bs) (λ i. get_or bs i 0) (2 * p) (omega arith)
      ∙ rw (d, val-two, get_or-drop (6 * p) bs 0 0, get_or-drop (6 * p) bs 1 0, add-zero (6 * p)) (omega arith)

  second_word : get_or (packed group bs) (2 * p + 1) 0 ≡ val 4 (drop 2 (drop (6 * p) bs))
  second_word =
      let i : ℕ = 6 * p + 2 in
      get_d_pack sysex7 group [] bs refl (2 * p + 1) (omega arith)
      ∙ word-body sysex7 group [] (length bs) (λ i. get_or bs i 0) (2 * p + 1) i (omega arith) (omega arith)
      ∙ rw (val_four, drop-drop 2 (6 * p) bs, get_or-drop i bs 0 0, get_or-drop i bs 1 0, get_or-drop i bs 2 0, get_or-drop i bs 3 0, add-zero i) (omega arith)

-- the head of a packet that is not the last
abbrev pub Led : ℕ → ℕ → ℕ → ℕ → Type 0
Led group n packet head = packet + 1 < n → head ≡ head_word group (status_for n packet) 6

pub led_first : (group n : ℕ) → Led group n 0 (head_word group 1 6)
unfolding status_for
led_first group n h = rw (place_begin {A = ℕ} 0 1 2 3 n 0 (λ e. omega arith) refl)

pub led_more : (group n packet : ℕ) → Led group n (packet + 1) (head_word group 2 6)
led_more group n packet h = rw (status_inner n (packet + 1) (λ e. omega arith) (λ e. omega arith) (λ e. omega arith))

pub wrote_none : {group : ℕ} {bs old : List ℕ} → Wrote group bs old old bs 0
wrote_none = record { to_read = refl; kept = refl; seamed = refl }

module _ {group n : ℕ} {bs old words ahead : List ℕ} {packet : ℕ} (q : n ≡ packets bs) (w : Wrote group bs old words ahead packet) where
  -- as much stands ahead as is left, six bytes where another packet follows
  wrote_left : length ahead ≡ length bs - 6 * packet
  wrote_left = rw w.to_read (length-drop (6 * packet) bs)

  pub wrote_six : packet + 1 < n → 6 ≡ min 6 (length ahead)
  wrote_six h = omega (arith, wrote_left, packets_are sysex7 (length bs))

  pub wrote_last : {size : ℕ} → size ≡ length bs → packet + 1 ≡ n → size - 6 * packet ≡ min 6 (length ahead)
  wrote_last e h = omega (arith, wrote_left, packets_are sysex7 (length bs))

  pub wrote_more : {then : List ℕ} {count head high low : ℕ} → packet < n → 2 * n ≤ length old → count ≡ min 6 (length ahead)
      → head ≡ head_word group (status_for n packet) count → TookSix ahead high low then
      → Wrote group bs old (set (set words (2 * packet) (head + high)) (2 * packet + 1) low) then (packet + 1)
  wrote_more {then} {count} {head} {high} {low} h l c e t =
      let new : List ℕ = packed group bs in
      let b : packet < packets bs = omega arith in
      let s : 2 * (packet + 1) ≡ suc (suc (2 * packet)) = omega arith in
      let k : 6 * packet + 6 ≡ 6 * (packet + 1) = omega arith in
      let m : length new ≡ 2 * packets bs = length_packed group bs in
      let v : head + high ≡ get_or new (2 * packet) 0 = rw (first-word group bs packet b, e, q, c, wrote_left, t.two, w.to_read) in
      let u : low ≡ get_or new (2 * packet + 1) 0 = rw (second_word group bs packet b, t.four, w.to_read) in
      record {
        to_read = t.rest ∙ rw (w.to_read, drop-drop 6 (6 * packet), k);
        kept = simp length-set w.kept;
        seamed =
            rw (w.seamed, v, u, s, add-one, seam_one (2 * packet) new old (omega arith) (omega arith))
            (seam_one (suc (2 * packet)) new old (omega arith) (omega arith));
      }

  pub wrote_all : packet ≡ n → words ≡ packed group bs ++ drop (2 * n) old
  wrote_all e = w.seamed ∙ rw (e, take_all (2 * n) (packed group bs) (omega (arith, length_packed group bs)))
