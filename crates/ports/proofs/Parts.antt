-- What a slot holds after words are stored in its part, or in another. Assumes nothing.
use mathlib.Core.Path.{◌≡◌, sym, ap, ◌∙◌}
use mathlib.Core.List.{List, ◌++◌, append_assoc}
use Prim.Native.Nat.{ℕ, ◌+◌, ◌-◌, ◌*◌, ◌/◌, ◌≤◌, ◌<◌, min}
use native.Mathlib.Nat.{mul-suc, mul-le-mul_left, div-mul-le_self, le_trans, le_of_eq}
use native.Mathlib.Omega.{arith}
use lib.ListN.{length, get_or, take, drop, length-take, length-drop, take-append-drop}
use lib.Seq.{paste, drop_at, take-append-le, drop-append-le, take-add, drop-drop, drop-paste, take-paste, length-take-le, length-paste}
use Rattle.ump.proofs.First.{Side, under, over, side}
use Rattle.ports.specs.Table.{part_of, used_at, stored_at}

-- ---- a part of a list after a paste

pub before_paste : (d : List ℕ) (at : ℕ) (s : List ℕ) (n a u : ℕ) → at ≤ length d → a + u ≤ at → take u (drop a (paste d at s n)) ≡ take u (drop a d)
before_paste d at s n a u h k =
    let l : length (take at d) ≡ at = length-take-le at d h in
    ap (λ (x : List ℕ). take u (drop a x)) (append_assoc (take at d) (take n s) (drop (at + n) d))
    ∙ front (take at d) (take n s ++ drop (at + n) d) (omega arith)
    ∙ sym (front (take at d) (drop at d) (omega arith))
    ∙ ap (λ (x : List ℕ). take u (drop a x)) (take-append-drop at d)
  where
    front : (x y : List ℕ) → a + u ≤ length x → take u (drop a (x ++ y)) ≡ take u (drop a x)
    front x y l =
        rw (drop-append-le a x y (omega arith))
        (take-append-le u (drop a x) y (simp length-drop (omega arith)))

pub after_paste : (d : List ℕ) (at : ℕ) (s : List ℕ) (n a : ℕ) → at ≤ length d → n ≤ length s → at + n ≤ a → drop a (paste d at s n) ≡ drop a d
after_paste d at s n a h k l =
    let e : a ≡ at + n + (a - (at + n)) = omega arith in
    let both : (x : List ℕ) → drop a x ≡ drop (a - (at + n)) (drop (at + n) x) = λ x. ap (λ i. drop i x) e ∙ sym (drop-drop (a - (at + n)) (at + n) x) in
    both (paste d at s n) ∙ ap (drop (a - (at + n))) (drop-paste d at s n h k) ∙ sym (both d)

take-drop : (m a : ℕ) (l : List ℕ) → a ≤ length l → take m (drop a l) ≡ drop a (take (a + m) l)
take-drop m a l h = sym (ap (drop a) (take-add a m l) ∙ drop_at (take a l) (take m (drop a l)) a (length-take-le a l h))

pub in_paste : (d : List ℕ) (s : List ℕ) (n a u : ℕ) → a + u + n ≤ length d → n ≤ length s → take (u + n) (drop a (paste d (a + u) s n)) ≡ take u (drop a d) ++ take n s
in_paste d s n a u h k =
    let w : length (paste d (a + u) s n) ≡ length d = length-paste d (a + u) s n h k in
    let e : a + (u + n) ≡ a + u + n = omega arith in
    take-drop (u + n) a (paste d (a + u) s n) (omega arith)
    ∙ rw (e, take-paste d (a + u) s n (omega arith) k)
    (drop-append-le a (take (a + u) d) (take n s) (rw (length-take-le (a + u) d (omega arith)) (omega arith))
    ∙ rw (← (take-drop u a d (omega arith))))

-- ---- the parts

module _ (n k : ℕ) where
  pub part_inside : k < 16 → n / 16 * k + n / 16 ≤ n
  part_inside h =
      le_trans (le_of_eq (omega (arith, mul-suc (n / 16) k))) (le_trans (mul-le-mul_left (n / 16) h) (div-mul-le_self n 16))

pub parts_apart : (part j k : ℕ) → j < k → part * j + part ≤ part * k
parts_apart part j k h = le_trans (le_of_eq (omega (arith, mul-suc part j))) (mul-le-mul_left part h)

module _ (table words : List ℕ) (k : ℕ) (h : k < 16) where
  pub length-stored : length (stored_at table words k) ≡ used_at table (part_of words) k
  unfolding stored_at
  length-stored = simp (length-take, length-drop) (omega (arith, part_inside (length words) k h))

-- two tables with the same lengths, and words of one length that are the same there
pub stored_cong : (table table' words words' : List ℕ) (k : ℕ) → length words' ≡ length words → get_or table' (16 + k) 0 ≡ get_or table (16 + k) 0
    → ((u : ℕ) → u ≤ part_of words → take u (drop (part_of words * k) words') ≡ take u (drop (part_of words * k) words))
    → stored_at table' words' k ≡ stored_at table words k
unfolding stored_at
stored_cong table table' words words' k l e h = rw (l, e) (h (used_at table (part_of words) k) (omega arith))

-- n words stored in part s, u words after its begin
module _ (table table' words packet : List ℕ) (s u n : ℕ) (h : s < 16) (fits : u + n ≤ part_of words) (long : n ≤ length packet) where
  abbrev at : ℕ
  at = part_of words * s + u

  inside : at + n ≤ length words
  inside = omega (arith, part_inside (length words) s h)

  pub length_stored_in : length (paste words at packet n) ≡ length words
  length_stored_in = length-paste words at packet n inside long

  -- another part is as it was
  pub stored_else : (k : ℕ) → k < 16 → (k ≡ s → ⊥) → get_or table' (16 + k) 0 ≡ get_or table (16 + k) 0
      → stored_at table' (paste words at packet n) k ≡ stored_at table words k
  stored_else k hk ne e = stored_cong table table' words (paste words at packet n) k length_stored_in e (λ v hv. go v hv (side k s))
    where
      go : (v : ℕ) → v ≤ part_of words → Side k s → take v (drop (part_of words * k) (paste words at packet n)) ≡ take v (drop (part_of words * k) words)
      go v hv (under l t) = before_paste words at packet n (part_of words * k) v (omega (arith, inside)) (omega (arith, parts_apart (part_of words) k s l))
      go v hv (over l t) =
          let q : s < k = omega arith in
          ap (take v) (after_paste words at packet n (part_of words * k) (omega (arith, inside)) long (omega (arith, parts_apart (part_of words) s k q)))

  -- and this one holds its first u words and the new ones
  pub stored_here : get_or table' (16 + s) 0 ≡ u + n
      → stored_at table' (paste words at packet n) s ≡ take u (drop (part_of words * s) words) ++ take n packet
  unfolding stored_at
  stored_here e =
      let m : min (u + n) (part_of words) ≡ u + n = omega arith in
      rw (length_stored_in, e, m) (in_paste words packet n (part_of words * s) u inside long)
