-- Laws of octets as one number: what is cut off, put behind and moved, over any number of octets. Assumes nothing.
use mathlib.Core.Path.{◌≡◌, refl, ap, ◌∙◌}
use mathlib.Core.List.{List, [], ◌∷◌, ◌++◌}
use Prim.Native.Nat.{ℕ, zero, suc, ◌+◌, ◌*◌, ◌/◌, ◌%◌, ◌^◌, ◌≤◌, ◌<◌}
use native.Mathlib.Nat.{zero-add, add-zero, suc-add, add_comm, zero-mul, add-mul, mul-add, mul_assoc, add_assoc, le_of_suc-le-suc, not-suc-le-zero, mod-eq_of_lt, mul-mod_left, mul-add-mod_self_right}
use native.Mathlib.Omega.{arith}
use lib.ListN.{length, get_or, take, drop, length-take, length-drop, drop_of_length-le}
use lib.Seq.{drop_at}
use lib.Arith.{digits_lt}
use lib.Pow.{pow_pos, pow-add, shl_lt, high, low}
use Rattle.ump.specs.Word.{word, Below}
use Rattle.ump.proofs.Words.{below_drop}
use Rattle.flow.specs.Digits.{val}

pub powers : (k n : ℕ) → 2 ^ (8 * (k + n)) ≡ 2 ^ (8 * k) * 2 ^ (8 * n)
powers k n = ap (λ (x : ℕ). 2 ^ x) (mul-add 8 k n) ∙ pow-add 2 (8 * k) (8 * n)

pub val_nil : (n : ℕ) → val n [] ≡ 0
unfolding val
val_nil zero = refl
val_nil (suc n) = refl

-- the first k octets, and the n behind them
pub val_split : (k n : ℕ) (xs : List ℕ) → val (k + n) xs ≡ val k xs * 2 ^ (8 * n) + val n (drop k xs)
unfolding val
val_split zero n xs = rw (zero-add, zero-mul, zero-add)
val_split (suc k) n [] = rw (val_nil (suc k + n), val_nil n, zero-mul)
val_split (suc k) n (x ∷ xs) = rw (suc-add, powers k n, val_split k n xs, add-mul, mul_assoc, add_assoc)

pub val-fits : (n : ℕ) (xs : List ℕ) → Below 256 xs → val n xs < 2 ^ (8 * n)
unfolding val
val-fits zero xs h = pow_pos (8 * 0)
val-fits (suc n) [] h = pow_pos (8 * suc n)
val-fits (suc n) (x ∷ xs) h =
    let e : 1 + n ≡ suc n = omega arith in
    rw (← e, powers 1 n) (digits_lt h.0 (val-fits n xs h.1))

module _ (k n : ℕ) (xs : List ℕ) (h : Below 256 xs) where
  pub val_high : val (k + n) xs / 2 ^ (8 * n) ≡ val k xs
  val_high = rw (val_split k n xs) (high (val k xs) (8 * n) (val-fits n (drop k xs) (below_drop 256 k xs h)))

  pub val_low : val (k + n) xs % 2 ^ (8 * n) ≡ val n (drop k xs)
  val_low = rw (val_split k n xs) (low (val k xs) (8 * n) (val-fits n (drop k xs) (below_drop 256 k xs h)))

-- of a list that goes on, and of one that is cut off
val_first : (k : ℕ) (ps qs : List ℕ) → k ≤ length ps → val k (ps ++ qs) ≡ val k ps
unfolding val
val_first zero ps qs h = refl
val_first (suc k) [] qs h = absurd (not-suc-le-zero h)
val_first (suc k) (p ∷ ps) qs h = rw (val_first k ps qs (le_of_suc-le-suc h))

pub val-take : (n m : ℕ) (xs : List ℕ) → n ≤ m → val n (take m xs) ≡ val n xs
unfolding val
val-take zero m xs h = refl
val-take (suc n) zero xs h = absurd (not-suc-le-zero h)
val-take (suc n) (suc m) [] h = refl
val-take (suc n) (suc m) (x ∷ xs) h = rw (val-take n m xs (le_of_suc-le-suc h))

-- k octets and zeros
pub val_pad : (k n : ℕ) (xs : List ℕ) → length xs ≤ k → val (k + n) xs ≡ val k xs * 2 ^ (8 * n)
val_pad k n xs h = rw (val_split k n xs, drop_of_length-le xs h, val_nil n, add-zero)

pub val-append : (k n : ℕ) (ps qs : List ℕ) → length ps ≡ k → val (k + n) (ps ++ qs) ≡ val k ps * 2 ^ (8 * n) + val n qs
val-append k n ps qs e = rw (val_split k n (ps ++ qs), val_first k ps qs (omega arith), drop_at ps qs k e)

-- ---- by their places

pub val-one : (xs : List ℕ) → val 1 xs ≡ get_or xs 0 0
unfolding val
val-one [] = refl
val-one (a ∷ xs) = omega arith

pub val-two : (xs : List ℕ) → val 2 xs ≡ get_or xs 0 0 * 256 + get_or xs 1 0
unfolding val
val-two [] = refl
val-two (a ∷ []) = omega arith
val-two (a ∷ b ∷ xs) = omega arith

pub val_four : (xs : List ℕ) → val 4 xs ≡ word (get_or xs 0 0) (get_or xs 1 0) (get_or xs 2 0) (get_or xs 3 0)
unfolding val
val_four [] = refl
val_four (a ∷ []) = omega arith
val_four (a ∷ b ∷ []) = omega arith
val_four (a ∷ b ∷ c ∷ []) = omega arith
val_four (a ∷ b ∷ c ∷ d ∷ xs) = omega arith

-- ---- in a packet of c + d octets, c wait and others come

module _ (c d : ℕ) where
  abbrev room : ℕ
  room = c + d

  turned : (xs : List ℕ) → val room xs ≡ val (d + c) xs
  turned xs = ap (λ (n : ℕ). val n xs) (add_comm c d)

  -- those that come, moved behind those that wait
  pub join_number : (ps qs : List ℕ) → length ps ≡ c → Below 256 qs → val room ps + val room qs / 2 ^ (8 * c) ≡ val room (ps ++ qs)
  join_number ps qs e h = rw (turned qs, val_high d c qs h, val_pad c d ps (omega arith), val-append c d ps qs e)

  -- what is left of them where they fill the packet
  pub left_number : (qs : List ℕ) → Below 256 qs → length qs ≤ room → val room qs * 2 ^ (8 * d) % 2 ^ (8 * room) ≡ val room (drop d qs)
  left_number qs h l =
      let rest = drop d qs in
      let short : length rest ≤ c = simp length-drop (omega arith) in
      let fits : val c rest * 2 ^ (8 * d) < 2 ^ (8 * c) * 2 ^ (8 * d) = rw (pow-add 2 (8 * c) (8 * d)) at (shl_lt (8 * c) (8 * d) (val-fits c rest (below_drop 256 d qs h))) in
      rw (turned qs, val_split d c qs, powers c d, val_pad c d rest short, add-mul, mul_assoc)
      (mul-add-mod_self_right (val d qs) (2 ^ (8 * c) * 2 ^ (8 * d)) (val c rest * 2 ^ (8 * d)) ∙ mod-eq_of_lt fits)

  -- the first c of a packet
  pub front_number : (xs : List ℕ) → Below 256 xs → val room xs / 2 ^ (8 * d) * 2 ^ (8 * d) ≡ val room (take c xs)
  front_number xs h =
      let short : length (take c xs) ≤ c = simp length-take (omega arith) in
      rw (val_high c d xs h, val_pad c d (take c xs) short, val-take c c xs (omega arith))

  pub zeros_number : (ps : List ℕ) → length ps ≤ c → val room ps % 2 ^ (8 * d) ≡ 0
  zeros_number ps l = rw (val_pad c d ps l) (mul-mod_left (val c ps) (2 ^ (8 * d)))
