-- Bytes below a limit, counted; none is bad if as many are below 80 hex as are no real-time bytes. Assumes nothing.
use mathlib.Core.Path.{◌≡◌, refl, sym, ap, ◌∙◌}
use mathlib.Core.Bool.{Bool, true, false, cond}
use mathlib.Core.List.{List, [], ◌∷◌, ◌++◌}
use Prim.Native.Nat.{ℕ, suc, ◌+◌, ◌≤◌, ◌<◌}
use native.Mathlib.Nat.{add-zero}
use native.Mathlib.Omega.{arith}
use lib.Dec.{ltb}
use lib.ListN.{length, get_or, take, drop}
use lib.Seq.{take_all, take-add, drop-cons, length-take-le}
use native.Mathlib.Numerals.{add-one, one-add}
use Rattle.std.specs.Prelude.{Some, None}
use Rattle.std.specs.List.{position, position_or_len}
use Rattle.std.proofs.lemmas.List.Recursion.{is_position_or_len}
use Rattle.refusal.specs.Answer.{gives, refused}
use borrow.Author.Tests.{lt-ltb, le-ltb}
use Rattle.ump.specs.Stream.{real_time, bad_byte, without_real_time, first_bad}
use Rattle.ump.proofs.First.{Side, under, over, side, first_none, first_suc}
use Rattle.stream.specs.Steps.{count_below, sized}

-- the first bytes of a list are counted
pub record Counted (bytes : List ℕ) (limit at number : ℕ) : Type 0 where
  pub within : at ≤ length bytes
  pub so_far : number ≡ count_below limit (take at bytes)

module _ (limit : ℕ) where
  pub count-append : (xs ys : List ℕ) → count_below limit (xs ++ ys) ≡ count_below limit xs + count_below limit ys
  count-append [] ys = omega arith
  count-append (x ∷ xs) ys = go (ltb x limit) (count-append xs ys)
    where
      go : (b : Bool) → count_below limit (xs ++ ys) ≡ count_below limit xs + count_below limit ys
          → cond b (suc (count_below limit (xs ++ ys))) (count_below limit (xs ++ ys))
          ≡ cond b (suc (count_below limit xs)) (count_below limit xs) + count_below limit ys
      go true h = omega arith
      go false h = h

  pub count_most : (xs : List ℕ) → count_below limit xs ≤ length xs
  count_most [] = omega arith
  count_most (x ∷ xs) = go (ltb x limit) (count_most xs)
    where
      go : (b : Bool) → count_below limit xs ≤ length xs → cond b (suc (count_below limit xs)) (count_below limit xs) ≤ suc (length xs)
      go true h = omega arith
      go false h = omega arith

module _ {bytes : List ℕ} {limit : ℕ} where
  pub counted_none : Counted bytes limit 0 0
  counted_none = record { within = omega arith; so_far = refl }

  module _ {at number : ℕ} (c : Counted bytes limit at number) where
    pub counted_most : number ≤ at
    counted_most = omega (arith, c.so_far, count_most limit (take at bytes), length-take-le at bytes c.within)

    -- some more, counted by themselves
    pub counted_more : (some : ℕ) → at + some ≤ length bytes → Counted bytes limit (at + some) (number + count_below limit (take some (drop at bytes)))
    counted_more some h =
        record { within = h; so_far = rw (c.so_far, take-add at some bytes) (sym (count-append limit (take at bytes) (take some (drop at bytes)))) }

    module _ (h : at < length bytes) where
      pub counted_below : get_or bytes at 0 < limit → Counted bytes limit (at + 1) (number + 1)
      counted_below l = rw (drop-cons bytes at 0 h, lt-ltb (get_or bytes at 0) limit l) at (counted_more 1 (omega arith))

      pub counted_other : limit ≤ get_or bytes at 0 → Counted bytes limit (at + 1) number
      counted_other l = rw (drop-cons bytes at 0 h, le-ltb (get_or bytes at 0) limit l, add-zero) at (counted_more 1 (omega arith))

    pub counted_all : length bytes ≤ at → number ≡ count_below limit bytes
    counted_all h = c.so_far ∙ rw (take_all at bytes h)

-- ---- which is bad

-- a byte is data, bad, or a real-time byte
data Kind (x : ℕ) : Type 0 where
  septet : ltb x 0x80 ≡ true → ltb x 0xF8 ≡ true → real_time x ≡ false → bad_byte x ≡ false → Kind x
  bad : ltb x 0x80 ≡ false → ltb x 0xF8 ≡ true → real_time x ≡ false → bad_byte x ≡ true → Kind x
  clock : ltb x 0x80 ≡ false → ltb x 0xF8 ≡ false → real_time x ≡ true → bad_byte x ≡ false → Kind x

kind : (x : ℕ) → Kind x
kind x = go (side x 0x80) (side x 0xF8)
  where
    go : Side x 0x80 → Side x 0xF8 → Kind x
    go (under h e) (under k f) = septet e f (le-ltb 0xF7 x (omega arith)) (rw (le-ltb 0x7F x (omega arith)))
    go (under h e) (over k f) = absurd (omega arith)
    go (over h e) (under k f) = let r : real_time x ≡ false = le-ltb 0xF7 x (omega arith) in bad e f r (rw (lt-ltb 0x7F x h, r))
    go (over h e) (over k f) = let r : real_time x ≡ true = lt-ltb 0xF7 x k in clock e f r (rw (lt-ltb 0x7F x h, r))

-- those below F8 hex are the data; if fewer are below 80, one is bad, and else none
pub record Sorted (xs : List ℕ) : Type 0 where
  pub are_data : count_below 0xF8 xs ≡ length (without_real_time xs)
  pub fewer : count_below 0x80 xs ≤ length (without_real_time xs)
  pub one_bad : count_below 0x80 xs < length (without_real_time xs) → first_bad bad_byte xs < length xs
  pub none_bad : length (without_real_time xs) ≤ count_below 0x80 xs → length xs ≤ first_bad bad_byte xs

pub sorted : (xs : List ℕ) → Sorted xs
sorted [] = record { are_data = refl; fewer = omega arith; one_bad = λ h. absurd (omega arith); none_bad = λ h. omega arith }
sorted (x ∷ xs) = go (kind x) (sorted xs) (first_suc (λ i. bad_byte (get_or (x ∷ xs) i 0)) (length xs))
  where
    go : Kind x → Sorted xs → first_bad bad_byte (x ∷ xs) ≡ cond (bad_byte x) 0 (suc (first_bad bad_byte xs)) → Sorted (x ∷ xs)
    go (septet e f r g) s w =
        record {
          are_data = rw (f, r) (ap suc s.are_data);
          fewer = rw (e, r) (omega (arith, s.fewer));
          one_bad = λ h. rw (w, g) (omega (arith, s.one_bad (omega (arith, rw (e, r) at h))));
          none_bad = λ h. rw (w, g) (omega (arith, s.none_bad (omega (arith, rw (e, r) at h))));
        }
    go (bad e f r g) s w =
        record {
          are_data = rw (f, r) (ap suc s.are_data);
          fewer = rw (e, r) (omega (arith, s.fewer));
          one_bad = λ h. rw (w, g) (omega arith);
          none_bad = λ h. absurd (omega (arith, rw (e, r) at h, s.fewer));
        }
    go (clock e f r g) s w =
        record {
          are_data = rw (f, r) s.are_data;
          fewer = rw (e, r) s.fewer;
          one_bad = λ h. rw (w, g) (omega (arith, s.one_bad (rw (e, r) at h)));
          none_bad = λ h. rw (w, g) (omega (arith, s.none_bad (rw (e, r) at h)));
        }

-- ---- the size, or the first that is bad

place_is : (xs : List ℕ) → first_bad bad_byte xs ≡ position_or_len bad_byte xs
place_is = is_position_or_len (first_bad bad_byte) bad_byte (first_none (λ i. bad_byte (get_or [] i 0)) 0 (λ j h. absurd (omega arith)))
    (λ x xs. first_suc (λ i. bad_byte (get_or (x ∷ xs) i 0)) (length xs) ∙ ap (cond (bad_byte x) 0) (sym (one-add _)))

module _ (xs : List ℕ) where
  size_where : length xs ≤ first_bad bad_byte xs → sized xs ≡ gives (length (without_real_time xs))
  size_where h = rw (le-ltb _ _ h)

  pub size_fits : length (without_real_time xs) ≤ count_below 0x80 xs → sized xs ≡ gives (length (without_real_time xs))
  size_fits h = size_where ((sorted xs).none_bad h)

  found : (b : Bool) → ltb (first_bad bad_byte xs) (length xs) ≡ b → position bad_byte xs ≡ cond b (Some (first_bad bad_byte xs)) None
  found b e = rw (← place_is xs, e)

  pub size_none : position bad_byte xs ≡ None → sized xs ≡ gives (length (without_real_time xs))
  size_none e = go (side (first_bad bad_byte xs) (length xs))
    where
      go : Side (first_bad bad_byte xs) (length xs) → sized xs ≡ gives (length (without_real_time xs))
      go (under h t) = absurd (let k = found true t in cc)
      go (over h t) = size_where h

  pub size_some : (i : ℕ) → position bad_byte xs ≡ Some i → sized xs ≡ refused 18 (i + 1)
  size_some i e = go (side (first_bad bad_byte xs) (length xs))
    where
      go : Side (first_bad bad_byte xs) (length xs) → sized xs ≡ refused 18 (i + 1)
      go (under h t) =
          let k : first_bad bad_byte xs ≡ i = (let k = found true t in cc) in
          rw (t, k, add-one)
      go (over h t) = absurd (let k = found false t in cc)
