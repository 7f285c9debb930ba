-- A list of edits lent as numbers, passed one by one. Assumes nothing.
use mathlib.Core.Path.{◌≡◌, refl, sym, ap, ◌∙◌}
use mathlib.Core.Bool.{Bool, true, false, not, cond, ◌||◌}
use mathlib.Core.List.{List, ◌∷◌}
use Rattle.std.specs.Prelude.{Option, None, Some}
use Prim.Native.Nat.{ℕ, zero, suc, ◌+◌, ◌-◌, ◌/◌, ◌%◌, ◌≤◌, ◌<◌}
use native.Mathlib.Numerals.{add-one}
use native.Mathlib.Omega.{arith}
use lib.Dec.{eqb, ltb}
use lib.ListN.{length}
use borrow.Author.Tests.{le-ltb, lt-ltb, ltb-false, eq-eqb, ne_eqb, eqb-true, not-false}
use Rattle.std.specs.List.{list_any, range_with_len}
use Rattle.refusal.specs.Answer.{refused, pass, ◌▷◌, guard}
use Rattle.refusal.proofs.Laws.{guard_passed, pass_both}
use Rattle.ump.specs.Edits.{Edit, bad_edit, lengths, some_bad, some_overlap, per_edit, edit_in, edits_from, edits_of, bad_list}
use Rattle.ump.specs.Limits.{most_bytes}
use Rattle.ump.proofs.First.{Side, under, over, side}
use Rattle.ump.proofs.Checks.{or_left, or_right}
use Rattle.ump.proofs.Replace.{or_left_true, or_right_true}
use Rattle.splice.specs.Merging.{widths}
use Rattle.merge.proofs.Turning.{rest, rest_all, rest_end, rest_step}
use Rattle.edit.specs.Growth.{Sound}
use Rattle.edit.specs.Listed.{list_check, listed, out_of_turn, cut_found}
use Rattle.edit.proofs.Laws.{sound_has}

pub bad_none : (n : ℕ) (e : Edit) (es : List Edit) → some_bad n (e ∷ es) ≡ false → Sound e × (e.to ≤ n) × (some_bad n es ≡ false)
bad_none n e es h =
    let past = ltb n e.to in
    let q = or_left (bad_edit e || past) (some_bad n es) h in
    (sound_has e (or_left (bad_edit e) past q), ltb-false n e.to (or_right (bad_edit e) past q), or_right (bad_edit e || past) (some_bad n es) h)

pub overlap_none : (end : ℕ) (e : Edit) (es : List Edit) → some_overlap end (e ∷ es) ≡ false → (end ≤ e.from) × (some_overlap e.to es ≡ false)
overlap_none end e es h = (ltb-false e.from end (or_left _ _ h), or_right (ltb e.from end) _ h)

-- a bad edit, index by index
abbrev pub is_past : ℕ → List ℕ → ℕ → Bool
is_past n numbers i = bad_edit (edit_in numbers i) || ltb n (edit_in numbers i).to

pub some_listed : (n : ℕ) (numbers : List ℕ) (i count : ℕ) → list_any (is_past n numbers) (range_with_len i count) ≡ some_bad n (edits_from numbers i count)
unfolding edits_from
some_listed n numbers i zero = refl
some_listed n numbers i (suc count) = rw (add-one i, some_listed n numbers (suc i) count)

-- ---- edit i, and those behind it

module _ (numbers : List ℕ) (i : ℕ) (h : i < length numbers / per_edit) {e : Edit} (q : e ≡ edit_in numbers i) where
  pub rest_here : rest numbers i ≡ e ∷ rest numbers (i + 1)
  rest_here = rw q (rest_step numbers i h)

  pub bad_on : (n : ℕ) → bad_edit e ≡ false → e.to ≤ n → some_bad n (rest numbers i) ≡ some_bad n (rest numbers (i + 1))
  bad_on n b k = rw (rest_here, b, le-ltb n e.to k)

  pub overlap_here : (end : ℕ) → e.from < end → true ≡ some_overlap end (rest numbers i)
  overlap_here end k = rw (rest_here, lt-ltb e.from end k)

  pub overlap_on : (end : ℕ) → end ≤ e.from → some_overlap end (rest numbers i) ≡ some_overlap e.to (rest numbers (i + 1))
  overlap_on end k = rw (rest_here, le-ltb e.from end k)

  pub lengths_on : lengths (rest numbers i) ≡ e.length + lengths (rest numbers (i + 1))
  lengths_on = rw rest_here

-- ---- what a loop over the edits knows at edit i

-- so many bytes are left of those lent, where the lengths before edit i were taken off
pub record Left (numbers : List ℕ) (bytes left i : ℕ) : Type 0 where
  pub within : i ≤ length numbers / per_edit
  pub taken : lengths (edits_of numbers) + left ≡ bytes + lengths (rest numbers i)

pub left_all : (numbers : List ℕ) (bytes : ℕ) → Left numbers bytes bytes 0
left_all numbers bytes = record { within = omega arith; taken = omega (arith, ap lengths (rest_all numbers)) }

module _ {numbers : List ℕ} {bytes left i : ℕ} (l : Left numbers bytes left i) where
  pub left_short : {e : Edit} → i < length numbers / per_edit → e ≡ edit_in numbers i → left < e.length → true ≡ not (eqb bytes (lengths (edits_of numbers)))
  left_short h q k =
      rw (ne_eqb bytes (lengths (edits_of numbers)) (λ same. omega (arith, l.taken, lengths_on numbers i h q)))

  pub left_on : {e : Edit} → i < length numbers / per_edit → e ≡ edit_in numbers i → e.length ≤ left → Left numbers bytes (left - e.length) (i + 1)
  left_on h q k = record { within = omega arith; taken = omega (arith, l.taken, lengths_on numbers i h q) }

  pub left_end : length numbers / per_edit ≤ i → not (eqb left 0) ≡ not (eqb bytes (lengths (edits_of numbers)))
  left_end h = ap not (go left (omega (arith, l.taken, ap lengths (rest_end numbers i h))))
    where
      go : (m : ℕ) → lengths (edits_of numbers) + m ≡ bytes → eqb m 0 ≡ eqb bytes (lengths (edits_of numbers))
      go zero s = sym (eq-eqb bytes (lengths (edits_of numbers)) (omega arith))
      go (suc m) s = ne_eqb (suc m) 0 (λ some. omega arith) ∙ sym (ne_eqb bytes (lengths (edits_of numbers)) (λ same. omega arith))

-- where a list that passed its checks has come to edit i, the last range before it ends at `end`
pub record Ranges (numbers : List ℕ) (n end i : ℕ) : Type 0 where
  pub within : i ≤ length numbers / per_edit
  pub inside : end ≤ n
  pub good : some_bad n (rest numbers i) ≡ false
  pub apart : some_overlap end (rest numbers i) ≡ false

pub ranges_all : (numbers : List ℕ) (n : ℕ) → some_bad n (edits_of numbers) ≡ false → some_overlap 0 (edits_of numbers) ≡ false → Ranges numbers n 0 0
ranges_all numbers n g o =
    let q = rest_all numbers in
    record { within = omega arith; inside = omega arith; good = rw q at g; apart = rw q at o }

module _ {numbers : List ℕ} {n end i : ℕ} (r : Ranges numbers n end i) {e : Edit} (h : i < length numbers / per_edit) (q : e ≡ edit_in numbers i) where
  bad : Sound e × (e.to ≤ n) × (some_bad n (rest numbers (i + 1)) ≡ false)
  bad = bad_none n e (rest numbers (i + 1)) (rw (rest_here numbers i h q) at r.good)

  overlap : (end ≤ e.from) × (some_overlap e.to (rest numbers (i + 1)) ≡ false)
  overlap = overlap_none end e (rest numbers (i + 1)) (rw (rest_here numbers i h q) at r.apart)

  pub range_after : end ≤ e.from
  range_after = overlap.0

  pub ranges_on : Ranges numbers n e.to (i + 1)
  ranges_on = record { within = omega arith; inside = bad.1; good = bad.2; apart = overlap.1 }

-- ---- one walk that says that all is in order

-- all edits before edit i are in turn: so many bytes are left of those lent, the last of them ends at `end`, and they took out so many
pub record Turn (numbers : List ℕ) (n bytes left end cut i : ℕ) : Type 0 where
  pub lent : Left numbers bytes left i
  pub good : some_bad n (edits_of numbers) ≡ some_bad n (rest numbers i)
  pub apart : some_overlap 0 (edits_of numbers) ≡ some_overlap end (rest numbers i)
  pub out : cut + widths (rest numbers i) ≡ widths (edits_of numbers)
  pub few : cut ≤ end
  pub small : end ≤ most_bytes

pub turn_all : (numbers : List ℕ) (n bytes : ℕ) → Turn numbers n bytes bytes 0 0 0
turn_all numbers n bytes =
    let q = rest_all numbers in
    record {
      lent = left_all numbers bytes;
      good = ap (some_bad n) q;
      apart = ap (some_overlap 0) q;
      out = omega (arith, ap widths q);
      few = omega arith;
      small = omega arith;
    }

-- a list that is refused for one of three causes, whatever its numbers come to
none_found : (ragged bad differ overlap : Bool) (found : Option ℕ) → ((bad || differ) || overlap) ≡ true
    → None ≡ cond ((ragged || (bad || differ)) || overlap) None found
none_found true bad differ overlap found e = refl
none_found false bad differ overlap found e = rw e

module _ {numbers : List ℕ} {n bytes left end cut i : ℕ} (t : Turn numbers n bytes left end cut i) where
  abbrev bad_one : Bool
  bad_one = some_bad n (edits_of numbers)

  abbrev differ : Bool
  differ = not (eqb bytes (lengths (edits_of numbers)))

  abbrev overlap_one : Bool
  overlap_one = some_overlap 0 (edits_of numbers)

  refuses : ((bad_one || differ) || overlap_one) ≡ true → None ≡ cut_found n bytes numbers
  unfolding cut_found
  refuses e = none_found (not (eqb (length numbers % per_edit) 0)) bad_one differ overlap_one (Some (widths (edits_of numbers))) e

  module _ {e : Edit} (h : i < length numbers / per_edit) (q : e ≡ edit_in numbers i) where
    pub turn_out : true ≡ out_of_turn n left end e → None ≡ cut_found n bytes numbers
    turn_out w = refuses (go (bad_edit e || ltb n e.to) refl (side left e.length) (side e.from end) (sym w))
      where
        go : (b : Bool) → (bad_edit e || ltb n e.to) ≡ b → Side left e.length → Side e.from end
            → (b || (ltb left e.length || ltb e.from end)) ≡ true → ((bad_one || differ) || overlap_one) ≡ true
        go true b x y w =
            let bad : bad_one ≡ true = t.good ∙ ap (some_bad n) (rest_here numbers i h q) ∙ rw b in
            rw bad
        go false b (under k f) y w = or_left_true (bad_one || differ) overlap_one (or_right_true bad_one differ (sym (left_short t.lent h q k)))
        go false b (over k f) (under m g) w = or_right_true (bad_one || differ) overlap_one (t.apart ∙ sym (overlap_here numbers i h q end m))
        go false b (over k f) (over m g) w = let z : false ≡ true = rw (f, g) at w in or_right_true (bad_one || differ) overlap_one cc

    module _ (w : false ≡ out_of_turn n left end e) where
      pub turn_sound : Sound e
      turn_sound = sound_has e (or_left (bad_edit e) (ltb n e.to) (or_left _ _ (sym w)))

      past_none : e.to ≤ n
      past_none = ltb-false n e.to (or_right (bad_edit e) (ltb n e.to) (or_left _ _ (sym w)))

      pub turn_left : e.length ≤ left
      turn_left = ltb-false left e.length (or_left (ltb left e.length) (ltb e.from end) (or_right (bad_edit e || ltb n e.to) _ (sym w)))

      pub turn_after : end ≤ e.from
      turn_after = ltb-false e.from end (or_right (ltb left e.length) (ltb e.from end) (or_right (bad_edit e || ltb n e.to) _ (sym w)))

      pub turn_on : Turn numbers n bytes (left - e.length) e.to (cut + (e.to - e.from)) (i + 1)
      unfolding widths
      turn_on =
          let b = or_left (bad_edit e) (ltb n e.to) (or_left _ _ (sym w)) in
          record {
            lent = left_on t.lent h q turn_left;
            good = t.good ∙ bad_on numbers i h q n b past_none;
            apart = t.apart ∙ overlap_on numbers i h q end turn_after;
            out = omega (arith, t.out, ap widths (rest_here numbers i h q));
            few = omega (arith, t.few, turn_after, turn_sound.forward);
            small = turn_sound.end;
          }

  module _ (h : length numbers / per_edit ≤ i) where
    pub turn_over : (left ≡ 0 → ⊥) → None ≡ cut_found n bytes numbers
    turn_over z =
        let d : differ ≡ true = sym (left_end t.lent h) ∙ ap not (ne_eqb left 0 z) in
        refuses (or_left_true (bad_one || differ) overlap_one (or_right_true bad_one differ d))

    pub turn_done : length numbers % per_edit ≡ 0 → left ≡ 0 → Some cut ≡ cut_found n bytes numbers
    unfolding widths cut_found
    turn_done a z =
        let none = rest_end numbers i h in
        let g : bad_one ≡ false = t.good ∙ ap (some_bad n) none in
        let o : overlap_one ≡ false = t.apart ∙ ap (some_overlap end) none in
        let d : differ ≡ false = sym (left_end t.lent h) ∙ ap not (eq-eqb left 0 z) in
        let w : widths (edits_of numbers) ≡ cut = omega (arith, t.out, ap widths none) in
        rw (eq-eqb (length numbers % per_edit) 0 a, g, d, o, w)

pub ragged_found : (n bytes : ℕ) (numbers : List ℕ) → (length numbers % per_edit ≡ 0 → ⊥) → None ≡ cut_found n bytes numbers
unfolding cut_found
ragged_found n bytes numbers a = rw (ne_eqb (length numbers % per_edit) 0 a)

-- ---- the checks of a list, case by case

pub same_bytes : (bytes sum : ℕ) → not (eqb bytes sum) ≡ false → bytes ≡ sum
same_bytes bytes sum e = eqb-true bytes sum (not-false (eqb bytes sum) e)

-- why a list is refused
module _ (n bytes : ℕ) (numbers : List ℕ) where
  pub list_bad : bad_list n bytes numbers ≡ true → refused 13 0 ≡ list_check n bytes numbers
  unfolding list_check
  list_bad b = rw b

  pub list_overlap : bad_list n bytes numbers ≡ false → (list_check n bytes numbers ≡ pass → ⊥) → refused 20 0 ≡ list_check n bytes numbers
  unfolding list_check
  list_overlap b none = go (some_overlap 0 (edits_of numbers)) refl
    where
      go : (d : Bool) → some_overlap 0 (edits_of numbers) ≡ d → refused 20 0 ≡ guard (bad_list n bytes numbers) 13 0 ▷ guard (some_overlap 0 (edits_of numbers)) 20 0
      go true d = rw (b, d)
      go false d = absurd (none (rw (b, d)))

pub listed_fault : (n bytes : ℕ) (numbers : List ℕ) {number place : ℕ} → refused number place ≡ list_check n bytes numbers
    → refused number place ≡ listed n bytes numbers
listed_fault n bytes numbers e = rw (← e)

-- a list that is not bad
pub list_good : (n bytes : ℕ) (numbers : List ℕ) → bad_list n bytes numbers ≡ false → (some_bad n (edits_of numbers) ≡ false) × (bytes ≡ lengths (edits_of numbers))
list_good n bytes numbers e =
    let bad = or_right (not (eqb (length numbers % per_edit) 0)) _ e in
    (or_left (some_bad n (edits_of numbers)) _ bad, same_bytes _ _ (or_right (some_bad n (edits_of numbers)) _ bad))

-- the checks passed
pub record Passing (n bytes : ℕ) (numbers : List ℕ) : Type 0 where
  pub fine : bad_list n bytes numbers ≡ false
  pub good : some_bad n (edits_of numbers) ≡ false
  pub all-bytes : bytes ≡ lengths (edits_of numbers)
  pub apart : some_overlap 0 (edits_of numbers) ≡ false

pub list_passes : (n bytes : ℕ) (numbers : List ℕ) → list_check n bytes numbers ≡ pass → Passing n bytes numbers
unfolding list_check
list_passes n bytes numbers e =
    let both = pass_both (guard (bad_list n bytes numbers) 13 0) (guard (some_overlap 0 (edits_of numbers)) 20 0) e in
    let fine = guard_passed (bad_list n bytes numbers) 13 0 both.0 in
    let all = list_good n bytes numbers fine in
    record { fine = fine; good = all.0; all-bytes = all.1; apart = guard_passed (some_overlap 0 (edits_of numbers)) 20 0 both.1 }

-- ---- what the walk found

module _ (n bytes : ℕ) (numbers : List ℕ) where
  pub cut_none : None ≡ cut_found n bytes numbers → list_check n bytes numbers ≡ pass → ⊥
  unfolding cut_found
  cut_none e p = let l = list_passes n bytes numbers p in let f = rw (l.fine, l.apart) at e in cc

  pub cut_some : {cut : ℕ} → Some cut ≡ cut_found n bytes numbers → (list_check n bytes numbers ≡ pass) × (cut ≡ widths (edits_of numbers))
  unfolding list_check cut_found
  cut_some {cut} e = go (bad_list n bytes numbers) refl (some_overlap 0 (edits_of numbers)) refl
    where
      go : (a : Bool) → bad_list n bytes numbers ≡ a → (b : Bool) → some_overlap 0 (edits_of numbers) ≡ b
          → ((guard (bad_list n bytes numbers) 13 0 ▷ guard (some_overlap 0 (edits_of numbers)) 20 0) ≡ pass) × (cut ≡ widths (edits_of numbers))
      go true a b o = let f = rw a at e in cc
      go false a true o = let f = rw (a, o) at e in cc
      go false a false o = (rw (a, o), let f = rw (a, o) at e in cc)
