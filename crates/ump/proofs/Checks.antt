-- The check passes exactly the valid messages. Assumes nothing.
use mathlib.Core.Path.{◌≡◌, refl, sym, ap, ◌∙◌}
use mathlib.Core.Bool.{Bool, true, false, not, ◌&&◌, ◌||◌}
use mathlib.Core.List.{List, [], ◌∷◌}
use Prim.Native.Nat.{ℕ, ◌+◌, ◌*◌, ◌/◌, ◌%◌, ◌≤◌, ◌<◌}
use native.Mathlib.Nat.{mul-mod_right, mul-div_right, div-add-mod, add-zero, le-mul_of_pos_right, le-div_iff_mul-le}
use native.Mathlib.Omega.{arith}
use lib.Dec.{eqb, ltb}
use borrow.Author.Tests.{ltb-false, le-ltb, eqb-true, eq-eqb, not-false}
use lib.ListN.{length}
use Rattle.refusal.specs.Answer.{Verdict, pass, ◌▷◌, guard}
use Rattle.refusal.proofs.Laws.{guard_passed, pass_both}
use Rattle.ump.specs.Packet.{Shape, count_at, id_at}
use Rattle.ump.specs.Limits.{most_words}
use Rattle.ump.specs.Check.{first_where, sweep, status_number, same, bad_type, bad_status, bad_count, bad_group, bad_id, check_packets, check, Valid}
use Rattle.ump.proofs.Sizes.{words_pos}
use Rattle.ump.proofs.First.{first_none, first_before}

-- ---- a sweep over the packets passes exactly if none is at fault

pub sweep_pass : (shape : Shape) (nr : ℕ → ℕ) (bad : ℕ → Bool) (n : ℕ) → ((p : ℕ) → p < n → bad p ≡ false) → sweep shape nr bad n ≡ pass
sweep_pass shape nr bad n h = rw (first_none bad n h, le-ltb n n (omega arith))

pub pass_sweep : (shape : Shape) (nr : ℕ → ℕ) (bad : ℕ → Bool) (n : ℕ) → sweep shape nr bad n ≡ pass → (p : ℕ) → p < n → bad p ≡ false
pass_sweep shape nr bad n e p h =
    let k : n ≤ first_where bad n = ltb-false (first_where bad n) n (guard_passed _ _ _ e) in
    first_before bad n p (omega arith)

-- ---- the whole check

pub same_refl : (xs : List ℕ) → same xs xs ≡ true
same_refl [] = refl
same_refl (x ∷ xs) = rw (eq-eqb x x refl) (same_refl xs)

and_left : (a b : Bool) → (a && b) ≡ true → a ≡ true
and_left true b e = refl
and_left false b e = e

and_right : (a b : Bool) → (a && b) ≡ true → b ≡ true
and_right true b e = e
and_right false b e = cc

pub or_left : (a b : Bool) → (a || b) ≡ false → a ≡ false
or_left true b e = e
or_left false b e = refl

pub or_right : (a b : Bool) → (a || b) ≡ false → b ≡ false
or_right true b e = cc
or_right false b e = e

pub same_eq : (xs ys : List ℕ) → same xs ys ≡ true → xs ≡ ys
same_eq [] [] e = refl
same_eq [] (y ∷ ys) e = cc
same_eq (x ∷ xs) [] e = cc
same_eq (x ∷ xs) (y ∷ ys) e =
    rw (eqb-true x y (and_left (eqb x y) (same xs ys) e), same_eq xs ys (and_right (eqb x y) (same xs ys) e))

guard_no : (b : Bool) (nr at : ℕ) → b ≡ false → guard b nr at ≡ pass
guard_no b nr at e = rw e

pub both_pass : {u v : Verdict} → u ≡ pass → v ≡ pass → u ▷ v ≡ pass
both_pass e f = rw (e, f)

pub valid_passes : (shape : Shape) (words : List ℕ) (len : ℕ) → Valid shape words len → check shape words len ≡ pass
unfolding check check_packets bad_type bad_status bad_count bad_group bad_id
valid_passes shape words len v =
    let n = v.packets in
    let q : len / shape.words ≡ n = rw v.whole (mul-div_right n (words_pos shape)) in
    let r : len % shape.words ≡ 0 = rw v.whole (mul-mod_right shape.words n) in
    let l : shape.words ≤ len = rw v.whole (le-mul_of_pos_right shape.words v.some_packet) in
    both_pass (guard_no _ 1 0 (le-ltb most_words (length words) v.short_enough))
    (both_pass (guard_no _ 2 0 (le-ltb (length words) len v.inside))
    (both_pass (guard_no _ 3 0 (le-ltb len shape.words l))
    (both_pass (guard_no _ 4 0 (ap not (eq-eqb (len % shape.words) 0 r)))
    (rw q
    (both_pass (sweep_pass shape (λ p. 5) (bad_type shape words) n (λ p h. ap not (eq-eqb _ _ (v.types p h))))
    (both_pass (sweep_pass shape (status_number n) (bad_status shape words n) n (λ p h. ap not (eq-eqb _ _ (v.statuses p h))))
    (both_pass (sweep_pass shape (λ p. 10) (bad_count shape words) n (λ p h. rw (le-ltb _ _ (v.counts p h).0, le-ltb _ _ (v.counts p h).1)))
    (both_pass (sweep_pass shape (λ p. 11) (bad_group shape words) n (λ p h. ap not (eq-eqb _ _ (v.groups p h))))
    (sweep_pass shape (λ p. 12) (bad_id shape words) n (λ p h. rw (v.one_id p h) (ap not (same_refl (id_at shape words 0)))))))))))))

pub passes_valid : (shape : Shape) (words : List ℕ) (len : ℕ) → check shape words len ≡ pass → Valid shape words len
unfolding check check_packets bad_type bad_status bad_count bad_group bad_id
passes_valid shape words len e =
    let n = len / shape.words in
    let split : shape.words * n + len % shape.words ≡ len = div-add-mod len shape.words in
    let e1 = pass_both _ _ e in
    let e2 = pass_both _ _ e1.1 in
    let e3 = pass_both _ _ e2.1 in
    let e4 = pass_both _ _ e3.1 in
    let e5 = pass_both _ _ e4.1 in
    let e6 = pass_both _ _ e5.1 in
    let e10 = pass_both _ _ e6.1 in
    let e11 = pass_both _ _ e10.1 in
    let l : shape.words ≤ len = ltb-false _ _ (guard_passed _ _ _ e3.0) in
    let r : len % shape.words ≡ 0 = eqb-true _ _ (not-false _ (guard_passed _ _ _ e4.0)) in
    record {
      short_enough = ltb-false _ _ (guard_passed _ _ _ e1.0);
      inside = ltb-false _ _ (guard_passed _ _ _ e2.0);
      packets = n;
      some_packet = div_pos (words_pos shape) l;
      whole = sym split ∙ rw (r, add-zero);
      types = λ p h. eqb-true _ _ (not-false _ (pass_sweep shape (λ p. 5) (bad_type shape words) n e5.0 p h));
      statuses = λ p h. eqb-true _ _ (not-false _ (pass_sweep shape (status_number n) (bad_status shape words n) n e6.0 p h));
      counts = λ p h.
          let b = pass_sweep shape (λ p. 10) (bad_count shape words) n e10.0 p h in
          let lo = ltb (count_at shape words p) shape.bias in
          let hi = ltb (shape.room + shape.bias) (count_at shape words p) in
          (ltb-false _ _ (or_left lo hi b), ltb-false _ _ (or_right lo hi b));
      groups = λ p h. eqb-true _ _ (not-false _ (pass_sweep shape (λ p. 11) (bad_group shape words) n e11.0 p h));
      one_id = λ p h. same_eq _ _ (not-false _ (pass_sweep shape (λ p. 12) (bad_id shape words) n e11.1 p h));
    }
  where
    div_pos : {a b : ℕ} → 0 < a → a ≤ b → 0 < b / a
    div_pos {a} {b} h k = (le-div_iff_mul-le h).1 (omega arith)
