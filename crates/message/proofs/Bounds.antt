-- The first four tests of the check: the refusals, and how many packets there are. Assumes nothing.
use mathlib.Core.Path.{◌≡◌, refl, ap}
use mathlib.Core.Bool.{Bool, true, false, not}
use lib.Dec.{eqb, ltb}
use mathlib.Core.List.{List}
use Prim.Native.Nat.{ℕ, ◌*◌, ◌/◌, ◌%◌, ◌<◌}
use native.Mathlib.Nat.{div-add-mod, le-div_iff_mul-le}
use native.Mathlib.Omega.{arith}
use lib.ListN.{length}
use borrow.Author.Tests.{ltb-false, eqb-true, not-false}
use Rattle.refusal.specs.Answer.{Verdict, gives, refused, ◌▷◌, guard}
use Rattle.refusal.proofs.Laws.{never_both, never_refused}
use Rattle.ump.specs.Limits.{most_words}
use Rattle.ump.specs.Packet.{Shape, payload}
use Rattle.ump.specs.Check.{check, check_packets, payload_of}
use Rattle.ump.proofs.Sizes.{words_pos}
use Rattle.message.specs.Scan.{framed, Inside}

-- what the four tests leave of a message of n packets
pub record Framed (s : Shape) (ws : List ℕ) (len n : ℕ) : Type 0 where
  pub inside : Inside s.words n ws
  pub some : 0 < n
  pub check_is : check s ws len ≡ check_packets s ws n
  pub payload_is : payload_of s ws len ≡ payload s ws n

-- the four tests, one after the other
all_pass : {m n : ℕ} (a b c d : Bool) → guard a 1 0 ▷ guard b 2 0 ▷ guard c 3 0 ▷ guard d 4 0 ▷ gives m ≡ gives n
    → (a ≡ false) × (b ≡ false) × (c ≡ false) × (d ≡ false) × (m ≡ n)
all_pass true b c d e = never_refused e
all_pass false true c d e = never_refused e
all_pass false false true d e = never_refused e
all_pass false false false true e = never_refused e
all_pass false false false false e = (refl, refl, refl, refl, cc)

one_refuses : {number place : ℕ} (m : ℕ) (v : Verdict) (a b c d : Bool) → guard a 1 0 ▷ guard b 2 0 ▷ guard c 3 0 ▷ guard d 4 0 ▷ gives m ≡ refused number place
    → guard a 1 0 ▷ guard b 2 0 ▷ guard c 3 0 ▷ guard d 4 0 ▷ v ≡ refused number place
one_refuses m v true b c d e = cc
one_refuses m v false true c d e = cc
one_refuses m v false false true d e = cc
one_refuses m v false false false true e = cc
one_refuses m v false false false false e = never_both e

module _ (s : Shape) (ws : List ℕ) (len : ℕ) where
  pub framed_given : {n : ℕ} → framed s (length ws) len ≡ gives n → Framed s ws len n
  unfolding check
  framed_given {n} e =
      let t = all_pass (ltb most_words (length ws)) (ltb (length ws) len) (ltb len s.words) (not (eqb (len % s.words) 0)) e in
      let few = ltb-false most_words (length ws) t.0 in
      let within = ltb-false (length ws) len t.1 in
      let enough = ltb-false len s.words t.2 in
      let whole : len % s.words ≡ 0 = eqb-true _ _ (not-false _ t.3) in
      let all : s.words * n ≡ len = rw (← t.4) (omega (arith, div-add-mod len s.words)) in
      record {
        inside = record { some_words = words_pos s; there = omega arith; few = omega arith };
        some = rw (← t.4) ((le-div_iff_mul-le (words_pos s)).1 (omega arith));
        check_is = rw (t.0, t.1, t.2, t.3, t.4);
        payload_is = ap (payload s ws) t.4;
      }

  pub framed_refused : {number place : ℕ} → framed s (length ws) len ≡ refused number place → check s ws len ≡ refused number place
  unfolding check
  framed_refused e =
      one_refuses (len / s.words) (check_packets s ws (len / s.words)) (ltb most_words (length ws)) (ltb (length ws) len) (ltb len s.words) (not (eqb (len % s.words) 0)) e
