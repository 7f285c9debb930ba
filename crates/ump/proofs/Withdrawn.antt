-- What T-03 and T-12 took out: every input is answered as before, and none was ever answered 19. Assumes nothing.
use mathlib.Core.Path.{◌≡◌, refl, sym, ap, ◌∙◌}
use mathlib.Core.Bool.{◌||◌}
use mathlib.Core.List.{List}
use Prim.Native.Nat.{ℕ, zero, suc, ◌+◌, ◌-◌, ◌*◌, ◌/◌, ◌%◌, ◌≤◌, ◌<◌}
use native.Mathlib.Nat.{add-zero, zero-mul, suc-mul, mul_comm, mul_assoc, zero-mod, mod-lt, div-add-mod', div-eq_of_lt, div-eq_of_eq-mul_left, mul-add-div_right}
use native.Mathlib.Numerals.{add-one}
use native.Mathlib.Omega.{arith}
use lib.Dec.{ltb}
use lib.ListN.{length}
use borrow.Author.Tests.{le-ltb, eq-eqb, ne_eqb}
use Rattle.refusal.specs.Answer.{Answer, gives, refused, Verdict, pass, ◌▷◌, guard, writes}
use Rattle.refusal.proofs.Laws.{never_nineteen}
use Rattle.ump.specs.Packet.{Shape}
use Rattle.ump.specs.Packing.{packets_for, words_for}
use Rattle.ump.specs.Check.{check, payload_of}
use Rattle.ump.specs.Splice.{spliced, rewritten, growth_by, Spliced, repack, splice}
use Rattle.ump.specs.Withdrawn.{words_before, repack_before, splice_before}
use Rattle.ump.proofs.Sizes.{packets_are}
use Rattle.ump.proofs.First.{Side, under, over, side}
use Rattle.ump.proofs.Checks.{passes_valid}
use Rattle.ump.proofs.Message.{packing_fits, packing_has_room}
use Rattle.ump.proofs.Named.{repack_named, splice_named}

-- what comes after a check counts only where the check passes
after : {A : Type 0} (v : Verdict) {x y : Answer A} → (v ≡ pass → x ≡ y) → v ▷ x ≡ v ▷ y
after (gives u) h = h refl
after (refused number place) h = refl

alone : (v : Verdict) → v ▷ pass ≡ v
alone (gives u) = refl
alone (refused number place) = refl

-- ---- the words needed, whatever the shape and the size

module _ (shape : Shape) where
  -- full packets, and some bytes that fill no more than one
  rounded : (n full rest : ℕ) → n ≡ full * shape.room + rest → 0 < rest → rest ≤ shape.room → words_for shape n ≡ shape.words * suc full
  rounded n full rest is some few =
      let all_but_last : n - 1 ≡ full * shape.room + (rest - 1) = omega arith in
      let less : (rest - 1) / shape.room ≡ 0 = div-eq_of_lt (omega arith) in
      rw (packets_are shape n, all_but_last, mul-add-div_right shape.some_room full (rest - 1), less, add-zero full)

  -- full packets alone
  even : (n full : ℕ) → n ≡ full * shape.room → 0 < n → words_for shape n ≡ n * shape.words / shape.room
  even n zero is some = absurd (omega (arith, zero-mul shape.room))
  even n (suc full) is some =
      let all : n * shape.words ≡ shape.words * suc full * shape.room =
      rw is (mul_comm (suc full * shape.room) shape.words ∙ sym (mul_assoc shape.words (suc full) shape.room)) in
      rounded n full shape.room (is ∙ suc-mul full shape.room) shape.some_room (omega arith)
      ∙ sym (div-eq_of_eq-mul_left shape.some_room all)

  pub words_as_before : (n : ℕ) → words_for shape n ≡ words_before shape n
  unfolding words_before packets_for
  words_as_before zero = rw (zero-mod shape.room) (omega arith)
  words_as_before (suc m) = go (side 0 (suc m % shape.room))
    where
      parts : suc m / shape.room * shape.room + suc m % shape.room ≡ suc m
      parts = div-add-mod' (suc m) shape.room

      go : Side 0 (suc m % shape.room) → words_for shape (suc m) ≡ words_before shape (suc m)
      go (under some e) =
          rounded (suc m) (suc m / shape.room) (suc m % shape.room) (sym parts) some (omega (arith, mod-lt (suc m) shape.some_room))
          ∙ rw (ne_eqb (suc m % shape.room) 0 (λ z. omega arith), add-one (suc m / shape.room))
      go (over none e) =
          even (suc m) (suc m / shape.room) (omega (arith, parts)) (omega arith)
          ∙ rw (eq-eqb (suc m % shape.room) 0 (omega arith), ne_eqb (suc m) 0 (λ z. omega arith))

module _ (shape : Shape) (words : List ℕ) (len : ℕ) where
  abbrev old : List ℕ
  old = payload_of shape words len

  abbrev needed : ℕ
  needed = words_for shape (length old)

  -- where the check has passed, the test for 19 passes
  enough : check shape words len ≡ pass → guard (ltb len needed) 19 0 ≡ pass
  enough e = rw (le-ltb len needed (packing_fits shape words len (passes_valid shape words len e)))

  -- and so does that for Room, of packing
  room : check shape words len ≡ pass → guard (ltb (length words) needed) 14 0 ≡ pass
  room e = rw (le-ltb (length words) needed (packing_has_room shape words len (passes_valid shape words len e)))

  -- ---- every input is answered as before

  pub repack_as_before : repack shape words len ≡ repack_before shape words len
  unfolding repack repack_before
  repack_as_before =
      ap (λ (v : Verdict). writes v words needed (rewritten shape words len old))
      (sym (after (check shape words len) (λ e. rw (enough e, room e)) ∙ alone (check shape words len)))

  module _ (from to : ℕ) (bytes : List ℕ) where
    abbrev new : List ℕ
    new = spliced old from to bytes

    pub splice_as_before : splice shape words len from to bytes ≡ splice_before shape words len from to bytes
    unfolding splice splice_before
    splice_as_before =
        ap (λ (v : Verdict). writes v words (record { length = words_for shape (length new); growth = growth_by (length bytes) (to - from) }) (rewritten shape words len new))
        (after (check shape words len) (λ e. after (guard (ltb to from || ltb (length old) to) 13 0) (λ f. rw (enough e))))

    -- ---- none was ever answered 19

    pub splice_never_nineteen : (place : ℕ) → (splice_before shape words len from to bytes).0 ≡ refused 19 place → ⊥
    splice_never_nineteen place e = never_nineteen (splice_named shape words len from to bytes) place (ap (λ (o : Answer Spliced × List ℕ). o.0) splice_as_before ∙ e)

  pub repack_never_nineteen : (place : ℕ) → (repack_before shape words len).0 ≡ refused 19 place → ⊥
  repack_never_nineteen place e = never_nineteen (repack_named shape words len) place (ap (λ (o : Answer ℕ × List ℕ). o.0) repack_as_before ∙ e)
