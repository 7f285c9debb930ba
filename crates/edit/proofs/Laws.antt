-- Edits that are not bad, growth on 64 bits, and moving an edit case by case. Assumes nothing.
use mathlib.Core.Path.{◌≡◌, sym, ◌∙◌}
use mathlib.Core.Bool.{Bool, true, false}
use Prim.Native.Nat.{ℕ, ◌-◌, ◌^◌, ◌≤◌, ◌<◌}
use native.Mathlib.Omega.{arith}
use lib.IntN.{ℤ, pos, ◌+ℤ◌, ◌-ℤ◌}
use mir.Syntax.{w64}
use mir.Facts.{to_z_pos, to_z-of_z}
use mir.Val.{SFits, to_z, of_z}
use borrow.Author.Tests.{le-ltb, lt-ltb}
use Rattle.refusal.specs.Answer.{gives, refused}
use Rattle.ump.specs.Limits.{most_bytes}
use Rattle.ump.specs.Edits.{Edit, growth, bad_edit, moved_past, move_edit}
use Rattle.ump.proofs.First.{Side, under, over, side}
use Rattle.ump.proofs.Signed.{mag_sub, moved_past_is, moved_by_growth}
use Rattle.edit.specs.Growth.{growth_of, Sound}

-- ---- bad or sound

pub sound_has : (e : Edit) → bad_edit e ≡ false → Sound e
sound_has e h = go (side e.to e.from) (side most_bytes e.to) (side most_bytes e.length)
  where
    no : bad_edit e ≡ true → Sound e
    no k = let z : ◌≡◌ {A = ℕ} 0 1 = cc in absurd (omega arith)

    go : Side e.to e.from → Side most_bytes e.to → Side most_bytes e.length → Sound e
    go (under a p) y z = no (rw p)
    go (over a p) (under b q) z = no (rw (p, q))
    go (over a p) (over b q) (under c r) = no (rw (p, q, r))
    go (over a p) (over b q) (over c r) = record { forward = a; end = b; size = c }

-- ---- growth

pub growth_bad : (e : Edit) → bad_edit e ≡ true → refused 13 0 ≡ growth_of e
unfolding growth_of
growth_bad e h = rw h

module _ (e : Edit) (s : Sound e) where
  -- the two sizes, cast
  pub difference : to_z w64 e.length -ℤ to_z w64 (e.to - e.from) ≡ growth e
  difference =
      let a : e.length < 2 ^ 63 = omega (arith, s.size) in
      let b : e.to - e.from < 2 ^ 63 = omega (arith, s.end) in
      rw (to_z_pos w64 a, to_z_pos w64 b)

  pub growth_fits : SFits w64 (growth e)
  growth_fits = record { sfits = mag_sub e.length (e.to - e.from) (2 ^ 63) (omega (arith, s.size)) (omega (arith, s.end)) }

  -- the growth as an answer holds it
  pub growth_held : {g : ℤ} → g ≡ growth e → to_z w64 (of_z w64 g) ≡ growth e
  growth_held q = rw q (to_z-of_z growth_fits)

  -- a place behind it moves to one that is far below the width
  pub moved_small : (x : ℕ) → e.to ≤ x → x ≤ most_bytes → moved_past e x < 2 ^ 63
  moved_small x h k = rw (moved_past_is e x (omega arith)) (omega (arith, s.size))

  -- a place behind it, cast, and its growth added
  pub sum_is : (x : ℕ) {g : ℤ} → g ≡ growth e → e.to ≤ x → x ≤ most_bytes → to_z w64 x +ℤ to_z w64 (of_z w64 g) ≡ pos (moved_past e x)
  sum_is x q h k =
      let a : x < 2 ^ 63 = omega arith in
      rw (growth_held q, to_z_pos w64 a) (sym (moved_by_growth e x (omega arith)))

  pub sum_fits : (x : ℕ) {g : ℤ} → g ≡ growth e → e.to ≤ x → x ≤ most_bytes → SFits w64 (to_z w64 x +ℤ to_z w64 (of_z w64 g))
  sum_fits x q h k = rw (sum_is x q h k) (record { sfits = moved_small x h k })

  -- and back: nothing is lost
  pub sum_back : (x : ℕ) {g : ℤ} → g ≡ growth e → e.to ≤ x → x ≤ most_bytes
      → to_z w64 (of_z w64 (to_z w64 x +ℤ to_z w64 (of_z w64 g))) ≡ pos (moved_past e x)
  sum_back x q h k = to_z-of_z (sum_fits x q h k) ∙ sum_is x q h k

pub growth_given : (e : Edit) → bad_edit e ≡ false → {g : ℤ} → g ≡ growth e → gives (to_z w64 (of_z w64 g)) ≡ growth_of e
unfolding growth_of
growth_given e h q = rw (growth_held e (sound_has e h) q, h)

-- ---- moving an edit

module _ (d p : Edit) (f : Bool) where
  pub done_bad : bad_edit d ≡ true → refused 13 0 ≡ move_edit d p f
  unfolding move_edit
  done_bad a = rw a

  pub pending_bad : bad_edit d ≡ false → bad_edit p ≡ true → refused 13 0 ≡ move_edit d p f
  unfolding move_edit
  pending_bad a b = rw (a, b)

  module _ (a : bad_edit d ≡ false) (b : bad_edit p ≡ false) where
    pub first_overlaps : f ≡ true → p.from < d.to → refused 20 0 ≡ move_edit d p f
    unfolding move_edit
    first_overlaps e h = rw (a, b, e, lt-ltb p.from d.to h)

    pub first_moves : f ≡ true → d.to ≤ p.from
        → gives (record { from = moved_past d p.from; to = moved_past d p.to }) ≡ move_edit d p f
    unfolding move_edit
    first_moves e h = rw (a, b, e, le-ltb p.from d.to h)

    pub last_overlaps : f ≡ false → d.from < p.to → refused 20 0 ≡ move_edit d p f
    unfolding move_edit
    last_overlaps e h = rw (a, b, e, lt-ltb d.from p.to h)

    pub last_stays : f ≡ false → p.to ≤ d.from → gives (record { from = p.from; to = p.to }) ≡ move_edit d p f
    unfolding move_edit
    last_stays e h = rw (a, b, e, le-ltb d.from p.to h)
