-- Ranges moved by signed growth, as 01 has it, are those of `moved`. Assumes nothing.
use mathlib.Core.Path.{◌≡◌, refl, sym, ap, ap₂, ◌∙◌}
use mathlib.Core.Bool.{Bool, true, false, cond, ◌||◌}
use mathlib.Core.List.{List}
use Prim.Native.Nat.{ℕ, zero, suc, ◌+◌, ◌-◌, ◌≤◌, ◌<◌}
use native.Mathlib.Omega.{arith}
use lib.ListN.{length}
use lib.Signed.{mag}
use Rattle.ump.proofs.First.{Side, under, over, side}
use lib.IntN.{ℤ, pos, ◌+ℤ◌, ◌-ℤ◌, neg_ℤ, sub_ℕ, +ℤ_assoc, +ℤ_comm, neg_ℤ-+ℤ, +ℤ_idr}
use Rattle.ump.specs.Edits.{Edit, Range, bad_edit, as_place, moved_past, move_edit, Patch, patch_at, edit_at, Apart, elem, total, growth, totalℤ, grown}
use borrow.Author.Tests.{le-ltb, ltb-false}
use lib.Dec.{ltb}
use Rattle.refusal.specs.Answer.{gives, ◌▷◌, guard}
use Rattle.refusal.proofs.Laws.{never_refused}
use Rattle.ump.proofs.Checks.{or_left, or_right}
use Rattle.ump.specs.Partly.{added, removed, moved}
use Rattle.ump.proofs.Replace.{range_whole}

-- a - b of naturals, as a sum of signed numbers
pub sub_is : (a b : ℕ) → pos a -ℤ pos b ≡ sub_ℕ a b
sub_is a zero = +ℤ_idr (pos a) ∙ sym (rw (le-ltb a 0 (omega arith)) (ap pos (omega arith)))
sub_is a (suc b) = refl

pub sub_pos : (a b : ℕ) → b ≤ a → pos a -ℤ pos b ≡ pos (a - b)
sub_pos a b h = sub_is a b ∙ rw (le-ltb a b h)

swap : (a b c d : ℤ) → (a +ℤ b) +ℤ (c +ℤ d) ≡ (a +ℤ c) +ℤ (b +ℤ d)
swap a b c d =
    +ℤ_assoc a b (c +ℤ d)
    ∙ ap (λ (z : ℤ). a +ℤ z) (sym (+ℤ_assoc b c d) ∙ ap (λ (z : ℤ). z +ℤ d) (+ℤ_comm b c) ∙ +ℤ_assoc c b d)
    ∙ sym (+ℤ_assoc a c (b +ℤ d))

pub sub_add : (a b c d : ℕ) → (pos a -ℤ pos b) +ℤ (pos c -ℤ pos d) ≡ pos (a + c) -ℤ pos (b + d)
sub_add a b c d = swap (pos a) (neg_ℤ (pos b)) (pos c) (neg_ℤ (pos d)) ∙ ap (λ (z : ℤ). pos (a + c) +ℤ z) (sym (neg_ℤ-+ℤ (pos b) (pos d)))

-- a place moved by a signed growth that does not take it below zero
pub move_pos : (x a b : ℕ) → b ≤ x + a → pos x +ℤ (pos a -ℤ pos b) ≡ pos (x + a - b)
move_pos x a b h = sym (+ℤ_assoc (pos x) (pos a) (neg_ℤ (pos b))) ∙ sub_pos (x + a) b h

-- a difference of two sizes fits where they do
pub mag_sub : (a b n : ℕ) → a < n → b ≤ n → mag (pos a -ℤ pos b) < n
mag_sub a b n h k = rw (sub_is a b) (go (side a b))
  where
    go : Side a b → mag (sub_ℕ a b) < n
    go (under l e) = rw e (omega arith)
    go (over l e) = rw e (omega arith)

-- moving an edit adds the done edit's growth, which does not take a place behind it below zero
module _ (e : Edit) (x : ℕ) (h : e.to - e.from ≤ x + e.length) where
  pub moved_past_is : moved_past e x ≡ x + e.length - (e.to - e.from)
  moved_past_is = ap as_place (move_pos x e.length (e.to - e.from) h)

  pub moved_by_growth : pos (moved_past e x) ≡ pos x +ℤ growth e
  moved_by_growth = ap pos moved_past_is ∙ sym (move_pos x e.length (e.to - e.from) h)

module _ {range : Range} where
  twice_passed : (a b : Bool) (value : Range) → guard a 13 0 ▷ guard b 20 0 ▷ gives value ≡ gives range → (a ≡ false) × (b ≡ false) × (value ≡ range)
  twice_passed true b value e = never_refused e
  twice_passed false true value e = never_refused e
  twice_passed false false value e = (refl, refl, cc e)

-- A move that is accepted adds the signed growth of the done edit if that is first,
pub move_signed : (done pending : Edit) (range : Range) → move_edit done pending true ≡ gives range
    → (pos range.from ≡ pos pending.from +ℤ growth done) × (pos range.to ≡ pos pending.to +ℤ growth done)
unfolding move_edit
move_signed done pending range e =
    let o = twice_passed (bad_edit done || bad_edit pending) (ltb pending.from done.to) (record { from = moved_past done pending.from; to = moved_past done pending.to }) e in
    let forward : done.from ≤ done.to = ltb-false _ _ (or_left _ _ (or_left (bad_edit done) (bad_edit pending) o.0)) in
    let onward : pending.from ≤ pending.to = ltb-false _ _ (or_left _ _ (or_right (bad_edit done) (bad_edit pending) o.0)) in
    let behind : done.to ≤ pending.from = ltb-false _ _ o.1 in
    rw (← o.2) (moved_by_growth done pending.from (omega arith), moved_by_growth done pending.to (omega arith))

-- and else nothing.
pub move_keeps : (done pending : Edit) (range : Range) → move_edit done pending false ≡ gives range → (range.from ≡ pending.from) × (range.to ≡ pending.to)
unfolding move_edit
move_keeps done pending range e =
    let o = twice_passed (bad_edit done || bad_edit pending) (ltb done.from pending.to) (record { from = pending.from; to = pending.to }) e in
    rw (← o.2) (refl, refl)

-- ---- the range of an edit that is still to be done

grown_is : (patches : List Patch) (done : List ℕ) (i : ℕ) → grown patches done i ≡ pos (added patches done i) -ℤ pos (removed patches done i)
unfolding total totalℤ
grown_is patches done zero = refl
grown_is patches done (suc i) =
    ap₂ (λ (x y : ℤ). x +ℤ y) (grown_is patches done i) (pick (elem i done)) ∙ sub_add (added patches done i) (removed patches done i) _ _
  where
    pick : (b : Bool) → cond b (growth (edit_at patches i)) (pos 0) ≡ pos (cond b (length (patch_at patches i).bytes) 0) -ℤ pos (cond b ((patch_at patches i).to - (patch_at patches i).from) 0)
    pick true = refl
    pick false = refl

-- It is the old one, plus the signed growth of the lower-numbered edits already done.
module _ (payload : List ℕ) (patches : List Patch) (a : Apart patches (length payload)) (done : List ℕ) (i : ℕ) (h : i < length patches) (u : elem i done ≡ false) where
  signed : (x : ℕ) → (patch_at patches i).from ≤ x → pos (moved patches done i x) ≡ pos x +ℤ grown patches done i
  signed x k =
      sym
      (ap (λ (z : ℤ). pos x +ℤ z) (grown_is patches done i)
      ∙ move_pos x (added patches done i) (removed patches done i) (omega (arith, range_whole payload patches a done i h u)))

  pub from_signed : pos (moved patches done i (patch_at patches i).from) ≡ pos (patch_at patches i).from +ℤ grown patches done i
  from_signed = signed (patch_at patches i).from (omega arith)

  pub to_signed : pos (moved patches done i (patch_at patches i).to) ≡ pos (patch_at patches i).to +ℤ grown patches done i
  to_signed = signed (patch_at patches i).to (a.forward i h)
