-- All edits of a list, in one pass or in two, come to all ranges replaced. Assumes nothing.
use mathlib.Core.Path.{◌≡◌, refl, ap, ap₂, ◌∙◌}
use mathlib.Core.Bool.{Bool, true, false}
use mathlib.Core.List.{List, [], ◌∷◌, ◌++◌, append_assoc}
use Prim.Native.Nat.{ℕ, suc, ◌+◌, ◌-◌, ◌≤◌, ◌<◌}
use native.Mathlib.Nat.{add-zero}
use native.Mathlib.Omega.{arith}
use lib.Dec.{ltb}
use lib.ListN.{length, take, drop, length-append, length-take, length-drop}
use lib.Seq.{slice, length-take-le, take_at, drop_at, drop-drop}
use Rattle.ump.specs.Packet.{joined}
use Rattle.ump.specs.Edits.{Edit, Patch, Apart, patch_at, replaced, patches_of, lengths}
use Rattle.ump.proofs.First.{Side, under, over, side}
use Rattle.ump.proofs.Joined.{joined_cong, joined_front}
use Rattle.ump.proofs.Fronts.{drop-take}
use Rattle.ump.proofs.Replace.{end_from, end_before_lem, end_next}
use Rattle.merge.specs.Pass.{is_due, width, step_of, merged}
use Rattle.splice.specs.Merging.{widths}
use Rattle.merge.proofs.Turning.{step_due, step_kept, merged-none, merged-step, take_front}

-- ---- edits in order

-- none reversed, none beginning before the end of the one before it, the last inside a payload of n bytes
abbrev pub Ordered : ℕ → ℕ → List Edit → Type 0
Ordered n end [] = end ≤ n
Ordered n end (edit ∷ edits) = (end ≤ edit.from) × ((edit.from ≤ edit.to) × Ordered n edit.to edits)

ordered_from : (n start : ℕ) (edits : List Edit) (bytes : List ℕ)
    → ((i : ℕ) → i < length (patches_of edits bytes) → end_from start (patches_of edits bytes) i ≤ (patch_at (patches_of edits bytes) i).from)
    → ((i : ℕ) → i < length (patches_of edits bytes) → (patch_at (patches_of edits bytes) i).from ≤ (patch_at (patches_of edits bytes) i).to)
    → end_from start (patches_of edits bytes) (length (patches_of edits bytes)) ≤ n → Ordered n start edits
ordered_from n start [] bytes a f h = h
ordered_from n start (edit ∷ edits) bytes a f h =
    let patch : Patch = record { from = edit.from; to = edit.to; bytes = take edit.length bytes } in
    let rest : List Patch = patches_of edits (drop edit.length bytes) in
    let on =
    ordered_from n edit.to edits (drop edit.length bytes)
    (λ i k. rw (end_next patch rest i) at (a (suc i) (omega arith)))
    (λ i k. f (suc i) (omega arith))
    (rw (end_next patch rest (length rest)) at h)
    in
    (a 0 (omega arith), (f 0 (omega arith), on))

pub ordered : (n : ℕ) (edits : List Edit) (bytes : List ℕ) → Apart (patches_of edits bytes) n → Ordered n 0 edits
ordered n edits bytes a =
    let patches : List Patch = patches_of edits bytes in
    ordered_from n 0 edits bytes (λ i h. rw (end_before_lem patches i) at (a.after i h)) a.forward (rw (end_before_lem patches (length patches)) at a.inside)

-- ---- all ranges replaced

-- what a pass that does all edits does
step_all : (end : ℕ) (edit : Edit) → step_of false true end edit ≡ record { kept = edit.from - end; out = width edit; put = edit.length }
step_all end edit = step_due false true end edit (go (ltb (width edit) edit.length))
  where
    go : (grows : Bool) → is_due grows false true ≡ true
    go true = refl
    go false = refl

part : ℕ → List Patch → List ℕ → ℕ → List ℕ
part start patches source i = slice (end_from start patches i) (patch_at patches i).from source ++ (patch_at patches i).bytes

part_next : (start : ℕ) (patch : Patch) (patches : List Patch) (source : List ℕ) (n : ℕ)
    → joined (part start (patch ∷ patches) source) (suc n)
    ≡ slice start patch.from source ++ (patch.bytes ++ joined (part patch.to patches source) n)
unfolding part
part_next start patch patches source n =
    let f : ℕ → List ℕ = part start (patch ∷ patches) source in
    joined_front f n
    ∙ ap (λ (l : List ℕ). f 0 ++ l) (joined_cong (λ i. f (suc i)) (part patch.to patches source) n (λ i h. rw (end_next patch patches i)))
    ∙ append_assoc (slice start patch.from source) patch.bytes _

all_from : (start : ℕ) (edits : List Edit) (source bytes : List ℕ) → Ordered (length source) start edits
    → merged false true start edits (drop start source) bytes
    ≡ joined (part start (patches_of edits bytes) source) (length (patches_of edits bytes))
    ++ drop (end_from start (patches_of edits bytes) (length (patches_of edits bytes))) source
unfolding joined
all_from start [] source bytes o = merged-none false true start (drop start source) bytes
all_from start (edit ∷ edits) source bytes o =
    let patch : Patch = record { from = edit.from; to = edit.to; bytes = take edit.length bytes } in
    let rest : List Patch = patches_of edits (drop edit.length bytes) in
    let q : start + (edit.from - start + (edit.to - edit.from)) ≡ edit.to = omega (arith, o.0, o.1.0) in
    rw (
      merged-step,
      step_all,
      drop-drop,
      q,
      ← (drop-take start edit.from source),
      all_from edit.to edits source (drop edit.length bytes) o.1.1,
      part_next start patch rest source (length rest),
      end_next patch rest (length rest),
    )
    (simp append_assoc)

pub one_pass : (edits : List Edit) (source bytes : List ℕ) → Ordered (length source) 0 edits
    → merged false true 0 edits source bytes ≡ replaced source (patches_of edits bytes)
unfolding replaced part
one_pass edits source bytes o =
    let patches = patches_of edits bytes in
    all_from 0 edits source bytes o
    ∙ ap₂ (λ (x y : List ℕ). x ++ y)
    (joined_cong (part 0 patches source) _ (length patches) (λ i h. rw (end_before_lem patches i)))
    (rw (end_before_lem patches (length patches)))

-- ---- in two passes

-- an edit is done in the first pass or in the second
module _ (end : ℕ) (edit : Edit) (edits : List Edit) (source bytes : List ℕ) (long : edit.from - end + width edit ≤ length source)
    (enough : edit.length ≤ length bytes) where
  abbrev gap : ℕ
  gap = edit.from - end

  abbrev next : List ℕ
  next = drop (gap + width edit) source

  abbrev left : List ℕ
  left = drop edit.length bytes

  abbrev rest : List ℕ
  rest = merged false false edit.to edits next left

  two_next : merged true true edit.to edits rest left ≡ merged false true edit.to edits next left → Side (width edit) edit.length
      → merged true true end (edit ∷ edits) (merged false false end (edit ∷ edits) source bytes) bytes
      ≡ merged false true end (edit ∷ edits) source bytes
  two_next on (under h e) =
      simp (
        merged-step,
        step_all,
        step_kept false false end edit (rw e),
        step_due true true end edit (rw e),
        add-zero,
        take_front gap (width edit) source rest (omega arith),
        drop_at (take (gap + width edit) source) rest (gap + width edit) (length-take-le (gap + width edit) source long),
        on,
      )
  two_next on (over h e) =
      let front = take gap source ++ take edit.length bytes in
      let size : length front ≡ gap + edit.length = simp (length-append, length-take) (omega arith) in
      let here = append_assoc (take gap source) (take edit.length bytes) in
      simp (
        merged-step,
        step_all,
        step_due false false end edit (rw e),
        step_kept true true end edit (rw e),
        add-zero,
        ← here,
        take_at front rest (gap + edit.length) size,
        drop_at front rest (gap + edit.length) size,
        on,
      )

-- the ranges have no more bytes than the payload
pub widths_inside : (n end : ℕ) (edits : List Edit) → Ordered n end edits → end + widths edits ≤ n
unfolding widths
widths_inside n end [] o = omega arith
widths_inside n end (edit ∷ edits) o = omega (arith, o.0, o.1.0, widths_inside n edit.to edits o.1.1)

pub two_passes : (n end : ℕ) (edits : List Edit) (source bytes : List ℕ) → Ordered n end edits → length source ≡ n - end
    → lengths edits ≤ length bytes
    → merged true true end edits (merged false false end edits source bytes) bytes ≡ merged false true end edits source bytes
two_passes n end [] source bytes o s b = simp merged-none
two_passes n end (edit ∷ edits) source bytes o s b =
    let next = edit.from - end + width edit in
    let q : next ≡ edit.to - end = omega (arith, o.0, o.1.0) in
    let inside = widths_inside n edit.to edits o.1.1 in
    two_next end edit edits source bytes (omega arith) (omega arith)
    (two_passes n edit.to edits (drop next source) (drop edit.length bytes) o.1.1
    (omega (arith, o.0, length-drop next source))
    (omega (arith, length-drop edit.length bytes)))
    (side (width edit) edit.length)

-- ---- how long the result is

length_from : (n end : ℕ) (edits : List Edit) (source bytes : List ℕ) → Ordered n end edits → length source ≡ n - end
    → lengths edits ≤ length bytes → length (merged false true end edits source bytes) + widths edits ≡ length source + lengths edits
unfolding widths
length_from n end [] source bytes o s b = rw merged-none
length_from n end (edit ∷ edits) source bytes o s b =
    let next = edit.from - end + width edit in
    let inside = widths_inside n edit.to edits o.1.1 in
    let r = length-drop next source in
    let on =
    length_from n edit.to edits (drop next source) (drop edit.length bytes) o.1.1
    (omega (arith, o.0, o.1.0))
    (omega (arith, length-drop edit.length bytes))
    in
    rw (merged-step, step_all) (simp (length-append, length-take) (omega (arith, o.0, o.1.0)))

pub length-replaced : (edits : List Edit) (source bytes : List ℕ) → Apart (patches_of edits bytes) (length source) → lengths edits ≤ length bytes
    → length (replaced source (patches_of edits bytes)) + widths edits ≡ length source + lengths edits
length-replaced edits source bytes a h =
    let o = ordered (length source) edits bytes a in
    rw (← (one_pass edits source bytes o)) (length_from (length source) 0 edits source bytes o (omega arith) h)
