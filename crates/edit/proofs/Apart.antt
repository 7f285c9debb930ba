-- Where the checks of a list of edits pass, the ranges are apart. Assumes nothing.
use mathlib.Core.Path.{◌≡◌}
use mathlib.Core.Bool.{false}
use mathlib.Core.List.{List, [], ◌∷◌}
use Prim.Native.Nat.{ℕ, zero, suc, ◌≤◌, ◌<◌}
use native.Mathlib.Omega.{arith}
use lib.ListN.{length, take, drop}
use Rattle.ump.specs.Edits.{Edit, Patch, patch_at, end_before, Apart, patches_of, some_bad, some_overlap}
use Rattle.ump.proofs.Replace.{end_from, end_before_lem, end_next}
use Rattle.splice.specs.Merging.{widths}
use Rattle.splice.proofs.Lists.{ordered, widths_inside}
use Rattle.edit.proofs.Lists.{bad_none, overlap_none}

after : (start : ℕ) (es : List Edit) (bytes : List ℕ) → some_overlap start es ≡ false
    → (i : ℕ) → i < length (patches_of es bytes) → end_from start (patches_of es bytes) i ≤ (patch_at (patches_of es bytes) i).from
after start [] bytes o i h = absurd (omega arith)
after start (e ∷ es) bytes o zero h = (overlap_none start e es o).0
after start (e ∷ es) bytes o (suc i) h =
    let rest = patches_of es (drop e.length bytes) in
    let patch : Patch = record { from = e.from; to = e.to; bytes = take e.length bytes } in
    rw (end_next patch rest i) (after e.to es (drop e.length bytes) (overlap_none start e es o).1 i (omega arith))

within : (n : ℕ) (es : List Edit) (bytes : List ℕ) → some_bad n es ≡ false → (i : ℕ) → i < length (patches_of es bytes)
    → ((patch_at (patches_of es bytes) i).from ≤ (patch_at (patches_of es bytes) i).to) × ((patch_at (patches_of es bytes) i).to ≤ n)
within n [] bytes b i h = absurd (omega arith)
within n (e ∷ es) bytes b zero h = let g = bad_none n e es b in (g.0.forward, g.1)
within n (e ∷ es) bytes b (suc i) h = within n es (drop e.length bytes) (bad_none n e es b).2 i (omega arith)

-- the checks passed: each range is inside the payload, never reversed, and ends no later than the next begins
pub apart : (n : ℕ) (es : List Edit) (bytes : List ℕ) → some_bad n es ≡ false → some_overlap 0 es ≡ false → Apart (patches_of es bytes) n
apart n es bytes b o =
    record {
      after = λ i h. rw (end_before_lem (patches_of es bytes) i) (after 0 es bytes o i h);
      forward = λ i h. (within n es bytes b i h).0;
      inside = last (length (patches_of es bytes)) (omega arith);
    }
  where
    last : (m : ℕ) → m ≤ length (patches_of es bytes) → end_before (patches_of es bytes) m ≤ n
    last zero h = omega arith
    last (suc m) h = (within n es bytes b m h).1

-- and so no more bytes are taken out than there are
pub widths_fit : (n : ℕ) (es : List Edit) → some_bad n es ≡ false → some_overlap 0 es ≡ false → widths es ≤ n
widths_fit n es b o = omega (arith, widths_inside n 0 es (ordered n es [] (apart n es [] b o)))
