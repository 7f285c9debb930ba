-- A run is what stands in the result: its bytes, that there are some, and where it ends. Assumes nothing.
use mathlib.Core.Path.{◌≡◌, refl, sym, ap, ◌∙◌, subst}
use mathlib.Core.Bool.{cond}
use mathlib.Core.List.{List, [], ◌∷◌, ◌++◌, append-nil}
use Prim.Native.Nat.{ℕ, suc, ◌+◌, ◌-◌, ◌≤◌, ◌<◌}
use native.Mathlib.Nat.{add-zero}
use native.Mathlib.Numerals.{add-one}
use native.Mathlib.Omega.{arith}
use lib.Dec.{ltb}
use lib.ListN.{length, get_or, take, drop, length-append, length-drop}
use lib.Seq.{slice, length-slice, take_at, drop-drop, drop-append-le, drop-append-add, take-length, get_or-drop, get_or-take}
use Rattle.ump.specs.Edits.{Edit, Patch, no_patch, patch_at, edits_for, replaced}
use Rattle.ump.specs.Runs.{Run, of_dump, of_edit, past, run_from, run_at}
use Rattle.ump.proofs.First.{Side, under, over, side}
use Rattle.ump.proofs.Replay.{replay, replaced_is}
use Rattle.splice.proofs.Lists.{Ordered}
use Rattle.look.specs.Pieces.{run_length, run_bytes}

ordered_inside : (n end : ℕ) (edits : List Edit) → Ordered n end edits → end ≤ n
ordered_inside n end [] o = o
ordered_inside n end (e ∷ edits) o = omega (arith, o.0, o.1.0, ordered_inside n e.to edits o.1.1)

-- a run stands inside its source
abbrev pub Inside : List ℕ → List Patch → Run → Type 0
Inside dump patches (of_dump k start end) = (start < end) × (end ≤ length dump)
Inside dump patches (of_edit k start end) = (start < end) × (end ≡ length (patch_at patches k).bytes)
Inside dump patches past = Unit {0}

-- a run is the right one for byte i of a result
pub record Right (dump : List ℕ) (patches : List Patch) (result : List ℕ) (i : ℕ) (run : Run) : Type 0 where
  pub reads : run_bytes dump patches run ≡ take (run_length run) (drop i result)
  pub inside : Inside dump patches run
  pub fits : run_length run ≤ length result - i
  pub some : i < length result → 0 < run_length run
  pub none : length result ≤ i → run ≡ past

module _ (dump : List ℕ) (patches : List Patch) where
  -- a run that is the rest of the first part of a result
  right_front : (xs ys : List ℕ) (i : ℕ) (run : Run) → i < length xs → run_bytes dump patches run ≡ drop i xs → Inside dump patches run
      → run_length run ≡ length xs - i → Right dump patches (xs ++ ys) i run
  right_front xs ys i run h b s l =
      let t = length-append xs ys in
      record {
        reads =
            b
            ∙ sym
            (ap (take (run_length run)) (drop-append-le i xs ys (omega arith))
            ∙ take_at (drop i xs) ys (run_length run) (length-drop i xs ∙ sym l));
        inside = s;
        fits = omega arith;
        some = λ k. omega arith;
        none = λ k. absurd (omega arith);
      }

  -- a run behind the first part
  right_behind : (xs ys : List ℕ) (i : ℕ) (run : Run) → length xs ≤ i → Right dump patches ys (i - length xs) run → Right dump patches (xs ++ ys) i run
  right_behind xs ys i run h r =
      let t = length-append xs ys in
      let e : i ≡ length xs + (i - length xs) = omega arith in
      record {
        reads =
            r.reads
            ∙ ap (take (run_length run)) (sym (ap (λ (k : ℕ). drop k (xs ++ ys)) e ∙ drop-append-add xs ys (i - length xs)));
        inside = r.inside;
        fits = omega (arith, r.fits);
        some = λ k. r.some (omega arith);
        none = λ k. r.none (omega arith);
      }

  right_past : (result : List ℕ) (i : ℕ) → length result ≤ i → Right dump patches result i past
  right_past result i h = record { reads = refl; inside = tt; fits = omega arith; some = λ k. absurd (omega arith); none = λ k. refl }

  -- the patch that comes next
  pub patch_here : (k : ℕ) (p : Patch) (ps : List Patch) → drop k patches ≡ p ∷ ps → patch_at patches k ≡ p
  patch_here k p ps d =
      ap (λ (j : ℕ). get_or patches j no_patch) (sym (add-zero k))
      ∙ sym (get_or-drop k patches 0 no_patch)
      ∙ ap (λ (l : List Patch). get_or l 0 no_patch) d

  pub patch_next : (k : ℕ) (p : Patch) (ps : List Patch) → drop k patches ≡ p ∷ ps → drop (suc k) patches ≡ ps
  patch_next k p ps d =
      ap (λ (j : ℕ). drop j patches) (sym (add-one k)) ∙ sym (drop-drop 1 k patches) ∙ ap (drop 1) d

  pub right_from : (ps : List Patch) (end k i : ℕ) → drop k patches ≡ ps → Ordered (length dump) end (edits_for ps)
      → Right dump patches (replay dump end ps) i (run_from (length dump) end k (edits_for ps) i)
  unfolding run_from replay
  right_from [] end k i d r = go (side i (length dump - end))
    where
      go : Side i (length dump - end) → Right dump patches (drop end dump) i (cond (ltb i (length dump - end)) (of_dump k (end + i) (length dump)) past)
      go (under h e) =
          rw e
          (subst (λ (l : List ℕ). Right dump patches l i (of_dump k (end + i) (length dump))) (append-nil (drop end dump))
          (right_front (drop end dump) [] i (of_dump k (end + i) (length dump)) (omega (arith, length-drop end dump))
          (ap (drop (end + i)) (take-length dump) ∙ sym (drop-drop i end dump))
          (omega arith, omega arith)
          (omega (arith, length-drop end dump))))
      go (over h e) = rw e (right_past (drop end dump) i (omega (arith, length-drop end dump)))
  right_from (p ∷ ps) end k i d r =
      go (side i (p.from - end)) (side (i - (p.from - end)) (length p.bytes))
      (right_from ps p.to (suc k) (i - (p.from - end) - length p.bytes) (patch_next k p ps d) r.1.1)
    where
      run : Run
      run = run_from (length dump) p.to (suc k) (edits_for ps) (i - (p.from - end) - length p.bytes)

      gap : List ℕ
      gap = slice end p.from dump

      rest : List ℕ
      rest = replay dump p.to ps

      from_inside : p.from ≤ length dump
      from_inside = omega (arith, r.1.0, ordered_inside (length dump) p.to (edits_for ps) r.1.1)

      length-gap : length gap ≡ p.from - end
      length-gap = length-slice end p.from dump from_inside

      here : patch_at patches k ≡ p
      here = patch_here k p ps d

      within : (j : ℕ) → j < length p.bytes → Right dump patches (p.bytes ++ rest) j (of_edit k j (length p.bytes))
      within j h =
          right_front p.bytes rest j (of_edit k j (length p.bytes)) h
          (ap (λ (q : Patch). slice j (length p.bytes) q.bytes) here ∙ ap (drop j) (take-length p.bytes))
          (h, sym (ap (λ (q : Patch). length q.bytes) here))
          refl

      go : Side i (p.from - end) → Side (i - (p.from - end)) (length p.bytes)
          → Right dump patches rest (i - (p.from - end) - length p.bytes) run
          → Right dump patches (gap ++ (p.bytes ++ rest)) i
          (cond (ltb i (p.from - end)) (of_dump k (end + i) p.from)
          (cond (ltb (i - (p.from - end)) (length p.bytes)) (of_edit k (i - (p.from - end)) (length p.bytes)) run))
      go (under h e) y z =
          rw e
          (right_front gap (p.bytes ++ rest) i (of_dump k (end + i) p.from) (omega (arith, length-gap))
          (sym (drop-drop i end (take p.from dump)))
          (omega arith, from_inside)
          (omega (arith, length-gap)))
      go (over h e) (under l f) z =
          rw (e, f)
          (right_behind gap (p.bytes ++ rest) i _ (omega (arith, length-gap)) (rw length-gap (within (i - (p.from - end)) l)))
      go (over h e) (over l f) z =
          rw (e, f)
          (right_behind gap (p.bytes ++ rest) i run (omega (arith, length-gap))
          (rw length-gap (right_behind p.bytes rest (i - (p.from - end)) run l z)))

  module _ (r : Ordered (length dump) 0 (edits_for patches)) where
    -- the run at byte i is what stands there in the result
    pub right : (i : ℕ) → Right dump patches (replaced dump patches) i (run_at (length dump) (edits_for patches) i)
    right i = rw (replaced_is dump patches) (right_from patches 0 0 i refl r)

    -- its first byte is byte i
    pub first_byte : (i : ℕ) → i < length (replaced dump patches)
        → get_or (run_bytes dump patches (run_at (length dump) (edits_for patches) i)) 0 0 ≡ get_or (replaced dump patches) i 0
    first_byte i h =
        let w = right i in
        let result = replaced dump patches in
        let l = run_length (run_at (length dump) (edits_for patches) i) in
        ap (λ (x : List ℕ). get_or x 0 0) w.reads
        ∙ get_or-take l (drop i result) 0 0 (w.some h)
        ∙ get_or-drop i result 0 0
        ∙ ap (λ (k : ℕ). get_or result k 0) (add-zero i)
