-- `find` and `part_lent` case by case: one edit of a dump. Assumes nothing.
use mathlib.Core.Path.{◌≡◌, sym, ap, ◌∙◌}
use mathlib.Core.Bool.{Bool, true, false, cond, ◌||◌}
use mathlib.Core.Logic.{◌⊎◌, inl, inr}
use mathlib.Core.List.{List, [], ◌∷◌}
use Prim.Native.Nat.{ℕ, zero, suc, ◌+◌, ◌-◌, ◌≤◌, ◌<◌}
use native.Mathlib.Nat.{sub-zero, zero-sub, suc-sub-suc}
use native.Mathlib.Omega.{arith}
use lib.Dec.{ltb}
use lib.ListN.{length, take, drop}
use lib.Seq.{slice, take-nil}
use borrow.Author.Tests.{lt-ltb, le-ltb, ltb-false}
use Rattle.refusal.specs.Answer.{Answer, gives, refused, ◌▷◌, guard}
use Rattle.refusal.proofs.Laws.{never_refused, guard_passed, pass_both}
use Rattle.ump.specs.Splice.{spliced}
use Rattle.ump.specs.Edits.{Edit, Patch, bad_edit}
use Rattle.ump.specs.Runs.{Run, of_dump, of_edit, past, run_from, run_at}
use Rattle.ump.proofs.Checks.{or_left, or_right}
use Rattle.ump.proofs.Runs.{run_tail, run_past, run_gap, run_within, run_later}
use Rattle.ump.proofs.Origins.{replaced_single}
use Rattle.edit.specs.Growth.{Sound}
use Rattle.edit.proofs.Laws.{sound_has}
use Rattle.look.specs.Look.{some_run, find, edit_by, patch_by, shown, stands_at, part_lent}
use Rattle.look.specs.declared.Found.{Found}
use Rattle.look.specs.declared.Found.TheVariants as variant
use Rattle.look.specs.declared.Part.{Part}
use Rattle.look.specs.Meaning.{found_run}
use Rattle.look.proofs.Right.{Right, right}

-- ---- each return of the call is a case

module _ (n : ℕ) (e : Edit) (i : ℕ) where
  pub find_bad : bad_edit e ≡ true → refused 13 0 ≡ find n e i
  unfolding find
  find_bad b = rw b

  module _ (b : bad_edit e ≡ false) where
    pub find-outside : n < e.to → refused 13 0 ≡ find n e i
    unfolding find
    find-outside h = rw (b, lt-ltb n e.to h)

    module _ (h : e.to ≤ n) where
      found : {run : Run} → run_at n (e ∷ []) i ≡ run → some_run run ≡ find n e i
      unfolding find
      found q = rw (b, le-ltb n e.to h, q)

      pub find_before : i < e.from → gives (of_dump 0 i e.from) ≡ find n e i
      find_before k = found (run_gap n 0 0 i e [] (omega arith) ∙ ap (λ (x : ℕ). of_dump 0 x e.from) (omega arith))

      module _ (k : e.from ≤ i) where
        pub find_within : i - e.from < e.length → gives (of_edit 0 (i - e.from) e.length) ≡ find n e i
        find_within l = found (run_within n 0 0 i e [] (omega arith) (omega arith) ∙ ap (λ (x : ℕ). of_edit 0 x e.length) (omega arith))

        module _ (l : e.length ≤ i - e.from) where
          pub find_behind : i - e.from - e.length < n - e.to → gives (of_dump 1 (e.to + (i - e.from - e.length)) n) ≡ find n e i
          find_behind m =
              found
              (run_later n 0 0 i e [] (omega arith) (omega arith)
              ∙ run_tail n e.to 1 (i - (e.from - 0) - e.length) (omega arith)
              ∙ ap (λ (x : ℕ). of_dump 1 x n) (omega arith))

          pub find_beyond : n - e.to ≤ i - e.from - e.length → refused 13 0 ≡ find n e i
          find_beyond m =
              found
              (run_later n 0 0 i e [] (omega arith) (omega arith)
              ∙ run_past n e.to 1 (i - (e.from - 0) - e.length) (omega arith))

-- what holds of a refusal and of each of the three runs holds of every answer
pub find_cases : (P : Answer Run → Type 0) → P (refused 13 0) → ((start end : ℕ) → P (gives (of_dump 0 start end)))
    → ((start end : ℕ) → P (gives (of_edit 0 start end))) → ((start end : ℕ) → P (gives (of_dump 1 start end)))
    → (n : ℕ) (e : Edit) (i : ℕ) → P (find n e i)
unfolding find run_from
find_cases P none before within behind n e i =
    go (bad_edit e || ltb n e.to) (ltb i (e.from - 0)) (ltb (i - (e.from - 0)) e.length) (ltb (i - (e.from - 0) - e.length) (n - e.to))
  where
    go : (a b c d : Bool)
        → P (guard a 13 0 ▷ some_run (cond b (of_dump 0 (0 + i) e.from)
        (cond c (of_edit 0 (i - (e.from - 0)) e.length) (cond d (of_dump 1 (e.to + (i - (e.from - 0) - e.length)) n) past))))
    go true b c d = none
    go false true c d = before _ _
    go false false true d = within _ _
    go false false false true = behind _ _
    go false false false false = none

-- ---- what an answered run says

pub record Known (n : ℕ) (e : Edit) (i : ℕ) (run : Run) : Type 0 where
  pub sound : Sound e
  pub inside : e.to ≤ n
  pub is : run_at n (e ∷ []) i ≡ run

some-run : (run : Run) {other : Run} → some_run run ≡ gives other → run ≡ other
some-run (of_dump k start end) e = cc
some-run (of_edit k start end) e = cc
some-run past e = never_refused e

pub known : (n : ℕ) (e : Edit) (i : ℕ) {run : Run} → find n e i ≡ gives run → Known n e i run
unfolding find
known n e i q =
    let g = pass_both (guard (bad_edit e || ltb n e.to) 13 0) (some_run (run_at n (e ∷ []) i)) q in
    let b = guard_passed (bad_edit e || ltb n e.to) 13 0 g.0 in
    record {
      sound = sound_has e (or_left (bad_edit e) (ltb n e.to) b);
      inside = ltb-false n e.to (or_right (bad_edit e) (ltb n e.to) b);
      is = some-run (run_at n (e ∷ []) i) g.1;
    }

-- a part by its length is a part by its end
part_is : (start end : ℕ) (l : List ℕ) → take (end - start) (drop start l) ≡ slice start end l
part_is zero end l = rw (sub-zero end)
part_is (suc start) zero l = rw (zero-sub (suc start))
part_is (suc start) (suc end) [] = take-nil (suc end - suc start)
part_is (suc start) (suc end) (x ∷ l) = rw (suc-sub-suc end start) (part_is start end l)

-- a part of a source that stands at this place: inside it, and what is lent
pub record LentFrom (at : ℕ × ℕ) (source : List ℕ) (start end : ℕ) (part : (ℕ × ℕ) × List ℕ) : Type 0 where
  pub begins : start ≤ end
  pub ends : end ≤ length source
  pub is : ((at.0, start + at.1), take (end - start) (drop start source)) ≡ part

-- ---- of one edit with its bytes

module _ (dump : List ℕ) (from to : ℕ) (replacement : List ℕ) (i : ℕ) where
  abbrev patches : List Patch
  patches = patch_by from to replacement ∷ []

  abbrev edit : Edit
  edit = edit_by from to replacement

  -- the run is right for what a splice makes of the dump
  pub right_one : {run : Run} → find (length dump) edit i ≡ gives run → Right dump patches (spliced dump from to replacement) i run
  right_one q =
      let k = known (length dump) edit i q in
      rw k.is at (rw (replaced_single dump from to replacement) at (right dump patches (omega arith, (k.sound.forward, k.inside)) i))

  -- where what is lent stands, and its bytes, by the answer of `find`
  lent_by : (dump_at lent_at : ℕ × ℕ) {answer : Answer Run} → find (length dump) edit i ≡ answer
      → (stands_at dump_at lent_at answer, shown dump patches answer) ≡ part_lent dump_at lent_at dump from to replacement i
  unfolding part_lent
  lent_by dump_at lent_at q = ap (λ (x : Answer Run). (stands_at dump_at lent_at x, shown dump patches x)) (sym q)

  -- a run of the dump, and one of the replacement: a part of its source, which is what is lent
  module _ (dump_at lent_at : ℕ × ℕ) where
    pub dump_part : {k start end : ℕ} → find (length dump) edit i ≡ gives (of_dump k start end)
        → LentFrom dump_at dump start end (part_lent dump_at lent_at dump from to replacement i)
    dump_part {k} {start} {end} q =
        let w = right_one q in
        record {
          begins = omega (arith, w.inside.0);
          ends = w.inside.1;
          is = ap (λ (l : List ℕ). ((dump_at.0, start + dump_at.1), l)) (part_is start end dump) ∙ lent_by dump_at lent_at q;
        }

    pub lent-part : {start end : ℕ} → find (length dump) edit i ≡ gives (of_edit 0 start end)
        → LentFrom lent_at replacement start end (part_lent dump_at lent_at dump from to replacement i)
    lent-part {start} {end} q =
        let w = right_one q in
        record {
          begins = omega (arith, w.inside.0);
          ends = omega (arith, w.inside.1);
          is = ap (λ (l : List ℕ). ((lent_at.0, start + lent_at.1), l)) (part_is start end replacement) ∙ lent_by dump_at lent_at q;
        }

    -- the part of the dump that was found, before the edit or behind it
    pub side_part : {stands : Found} {part : Part} → (stands ≡ variant.Before part) ⊎ (stands ≡ variant.Behind part)
        → find (length dump) edit i ≡ gives (found_run stands)
        → LentFrom dump_at dump part.start part.end (part_lent dump_at lent_at dump from to replacement i)
    side_part side q = elim side [ inl e ↦ dump_part (rw e at q) | inr e ↦ dump_part (rw e at q) ]

    pub none_lent : {number place : ℕ} → find (length dump) edit i ≡ refused number place → (dump_at, []) ≡ part_lent dump_at lent_at dump from to replacement i
    none_lent q = lent_by dump_at lent_at q
