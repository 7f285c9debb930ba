-- A run is the longest from its byte on: each byte of it is in the same piece, and the byte behind it in a later one. Assumes nothing.
use mathlib.Core.Path.{◌≡◌, refl, sym, ap, ◌∙◌, subst}
use mathlib.Core.List.{List, [], ◌∷◌}
use Prim.Native.Nat.{ℕ, suc, ◌+◌, ◌-◌, ◌*◌, ◌≤◌, ◌<◌}
use native.Mathlib.Omega.{arith}
use lib.ListN.{length}
use Rattle.ump.specs.Edits.{Edit}
use Rattle.ump.specs.Runs.{Run, of_dump, of_edit, past, run_from, run_at}
use Rattle.ump.proofs.First.{Side, under, over, side}
use Rattle.ump.proofs.Runs.{run_tail, run_past, run_gap, run_within, run_later}
use Rattle.look.specs.Pieces.{run_length, along, piece_of, Longest}

-- no run is in a piece before those of the edits to come
piece_least : (m n end k : ℕ) (es : List Edit) (i : ℕ) → m ≡ k + length es → 2 * k ≤ piece_of m (run_from n end k es i)
piece_least m n end k [] i q = go (side i (n - end))
  where
    go : Side i (n - end) → 2 * k ≤ piece_of m (run_from n end k [] i)
    go (under h e) = rw (run_tail n end k i h) (omega arith)
    go (over h e) = rw (run_past n end k i h) (omega arith)
piece_least m n end k (x ∷ es) i q =
    go (side i (x.from - end)) (side (i - (x.from - end)) x.length)
    (piece_least m n x.to (suc k) es (i - (x.from - end) - x.length) (omega arith))
  where
    go : Side i (x.from - end) → Side (i - (x.from - end)) x.length
        → 2 * suc k ≤ piece_of m (run_from n x.to (suc k) es (i - (x.from - end) - x.length))
        → 2 * k ≤ piece_of m (run_from n end k (x ∷ es) i)
    go (under h e) y z = rw (run_gap n end k i x es h) (omega arith)
    go (over h e) (under l f) z = rw (run_within n end k i x es h l) (omega arith)
    go (over h e) (over l f) z = rw (run_later n end k i x es h l) (omega arith)

-- what a run at byte i says, where the run is known
longest_by : (m : ℕ) (at : ℕ → Run) (i : ℕ) (run : Run) → at i ≡ run → ((j : ℕ) → j < run_length run → at (i + j) ≡ along j run)
    → (0 < run_length run → piece_of m run < piece_of m (at (i + run_length run))) → Longest m at i
longest_by m at i run e s l =
    subst (λ (r : Run). ((j : ℕ) → j < run_length r → at (i + j) ≡ along j r) → (0 < run_length r → piece_of m r < piece_of m (at (i + run_length r))) → Longest m at i)
    e (λ s l. record { same = s; ends = l }) s l

longest_from : (m n end k : ℕ) (es : List Edit) (i : ℕ) → m ≡ k + length es → Longest m (run_from n end k es) i
longest_from m n end k [] i q = go (side i (n - end))
  where
    go : Side i (n - end) → Longest m (run_from n end k []) i
    go (under h e) =
        longest_by m (run_from n end k []) i (of_dump k (end + i) n) (run_tail n end k i h)
        (λ j l. run_tail n end k (i + j) (omega arith) ∙ ap (λ (x : ℕ). of_dump k x n) (omega arith))
        (λ l. rw (run_past n end k (i + (n - (end + i))) (omega arith)) (omega arith))
    go (over h e) = longest_by m (run_from n end k []) i past (run_past n end k i h) (λ j l. absurd (omega arith)) (λ l. absurd (omega arith))
longest_from m n end k (x ∷ es) i q =
    go (side i (x.from - end)) (side (i - (x.from - end)) x.length)
    (longest_from m n x.to (suc k) es (i - (x.from - end) - x.length) (omega arith))
  where
    gap : ℕ
    gap = x.from - end

    at : ℕ → Run
    at = run_from n end k (x ∷ es)

    -- a byte at the end of the gap, and one at the end of the replacement
    past_gap : (j : ℕ) → j ≡ gap → 2 * k < piece_of m (at j)
    past_gap j t = pick (side (j - gap) x.length)
      where
        pick : Side (j - gap) x.length → 2 * k < piece_of m (at j)
        pick (under l f) = rw (run_within n end k j x es (omega arith) l) (omega arith)
        pick (over l f) =
            rw (run_later n end k j x es (omega arith) l)
            (omega (arith, piece_least m n x.to (suc k) es (j - gap - x.length) (omega arith)))

    past_patch : (j : ℕ) → j ≡ gap + x.length → 2 * k + 1 < piece_of m (at j)
    past_patch j t =
        rw (run_later n end k j x es (omega arith) (omega arith))
        (omega (arith, piece_least m n x.to (suc k) es (j - gap - x.length) (omega arith)))

    -- a byte behind the edit
    behind : (j b : ℕ) → gap + x.length ≤ j → b ≡ j - gap - x.length → at j ≡ run_from n x.to (suc k) es b
    behind j b h e = run_later n end k j x es (omega arith) (omega arith) ∙ ap (run_from n x.to (suc k) es) (sym e)

    go : Side i gap → Side (i - gap) x.length → Longest m (run_from n x.to (suc k) es) (i - gap - x.length) → Longest m at i
    go (under h e) y z =
        longest_by m at i (of_dump k (end + i) x.from) (run_gap n end k i x es h)
        (λ j l. run_gap n end k (i + j) x es (omega arith) ∙ ap (λ (a : ℕ). of_dump k a x.from) (omega arith))
        (λ l. past_gap (i + (x.from - (end + i))) (omega arith))
    go (over h e) (under l f) z =
        longest_by m at i (of_edit k (i - gap) x.length) (run_within n end k i x es h l)
        (λ j r. run_within n end k (i + j) x es (omega arith) (omega arith) ∙ ap (λ (a : ℕ). of_edit k a x.length) (omega arith))
        (λ r. past_patch (i + (x.length - (i - gap))) (omega arith))
    go (over h e) (over l f) z =
        let b : ℕ = i - gap - x.length in
        let run = run_from n x.to (suc k) es b in
        longest_by m at i run (behind i b (omega arith) refl)
        (λ j r. behind (i + j) (b + j) (omega arith) (omega arith) ∙ z.same j r)
        (λ r. rw (behind (i + run_length run) (b + run_length run) (omega arith) (omega arith)) (z.ends r))

-- the run at byte i of a dump of n bytes with edits
pub longest : (n : ℕ) (edits : List Edit) (i : ℕ) → Longest (length edits) (run_at n edits) i
longest n edits i = longest_from (length edits) n 0 0 edits i (omega arith)
