-- A dump with all edits of a list, read without making it: where byte i of the result comes from, and how far the run goes that it
-- stands in.
-- Assumes nothing.
use Rattle.std.specs.Prelude.{cond, List, [], ◌∷◌, ℕ, suc, ◌+◌, ◌-◌, ltb}
use Rattle.ump.specs.Edits.{Edit}

-- a run: bytes of one source, from one place of it up to another
pub data Run : Type 0 where
  of_dump : ℕ → ℕ → ℕ → Run  -- of the dump, behind so many edits
  of_edit : ℕ → ℕ → ℕ → Run  -- of the replacement of this edit
  past : Run  -- past the end of the result

-- the longest run from byte i on, where a dump of n bytes is read from `end` on, k edits are passed and these are to come: up to
-- the start of the next edit, the rest of its replacement, or up to the end of the dump; an edit always ends a run
unfoldable pub run_from : ℕ → ℕ → ℕ → List Edit → ℕ → Run
run_from n end k [] i = cond (ltb i (n - end)) (of_dump k (end + i) n) past
run_from n end k (edit ∷ edits) i =
    let gap = edit.from - end in
    cond (ltb i gap) (of_dump k (end + i) edit.from)
    (cond (ltb (i - gap) edit.length) (of_edit k (i - gap) edit.length)
    (run_from n edit.to (suc k) edits (i - gap - edit.length)))

-- the longest run from byte i of the result on
abbrev pub run_at : ℕ → List Edit → ℕ → Run
run_at n edits i = run_from n 0 0 edits i
