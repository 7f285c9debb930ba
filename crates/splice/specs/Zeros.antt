-- Zeros in a list. Assumes nothing.
use Rattle.std.specs.Prelude.{List, ◌++◌, ℕ, ◌-◌, max, take, drop, replicate}

-- the list with zeros from one place up to another
abbrev pub zeroed : List ℕ → ℕ → ℕ → List ℕ
zeroed l from to = take from l ++ (replicate (to - from) 0 ++ drop (max to from) l)
