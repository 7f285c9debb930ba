-- What the comparisons of the samples tell, in the words of the definitions.
-- Assumes nothing.
use Rattle.std.specs.Prelude.{◌≡◌, cond, List, ℕ}
use Rattle.refusal.specs.Answer.{Answer, gives, refused}
use Rattle.ump.specs.Check.{Summary}
use Rattle.ump.specs.Single.{Kind, complete, start, continue, end, unexpected_end, Packet}
use Rattle.equality.specs.Tells.{Begins}

-- the status of a kind, or 4 and 5 for an unexpected end whose earlier data is valid or invalid
abbrev pub code_of : Kind → ℕ
code_of complete = 0
code_of start = 1
code_of continue = 2
code_of end = 3
code_of (unexpected_end valid) = cond valid 4 5

-- the check gives this group, id, payload size and words
abbrev pub Says : Answer Summary → ℕ → List ℕ → ℕ → ℕ → Type 0
Says (gives m) group id size words = (m.group ≡ group) × (m.id ≡ id) × (m.size ≡ size) × (m.words ≡ words)
Says (refused number place) group id size words = ⊥

-- the reader of a packet gives this kind, group, id and payload size
abbrev pub Reads : Answer Packet → ℕ → ℕ → List ℕ → ℕ → Type 0
Reads (gives p) kind group id size = (code_of p.kind ≡ kind) × (p.group ≡ group) × (p.id ≡ id) × (p.size ≡ size)
Reads (refused number place) kind group id size = ⊥

-- a call that writes is not refused, and as much as it answers begins what is lent after it
abbrev pub Hands : Answer ℕ × List ℕ → List ℕ → Type 0
Hands (gives size, after) expected = Begins after size expected
Hands (refused number place, after) expected = ⊥
