-- The growth of an edit as a call.
-- Assumes nothing.
use Rattle.std.specs.Prelude.{◌≤◌, ℤ}
use Rattle.refusal.specs.Answer.{Answer, gives, ◌▷◌, guard}
use Rattle.ump.specs.Limits.{most_bytes}
use Rattle.ump.specs.Edits.{Edit, growth, bad_edit}

-- Range, else replacement length minus range length
unfoldable pub growth_of : Edit → Answer ℤ
growth_of edit = guard (bad_edit edit) 13 0 ▷ gives (growth edit)

-- an edit that is not bad
pub record Sound (edit : Edit) : Type 0 where
  pub forward : edit.from ≤ edit.to
  pub end : edit.to ≤ most_bytes
  pub size : edit.length ≤ most_bytes
