-- The checks of a list of edits lent as numbers, and the size of the result.
-- Assumes nothing.
use Rattle.std.specs.Prelude.{Bool, cond, ◌||◌, List, ℕ, ◌+◌, ◌-◌, ltb, Option, None, Some}
use Rattle.refusal.specs.Answer.{Answer, gives, Verdict, ◌▷◌, guard}
use Rattle.ump.specs.Edits.{Edit, bad_edit, edits_of, lengths, bad_list, some_overlap}
use Rattle.splice.specs.Merging.{widths}

-- Range, Overlap
unfoldable pub list_check : ℕ → ℕ → List ℕ → Verdict
list_check n bytes numbers = guard (bad_list n bytes numbers) 13 0 ▷ guard (some_overlap 0 (edits_of numbers)) 20 0

-- the size of a payload of n bytes with all ranges replaced
abbrev pub size_after : ℕ → List Edit → ℕ
size_after n edits = n + lengths edits - widths edits

-- Range, Overlap; else the size of the result
abbrev pub listed : ℕ → ℕ → List ℕ → Answer ℕ
listed n bytes numbers = list_check n bytes numbers ▷ gives (size_after n (edits_of numbers))

-- ---- the walk over the edits

-- bad, past n bytes, of more bytes than are left, or before the end of the one before
abbrev pub out_of_turn : ℕ → ℕ → ℕ → Edit → Bool
out_of_turn n left end edit = (bad_edit edit || ltb n edit.to) || (ltb left edit.length || ltb edit.from end)

-- the bytes taken out; none where the list is refused
unfoldable pub cut_found : ℕ → ℕ → List ℕ → Option ℕ
cut_found n bytes numbers = cond (bad_list n bytes numbers || some_overlap 0 (edits_of numbers)) None (Some (widths (edits_of numbers)))
