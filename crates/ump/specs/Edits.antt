-- Edits of one payload: moving one, all of a list at once, and one after the other in any order.
-- Assumes nothing.
use Rattle.std.specs.Prelude.{Bool, false, not, cond, ◌||◌, List, [], ◌∷◌, ◌++◌, ℕ, zero, suc, ◌+◌, ◌-◌, ◌*◌, ◌/◌, ◌%◌, ◌≤◌, ◌<◌, T, eqb, ltb, ℤ, pos, negsuc, ◌+ℤ◌, length, get_or, take, drop}
use Rattle.std.proofs.Math.Seq.{slice}
use Rattle.refusal.specs.Answer.{Answer, gives, Verdict, ◌▷◌, guard, writes}
use Rattle.ump.specs.Packet.{Shape, joined}
use Rattle.ump.specs.Packing.{words_for}
use Rattle.ump.specs.Limits.{most_bytes}
use Rattle.ump.specs.Check.{check, payload_of}
use Rattle.ump.specs.Splice.{growth_by, Spliced, rewritten}

-- an edit is from, to and replacement length
pub record Edit : Type 0 where
  pub from : ℕ
  pub to : ℕ
  pub length : ℕ

pub record Range : Type 0 where
  pub from : ℕ
  pub to : ℕ

abbrev pub growth : Edit → ℤ
growth edit = growth_by edit.length (edit.to - edit.from)

-- ---- moving an edit (01, module 8)

-- reversed, or a number above the most bytes
abbrev pub bad_edit : Edit → Bool
bad_edit edit = ltb edit.to edit.from || (ltb most_bytes edit.to || ltb most_bytes edit.length)

-- a signed number as a place (none is below zero)
abbrev pub as_place : ℤ → ℕ
as_place (pos n) = n
as_place (negsuc n) = 0

-- a place behind a done edit, moved by its growth
abbrev pub moved_past : Edit → ℕ → ℕ
moved_past done x = as_place (pos x +ℤ growth done)

-- the pending edit's new range: Range (either edit), then Overlap
unfoldable pub move_edit : Edit → Edit → Bool → Answer Range
move_edit done pending done_first =
    guard (bad_edit done || bad_edit pending) 13 0
    ▷ guard (cond done_first (ltb pending.from done.to) (ltb done.from pending.to)) 20 0
    ▷ gives
    (cond done_first
    (record { from = moved_past done pending.from; to = moved_past done pending.to })
    (record { from = pending.from; to = pending.to }))

-- ---- a list of edits, each with its replacement bytes, numbered from 0

pub record Patch : Type 0 where
  pub from : ℕ
  pub to : ℕ
  pub bytes : List ℕ

abbrev pub no_patch : Patch
no_patch = record { from = 0; to = 0; bytes = [] }

abbrev pub patch_at : List Patch → ℕ → Patch
patch_at patches i = get_or patches i no_patch

abbrev pub edit_at : List Patch → ℕ → Edit
edit_at patches i =
    record { from = (patch_at patches i).from; to = (patch_at patches i).to; length = length (patch_at patches i).bytes }

-- patches by their numbers
abbrev pub edits_for : List Patch → List Edit
edits_for [] = []
edits_for (patch ∷ patches) = record { from = patch.from; to = patch.to; length = length patch.bytes } ∷ edits_for patches

-- where patch i may begin: the end of the one before it
abbrev pub end_before : List Patch → ℕ → ℕ
end_before patches zero = 0
end_before patches (suc i) = (patch_at patches i).to

-- each range inside a payload of n bytes, never reversed, ending no later than the next begins
pub record Apart (patches : List Patch) (n : ℕ) : Type 0 where
  pub after : (i : ℕ) → i < length patches → end_before patches i ≤ (patch_at patches i).from
  pub forward : (i : ℕ) → i < length patches → (patch_at patches i).from ≤ (patch_at patches i).to
  pub inside : end_before patches (length patches) ≤ n

-- all ranges replaced at once
unfoldable pub replaced : List ℕ → List Patch → List ℕ
replaced bytes patches =
    joined (λ i. slice (end_before patches i) (patch_at patches i).from bytes ++ (patch_at patches i).bytes) (length patches)
    ++ drop (end_before patches (length patches)) bytes

-- ---- all edits at once: edits lent as numbers, and their replacement bytes end to end

-- how many numbers an edit has: from, to and replacement length
abbrev pub per_edit : ℕ
per_edit = 3

-- edit i of a list of numbers
abbrev pub edit_in : List ℕ → ℕ → Edit
edit_in numbers i =
    record {
      from = get_or numbers (per_edit * i) 0;
      to = get_or numbers (per_edit * i + 1) 0;
      length = get_or numbers (per_edit * i + 2) 0;
    }

-- so many edits, from edit i on
unfoldable pub edits_from : List ℕ → ℕ → ℕ → List Edit
edits_from numbers i zero = []
edits_from numbers i (suc count) = edit_in numbers i ∷ edits_from numbers (suc i) count

-- all edits of a list of numbers
abbrev pub edits_of : List ℕ → List Edit
edits_of numbers = edits_from numbers 0 (length numbers / per_edit)

-- each edit with its bytes
abbrev pub patches_of : List Edit → List ℕ → List Patch
patches_of [] bytes = []
patches_of (edit ∷ edits) bytes =
    record { from = edit.from; to = edit.to; bytes = take edit.length bytes } ∷ patches_of edits (drop edit.length bytes)

abbrev pub lengths : List Edit → ℕ
lengths [] = 0
lengths (edit ∷ edits) = edit.length + lengths edits

-- an edit that is bad, or past a payload of n bytes
abbrev pub some_bad : ℕ → List Edit → Bool
some_bad n [] = false
some_bad n (edit ∷ edits) = (bad_edit edit || ltb n edit.to) || some_bad n edits

-- numbers that are not whole edits, an edit that is bad or past a payload of n bytes, replacement bytes that are not the sum of the
-- lengths
abbrev pub bad_list : ℕ → ℕ → List ℕ → Bool
bad_list n bytes numbers =
    not (eqb (length numbers % per_edit) 0) || (some_bad n (edits_of numbers) || not (eqb bytes (lengths (edits_of numbers))))

-- an edit that begins before the end of the one before it
abbrev pub some_overlap : ℕ → List Edit → Bool
some_overlap end [] = false
some_overlap end (edit ∷ edits) = ltb edit.from end || some_overlap edit.to edits

-- 1 to 12, Range, Overlap, Room
abbrev pub all_checks : Shape → List ℕ → ℕ → List ℕ → List ℕ → Verdict
all_checks shape words len numbers bytes =
    let old = payload_of shape words len in
    let new = replaced old (patches_of (edits_of numbers) bytes) in
    check shape words len
    ▷ guard (bad_list (length old) (length bytes) numbers) 13 0
    ▷ guard (some_overlap 0 (edits_of numbers)) 20 0
    ▷ guard (ltb (length words) (words_for shape (length new))) 14 0

unfoldable pub splice_all : Shape → List ℕ → ℕ → List ℕ → List ℕ → Answer Spliced × List ℕ
splice_all shape words len numbers bytes =
    let old = payload_of shape words len in
    let new = replaced old (patches_of (edits_of numbers) bytes) in
    writes (all_checks shape words len numbers bytes) words
    (record { length = words_for shape (length new); growth = growth_by (length new) (length old) })
    (rewritten shape words len new)

-- ---- one after the other, in any order

abbrev pub elem : ℕ → List ℕ → Bool
elem i [] = false
elem i (j ∷ js) = eqb i j || elem i js

-- each number below m at most once; m of them: each exactly once
abbrev pub Order : ℕ → List ℕ → Type 0
Order m [] = Unit {0}
Order m (i ∷ order) = (i < m) × T (not (elem i order)) × Order m order

-- f 0 + f 1 + .. + f (n - 1)
unfoldable pub total : (ℕ → ℕ) → ℕ → ℕ
total f zero = 0
total f (suc n) = total f n + f n

unfoldable pub totalℤ : (ℕ → ℤ) → ℕ → ℤ
totalℤ f zero = pos 0
totalℤ f (suc n) = totalℤ f n +ℤ f n

-- all replacement bytes
abbrev pub all_bytes : List Patch → ℕ
all_bytes patches = total (λ j. length (patch_at patches j).bytes) (length patches)

-- the growth of those of the patches 0 .. i - 1 that are done
abbrev pub grown : List Patch → List ℕ → ℕ → ℤ
grown patches done i = totalℤ (λ j. cond (elem j done) (growth (edit_at patches j)) (pos 0)) i
