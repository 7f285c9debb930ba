-- All edits of a list that are due, in one forward pass over a payload. Assumes nothing.
use Rattle.std.specs.Prelude.{◌≡◌, Bool, true, false, cond, not, List, [], ◌∷◌, ◌++◌, ℕ, ◌+◌, ◌-◌, ◌*◌, ◌/◌, ◌%◌, ◌≤◌, ◌<◌, ltb, length, take, drop, get_or}
use Rattle.ump.specs.Word.{Below}
use Rattle.ump.specs.Limits.{most_words, most_bytes}
use Rattle.ump.specs.Packet.{sysex8}
use Rattle.ump.specs.Packing.{packets_for, words_for}
use Rattle.ump.specs.Edits.{Edit, edits_of}
use Rattle.flow.specs.Digits.{val}
use Rattle.flow.specs.Flowing.{Poured}
use Rattle.merge.specs.Thirteens.{body}
use Rattle.merge.specs.Pieces.{Stands}
use Rattle.merge.specs.declared.merging.Step as code
use Rattle.merge.specs.declared.merging.Shrinking.{Shrinking}
use Rattle.merge.specs.declared.merging.Shrinking.TheVariants as shrinking
use Rattle.merge.specs.declared.merging.Growing.{Growing}
use Rattle.merge.specs.declared.merging.Growing.TheVariants as growing

-- ---- one edit

-- the edits that do not grow the payload are done before a pass
abbrev pub is_before : Shrinking → Bool
is_before shrinking.Now = false
is_before shrinking.Before = true

-- those that grow it are done in it
abbrev pub is_now : Growing → Bool
is_now growing.Now = true
is_now growing.After = false

-- those that grow the payload are done in a pass that has them grow, the others in one where they are not done already
abbrev pub is_due : Bool → Bool → Bool → Bool
is_due grows shrunk grow = cond grows grow (not shrunk)

-- bytes that are kept, bytes that are passed over, replacement bytes that are given
pub record Step : Type 0 where
  pub kept : ℕ
  pub out : ℕ
  pub put : ℕ

abbrev pub step_meaning : code.Step → Step
step_meaning step = record { kept = step.kept; out = step.out; put = step.put }

abbrev pub width : Edit → ℕ
width edit = edit.to - edit.from

-- what a pass does for an edit, where the one before it ends at `end`: an edit that is not due is kept, as it was or as it is done already
unfoldable pub step_of : Bool → Bool → ℕ → Edit → Step
step_of shrunk grow end edit =
    cond (is_due (ltb (width edit) edit.length) shrunk grow)
    (record { kept = edit.from - end; out = width edit; put = edit.length })
    (record { kept = edit.from - end + cond shrunk edit.length (width edit); out = 0; put = 0 })

-- ---- the payload

-- a payload after a pass
unfoldable pub merged : Bool → Bool → ℕ → List Edit → List ℕ → List ℕ → List ℕ
merged shrunk grow end [] source bytes = source
merged shrunk grow end (edit ∷ edits) source bytes =
    let step = step_of shrunk grow end edit in
    take step.kept source
    ++ (take step.put bytes ++ merged shrunk grow edit.to edits (drop (step.kept + step.out) source) (drop edit.length bytes))

-- where the first edit begins; the size of the payload if there is none
unfoldable pub begin_of : List ℕ → ℕ → ℕ
begin_of numbers size = cond (ltb (length numbers) 3) size (get_or numbers 0 0)

-- what is written is never ahead of what is yet to be read, which stands so many packets on
abbrev pub Ahead : ℕ → ℕ → ℕ → ℕ → Type 0
Ahead size lag at m = at < size → m ≤ at + 13 * lag + 12

-- a pass over edits goes on from byte `at` of the payload, byte m of the new one and byte `start` of the replacements
unfoldable pub Turns : Bool → Bool → ℕ → ℕ → ℕ → ℕ → ℕ → ℕ → ℕ → ℕ → List Edit → Type 0
Turns shrunk grow size lag total given end at m start [] = (at ≤ size) × ((m + (size - at) ≡ total) × Ahead size lag at m)
Turns shrunk grow size lag total given end at m start (edit ∷ edits) =
    let step = step_of shrunk grow end edit in
    ((end ≤ edit.from) × ((edit.from ≤ edit.to) × ((edit.length ≤ most_bytes) × ((at + step.kept + step.out ≤ size)
    × ((start + edit.length ≤ given) × Ahead size lag at m)))))
    × Turns shrunk grow size lag total given edit.to (at + step.kept + step.out) (m + step.kept + step.put) (start + edit.length) edits

-- ---- the words

-- a pass over the words can begin: a payload stands in them whose packets have one head, and there is room
pub record Merges (words : List ℕ) (head size total : ℕ) (numbers bytes : List ℕ) (shrunk grow : Bool) (source : List ℕ) : Type 0 where
  pub sized : size ≡ length source
  pub stands : Stands words source head 0 0
  pub below : Below 256 source
  pub turns : Turns shrunk grow size (packets_for sysex8 total - packets_for sysex8 size) total (length bytes)
      (begin_of numbers size) (begin_of numbers size) (begin_of numbers size) 0 (edits_of numbers)
  pub held : words_for sysex8 size ≤ length words
  pub needed : words_for sysex8 total ≤ length words
  pub small : length words ≤ most_words
  pub free : head ≤ 4294967040
  pub plain : head % 256 ≡ 0

pub record Begins (words : List ℕ) (head size total : ℕ) (numbers bytes : List ℕ) (shrunk grow : Bool) : Type 0 where
  pub source : List ℕ
  pub merges : Merges words head size total numbers bytes shrunk grow source

-- and when it ends, the new payload stands in them
abbrev pub Ends : List ℕ → ℕ → ℕ → ℕ → List ℕ → List ℕ → Bool → Bool → List ℕ → Type 0
Ends words head size total numbers bytes shrunk grow words' =
    (source : List ℕ) → Merges words head size total numbers bytes shrunk grow source
    → Poured sysex8 words (merged shrunk grow 0 (edits_of numbers) source bytes) head (packets_for sysex8 total) words'

-- the packet of byte `next` is in hand, if that of `at` was
pub record Steady (words : List ℕ) (hand at next lag : ℕ) (coming : ℕ) : Type 0 where
  pub same : 0 < at % 13 → next / 13 ≡ at / 13 → coming ≡ hand
  pub other : 0 < next % 13 → (0 < at % 13 → next / 13 ≡ at / 13 → ⊥) → coming ≡ val 13 (body words (next / 13 + lag))
