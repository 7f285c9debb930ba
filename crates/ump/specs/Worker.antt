-- A worker that does the edits of a list one after the other by two calls, with any outcome that the calls allow. It is over the
-- calls, what they are lent and the edits that they take, so that it serves more than one pair of them.
-- Assumes nothing.
use Rattle.std.specs.Prelude.{◌≡◌, Bool, true, List, [], ◌∷◌, ℕ, ◌+◌, ◌≤◌, ◌<◌, max, ltb, pos, ◌+ℤ◌, length}
use Rattle.refusal.specs.Answer.{Answer, gives, refused, pass}
use Rattle.ump.specs.Word.{Below}
use Rattle.ump.specs.Packet.{Shape}
use Rattle.ump.specs.Packing.{words_for}
use Rattle.ump.specs.Check.{check, payload_of}
use Rattle.ump.specs.Splice.{Spliced}
use Rattle.ump.specs.Edits.{Edit, Range, Patch, patch_at, edit_at, Apart, all_bytes, elem, grown, Order}

-- ---- two calls, by the outcomes that they allow

-- `Lent` is what is lent: the words, perhaps with more beside them. `Record` is an edit as a worker keeps it.
-- A splice: what is lent, the length of the message in it, an edit and its bytes; the answer, and what is lent after the call.
-- A move: a done edit, a pending one, and whether the done one is first; the answer, the pending one as it is then.
pub record Calls (Lent Record : Type 0) : Type 1 where
  pub Splices : Lent → ℕ → Record → List ℕ → Answer Spliced → Lent → Type 0
  pub Moves : Record → Record → Bool → Answer Record → Type 0

-- ---- the worker

-- what a worker holds: what is lent, the length of the message in it, and each edit that is left, as it is now
pub record Held (Lent Record : Type 0) : Type 0 where
  pub lent : Lent
  pub length : ℕ
  pub edit : ℕ → Record

-- where a worker ends: with this and a message of this length, or at a refusal, by its number and place
pub data End (Lent : Type 0) : Type 0 where
  finished : Lent → ℕ → End Lent
  stopped : ℕ → ℕ → End Lent

-- A worker does the edits of an order, edit i with the bytes i: it splices the first, and then moves each edit that is left past it.
-- It goes on only where the splice was done and each move gave an edit; at a refusal of either it stops.
pub data Works {Lent Record : Type 0} (calls : Calls Lent Record) (bytes : ℕ → List ℕ) : Held Lent Record → List ℕ → End Lent → Type 0 where
  rests : {held : Held Lent Record} → Works calls bytes held [] (finished held.lent held.length)
  goes_on : {held : Held Lent Record} {i : ℕ} {order : List ℕ} {change : Spliced} {left : Lent} {edit : ℕ → Record} {end : End Lent}
      → calls.Splices held.lent held.length (held.edit i) (bytes i) (gives change) left
      → ((k : ℕ) → elem k order ≡ true → calls.Moves (held.edit i) (held.edit k) (ltb i k) (gives (edit k)))
      → Works calls bytes (record { lent = left; length = change.length; edit = edit }) order end
      → Works calls bytes held (i ∷ order) end
  splice_refused : {held : Held Lent Record} {i : ℕ} {order : List ℕ} {number place : ℕ} {left : Lent}
      → calls.Splices held.lent held.length (held.edit i) (bytes i) (refused number place) left
      → Works calls bytes held (i ∷ order) (stopped number place)
  move_refused : {held : Held Lent Record} {i : ℕ} {order : List ℕ} {change : Spliced} {left : Lent} {number place : ℕ}
      → calls.Splices held.lent held.length (held.edit i) (bytes i) (gives change) left
      → (k : ℕ) → elem k order ≡ true → calls.Moves (held.edit i) (held.edit k) (ltb i k) (refused number place)
      → Works calls bytes held (i ∷ order) (stopped number place)

-- a worker that finishes
pub record Finishes {Lent Record : Type 0} (calls : Calls Lent Record) (bytes : ℕ → List ℕ) (held : Held Lent Record) (order : List ℕ) : Type 0 where
  pub left : Lent
  pub length : ℕ
  pub works : Works calls bytes held order (finished left length)

-- an edit at another range
abbrev pub with_range : Edit → Range → Edit
with_range edit range = record { from = range.from; to = range.to; length = edit.length }

-- ---- what is asked of a message and of edits of it

-- a valid message, in words that may be lent as its check says; at least one edit, the ranges inside its payload and apart; bytes;
-- room for the payload beside all replacement bytes
pub record Fits (shape : Shape) (words : List ℕ) (len : ℕ) (patches : List Patch) : Type 0 where
  pub passes : check shape words len ≡ pass
  pub apart : Apart patches (length (payload_of shape words len))
  pub bytes : (i : ℕ) → i < length patches → Below shape.limit (patch_at patches i).bytes
  pub room : words_for shape (length (payload_of shape words len) + all_bytes patches) ≤ length words
  pub some : 0 < length patches

-- the bytes of each patch
abbrev pub bytes_of : List Patch → ℕ → List ℕ
bytes_of patches i = (patch_at patches i).bytes

-- how a worker begins with words alone: each edit as the list has it
abbrev pub start : List ℕ → ℕ → List Patch → Held (List ℕ) Edit
start words len patches = record { lent = words; length = len; edit = edit_at patches }

-- an order that has each edit exactly once
abbrev pub Each : List Patch → List ℕ → Type 0
Each patches order = Order (length patches) order × (length order ≡ length patches)

-- ---- where each edit stands at each step

-- edit i, with these done: the old range, plus the signed growth of the lower-numbered ones among them. So the range is as wide as it was;
-- and the edit has as many bytes as it had.
pub record InPlace (patches : List Patch) (done : List ℕ) (i : ℕ) (edit : Edit) : Type 0 where
  pub from : pos edit.from ≡ pos (patch_at patches i).from +ℤ grown patches done i
  pub to : pos edit.to ≡ pos (patch_at patches i).to +ℤ grown patches done i
  pub wide : edit.to + (patch_at patches i).from ≡ (patch_at patches i).to + edit.from
  pub length : edit.length ≡ length (patch_at patches i).bytes

-- each edit that is left stands so
abbrev pub AllInPlace : {Record : Type 0} → (Record → Edit) → List Patch → List ℕ → List ℕ → (ℕ → Record) → Type 0
AllInPlace edit_of patches done order edit = (k : ℕ) → elem k order ≡ true → InPlace patches done k (edit_of (edit k))

-- and that before each splice, the one to be spliced among them
abbrev pub Placed : {Lent Record : Type 0} {calls : Calls Lent Record} {bytes : ℕ → List ℕ} {held : Held Lent Record} {order : List ℕ} {end : End Lent}
    → (Record → Edit) → List Patch → List ℕ → Works calls bytes held order end → Type 0
Placed edit_of patches done rests = Unit {0}
Placed edit_of patches done (goes_on {held = held} {i = i} {order = order} s m w) =
    AllInPlace edit_of patches done (i ∷ order) held.edit × Placed edit_of patches (i ∷ done) w
Placed edit_of patches done (splice_refused {held = held} {i = i} {order = order} s) = AllInPlace edit_of patches done (i ∷ order) held.edit
Placed edit_of patches done (move_refused {held = held} {i = i} {order = order} s k e m) = AllInPlace edit_of patches done (i ∷ order) held.edit

-- ---- the longest message on the way, in words

abbrev pub reached : {Lent Record : Type 0} {calls : Calls Lent Record} {bytes : ℕ → List ℕ} {held : Held Lent Record} {order : List ℕ} {end : End Lent}
    → Works calls bytes held order end → ℕ
reached (rests {held = held}) = held.length
reached (goes_on {held = held} s m w) = max held.length (reached w)
reached (splice_refused {held = held} s) = held.length
reached (move_refused {held = held} {change = change} s k e m) = max held.length change.length
