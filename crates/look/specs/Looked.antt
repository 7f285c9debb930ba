-- What is said of looking at an edited dump (02, T-08), of any calls: it is what a full splice would read.
-- Assumes nothing.
use Rattle.std.specs.Prelude.{◌≡◌, List, [], ◌∷◌, ◌++◌, ℕ, ◌+◌, ◌-◌, ◌≤◌, ◌<◌, length, get_or, take, drop}
use Rattle.refusal.specs.Answer.{Answer, gives, refused, map_answer}
use Rattle.refusal.specs.Tight.{HasAnswer}
use Rattle.ump.specs.Word.{Below}
use Rattle.ump.specs.Packet.{Shape}
use Rattle.ump.specs.Check.{payload_of}
use Rattle.ump.specs.Setters.{get_byte}
use Rattle.ump.specs.Splice.{spliced, Spliced}
use Rattle.ump.specs.Edits.{Edit, replaced, edits_of, patches_of}
use Rattle.ump.specs.Runs.{Run, of_dump, of_edit, run_at}
use Rattle.ump.specs.Demand.{Family}
use Rattle.edit.specs.Growth.{Sound}
use Rattle.look.specs.Pieces.{run_length, run_bytes, Longest}
use Rattle.look.specs.Look.{find, edit_by, patch_by, shown, stands_at, part_lent, byte_of, byte_of_message}

-- ---- the calls, by the outcomes that they allow

-- finding a run: the payload's size, the edit, the position
abbrev pub Finder : Type 1
Finder = ℕ → Edit → ℕ → Answer Run → Type 0

-- lending it: where payload and replacement stand, the payload, the range, the replacement, the position; where the part stands, its bytes
abbrev pub Lender : Type 1
Lender = ℕ × ℕ → ℕ × ℕ → List ℕ → ℕ → ℕ → List ℕ → ℕ → ℕ × ℕ → List ℕ → Type 0

-- a byte of a list: the payload, the numbers, the bytes, the position
abbrev pub Looker : Type 1
Looker = List ℕ → List ℕ → List ℕ → ℕ → Answer ℕ → Type 0

-- a byte of a list on a message: the words, the length, the numbers, the bytes, the position
abbrev pub MessageLooker : Type 1
MessageLooker = List ℕ → ℕ → List ℕ → List ℕ → ℕ → Answer ℕ → Type 0

-- a byte of a message: the words, the length, the index
abbrev pub Reader : Type 1
Reader = List ℕ → ℕ → ℕ → Answer ℕ → Type 0

-- ---- one edit

-- what a run is that is answered for byte i of a dump with one edit
pub record RunOf (dump : List ℕ) (from to : ℕ) (replacement : List ℕ) (i : ℕ) (run : Run) : Type 0 where
  -- its bytes are what a splice would read there, and there are some
  pub reads : run_bytes dump (patch_by from to replacement ∷ []) run ≡ take (run_length run) (drop i (spliced dump from to replacement))
  pub some : 0 < run_length run
  pub fits : i + run_length run ≤ length (spliced dump from to replacement)
  -- before the edit up to its start, in it the rest of the replacement, after it the rest of the dump
  pub before : i < from → run ≡ of_dump 0 i from
  pub within : from ≤ i → i < from + length replacement → run ≡ of_edit 0 (i - from) (length replacement)
  pub behind : from + length replacement ≤ i → run ≡ of_dump 1 (to + (i - (from + length replacement))) (length dump)
  -- and no longer one starts there
  pub is_run : run_at (length dump) (edit_by from to replacement ∷ []) i ≡ run
  pub longest : Longest 1 (run_at (length dump) (edit_by from to replacement ∷ [])) i

-- parts lent one after the other from byte i on, until none is
pub data InTurn (Part : ℕ → List ℕ → Type 0) : ℕ → List ℕ → Type 0 where
  over : {i : ℕ} → Part i [] → InTurn Part i []
  more : {i : ℕ} {part rest : List ℕ} → Part i part → 0 < length part → InTurn Part (i + length part) rest → InTurn Part i (part ++ rest)

-- this part is lent, somewhere
pub record LentPart (Lends : Lender) (dump : List ℕ) (from to : ℕ) (replacement : List ℕ) (i : ℕ) (part : List ℕ) : Type 0 where
  pub dump-at : ℕ × ℕ
  pub replacement_at : ℕ × ℕ
  pub at : ℕ × ℕ
  pub call : Lends dump-at replacement_at dump from to replacement i at part

pub record FoundRuns (shape : Shape) (family : Family) (Finds : Finder) (Reads : Reader) : Type 0 where
  -- Each call has an outcome, so that nothing here is said of none.
  pub answers : (n : ℕ) (edit : Edit) (i : ℕ) → HasAnswer (Finds n edit i)
  -- The run answered is the longest piece of the spliced payload that starts there and lies in one source.
  pub run : (dump : List ℕ) (from to : ℕ) (replacement : List ℕ) (i : ℕ) {run : Run} → Finds (length dump) (edit_by from to replacement) i (gives run)
      → RunOf dump from to replacement i run
  -- One is answered for each position of the result of an edit in range;
  pub answered : (dump : List ℕ) (from to : ℕ) (replacement : List ℕ) (i : ℕ) {answer : Answer Run} → Finds (length dump) (edit_by from to replacement) i answer
      → Sound (edit_by from to replacement) → to ≤ length dump → i < length (spliced dump from to replacement)
      → answer ≡ gives (run_at (length dump) (edit_by from to replacement ∷ []) i)
  -- and for no other edit or position: that is Range.
  pub in_range : (dump : List ℕ) (from to : ℕ) (replacement : List ℕ) (i : ℕ) {run : Run} → Finds (length dump) (edit_by from to replacement) i (gives run)
      → Sound (edit_by from to replacement) × (to ≤ length dump) × (i < length (spliced dump from to replacement))
  pub range : {n : ℕ} {edit : Edit} {i number place : ℕ} → Finds n edit i (refused number place) → (number ≡ 13) × (place ≡ 0)
  -- Of a message's payload: each byte of the run is what reading the message gives once the edit is spliced.
  pub as_spliced : {words left : List ℕ} {len : ℕ} {edit : Edit} {bytes : List ℕ} {change : Spliced}
      → family.calls.Splices words len edit bytes (gives change) left → Below shape.limit bytes
      → {i : ℕ} {run : Run} → Finds (length (payload_of shape words len)) (edit_by edit.from edit.to bytes) i (gives run)
      → (j : ℕ) → j < run_length run → {answer : Answer ℕ} → Reads left change.length (i + j) answer
      → answer ≡ gives (get_or (run_bytes (payload_of shape words len) (patch_by edit.from edit.to bytes ∷ []) run) j 0)

pub record LentRuns (Finds : Finder) (Lends : Lender) : Type 0 where
  -- Each call lends a part, it may be an empty one.
  pub lends : (dump : List ℕ) (from to : ℕ) (replacement : List ℕ) (i : ℕ)
      → LentPart Lends dump from to replacement i (shown dump (patch_by from to replacement ∷ []) (find (length dump) (edit_by from to replacement) i))
  -- The part lent is the run that is found: its bytes, where they stand in the payload or the replacement that was lent, and no copy;
  pub lent_there : {dump-at replacement_at : ℕ × ℕ} {dump replacement : List ℕ} {from to i : ℕ} {at : ℕ × ℕ} {part : List ℕ}
      → Lends dump-at replacement_at dump from to replacement i at part
      → {run : Run} → Finds (length dump) (edit_by from to replacement) i (gives run)
      → (at ≡ stands_at dump-at replacement_at (gives run)) × (part ≡ take (run_length run) (drop i (spliced dump from to replacement)))
  -- it is never empty where a run is found, and empty where none is.
  pub some : {dump-at replacement_at : ℕ × ℕ} {dump replacement : List ℕ} {from to i : ℕ} {at : ℕ × ℕ} {part : List ℕ}
      → Lends dump-at replacement_at dump from to replacement i at part
      → {run : Run} → Finds (length dump) (edit_by from to replacement) i (gives run) → 0 < length part
  pub none : {dump-at replacement_at : ℕ × ℕ} {dump replacement : List ℕ} {from to i : ℕ} {at : ℕ × ℕ} {part : List ℕ}
      → Lends dump-at replacement_at dump from to replacement i at part
      → {number place : ℕ} → Finds (length dump) (edit_by from to replacement) i (refused number place) → part ≡ []
  -- Parts can be lent one after the other from 0, until none is; and whichever are, they are the whole of what a splice makes.
  pub goes : (dump : List ℕ) (from to : ℕ) (replacement : List ℕ) → Sound (edit_by from to replacement) → to ≤ length dump
      → InTurn (LentPart Lends dump from to replacement) 0 (spliced dump from to replacement)
  pub whole : {dump replacement : List ℕ} {from to : ℕ} {all : List ℕ} → Sound (edit_by from to replacement) → to ≤ length dump
      → InTurn (LentPart Lends dump from to replacement) 0 all → all ≡ spliced dump from to replacement

-- ---- a list of edits

pub record LookedAt (shape : Shape) (family : Family) (Finds : Finder) (Looks : Looker) (LooksIn : MessageLooker) (Reads : Reader) : Type 0 where
  -- Each call has an outcome.
  pub answers : (dump numbers bytes : List ℕ) (i : ℕ) → HasAnswer (Looks dump numbers bytes i)
  pub answers_in : (words : List ℕ) (len : ℕ) (numbers bytes : List ℕ) (i : ℕ) → HasAnswer (LooksIn words len numbers bytes i)
  pub answers_read : (words : List ℕ) (len i : ℕ) → HasAnswer (Reads words len i)
  -- The byte answered is the byte of the payload with all ranges replaced at once.
  pub byte : {dump numbers bytes : List ℕ} {i b : ℕ} → Looks dump numbers bytes i (gives b)
      → (i < length (replaced dump (patches_of (edits_of numbers) bytes))) × (b ≡ get_or (replaced dump (patches_of (edits_of numbers) bytes)) i 0)
  -- Once all edits are done at once on a message, reading it answers as looking at its old payload did, for each position;
  pub as_spliced : {words left : List ℕ} {len : ℕ} {numbers bytes : List ℕ} {change : Spliced}
      → family.SplicesAll words len numbers bytes (gives change) left → Below shape.limit bytes
      → {i : ℕ} {answer then : Answer ℕ} → Looks (payload_of shape words len) numbers bytes i answer → Reads left change.length i then
      → answer ≡ then
  -- and as looking at the message did.
  pub in_message : {words left : List ℕ} {len : ℕ} {numbers bytes : List ℕ} {change : Spliced}
      → family.SplicesAll words len numbers bytes (gives change) left → Below shape.limit bytes
      → {i : ℕ} {answer then : Answer ℕ} → LooksIn words len numbers bytes i answer → Reads left change.length i then → answer ≡ then
  -- Looking is refused as they are, but for Room, as nothing is written.
  pub refused_alike : {words left : List ℕ} {len : ℕ} {numbers bytes : List ℕ} {number place : ℕ}
      → family.SplicesAll words len numbers bytes (refused number place) left → Below shape.limit bytes → (number ≡ 14 → ⊥)
      → {i : ℕ} {answer : Answer ℕ} → LooksIn words len numbers bytes i answer → answer ≡ refused number place
  -- Of one edit, the byte is the first of its run, and refused as that is.
  pub one-edit : (dump : List ℕ) (from to : ℕ) (replacement : List ℕ) (i : ℕ) {answer : Answer Run} {byte : Answer ℕ}
      → Finds (length dump) (edit_by from to replacement) i answer → Looks dump (from ∷ to ∷ length replacement ∷ []) replacement i byte
      → byte ≡ map_answer (λ run. get_or (run_bytes dump (patch_by from to replacement ∷ []) run) 0 0) answer

-- ---- each outcome of such calls is the definition's, and the definition's is one

pub record PromisedLooks (shape : Shape) (Finds : Finder) (Looks : Looker) (LooksIn : MessageLooker) (Reads : Reader) : Type 0 where
  pub finds : {n : ℕ} {edit : Edit} {i : ℕ} {answer : Answer Run} → Finds n edit i answer → answer ≡ find n edit i
  pub looks : {dump numbers bytes : List ℕ} {i : ℕ} {answer : Answer ℕ} → Looks dump numbers bytes i answer → answer ≡ byte_of dump numbers bytes i
  pub looks_in : {words : List ℕ} {len : ℕ} {numbers bytes : List ℕ} {i : ℕ} {answer : Answer ℕ} → LooksIn words len numbers bytes i answer
      → answer ≡ byte_of_message shape words len numbers bytes i
  pub reads : {words : List ℕ} {len i : ℕ} {answer : Answer ℕ} → Reads words len i answer → answer ≡ get_byte shape words len i
  pub can_find : (n : ℕ) (edit : Edit) (i : ℕ) → Finds n edit i (find n edit i)
  pub can_look : (dump numbers bytes : List ℕ) (i : ℕ) → Looks dump numbers bytes i (byte_of dump numbers bytes i)
  pub can_look_in : (words : List ℕ) (len : ℕ) (numbers bytes : List ℕ) (i : ℕ) → LooksIn words len numbers bytes i (byte_of_message shape words len numbers bytes i)
  pub can_read : (words : List ℕ) (len i : ℕ) → Reads words len i (get_byte shape words len i)

pub record PromisedLender (Lends : Lender) : Type 0 where
  pub lends : {dump-at replacement_at : ℕ × ℕ} {dump replacement : List ℕ} {from to i : ℕ} {at : ℕ × ℕ} {part : List ℕ}
      → Lends dump-at replacement_at dump from to replacement i at part
      → ◌≡◌ {A = (ℕ × ℕ) × List ℕ} (at, part) (part_lent dump-at replacement_at dump from to replacement i)
  pub can_lend : (dump : List ℕ) (from to : ℕ) (replacement : List ℕ) (i : ℕ)
      → LentPart Lends dump from to replacement i (shown dump (patch_by from to replacement ∷ []) (find (length dump) (edit_by from to replacement) i))
