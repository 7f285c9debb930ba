-- What the parts of receiving a packet promise one another. No public promise cites this.
-- Assumes nothing.
use Rattle.refusal.specs.declared.Fault.{Fault}
use Rattle.refusal.specs.declared.Refusal.{Refusal}
use Rattle.std.specs.Prelude.{Option, None, Some, Result, Ok, Err, ◌≡◌, Bool, cond, List, ℕ, ltb, leb}
use Rattle.refusal.specs.Answer.{Answer, gives, refused, ◌▷◌, guard}
use Rattle.refusal.specs.Number.{number_of}
use Rattle.ump.specs.Check.{first_where}
use Rattle.ump.specs.Single.{Kind}
use Rattle.ports.specs.Table.{has_key, slot_of, held_by, accept}
use Rattle.ports.specs.Meaning.{received_meaning}
use Rattle.ports.specs.declared.Received.{Received}
use Rattle.ports.specs.declared.Arrival.{Arrival}
use Rattle.ports.specs.declared.OpenStreams.{OpenStreams}

-- the first index below n at which a test holds, if there is one
abbrev pub found_below : (ℕ → Bool) → ℕ → Option ℕ
found_below test n = cond (ltb (first_where test n) n) (Some (first_where test n)) None

-- the first slot with a key, if one has it
abbrev pub found_slot : List ℕ → ℕ → Option ℕ
found_slot table key = found_below (has_key table key) 16

-- a slot, or why there is none
abbrev pub slot_meaning : Result ℕ Refusal → Answer ℕ
slot_meaning (Ok k) = gives k
slot_meaning (Err refusal) = refused (number_of refusal) 0

-- the slot that a start takes: its stream's, or the first free one; Share, Full
unfoldable pub slot_for : List ℕ → ℕ → ℕ → Answer ℕ
slot_for table port key =
    cond (ltb (slot_of table key) 16) (gives (slot_of table key))
    (guard (leb 12 (held_by table port)) 31 0 ▷ guard (leb 16 (slot_of table 0)) 23 0 ▷ gives (slot_of table 0))

-- a packet of a kind: the answer, and the streams and the output after it; the same table and words are lent
abbrev pub Accepts : Kind → Arrival → OpenStreams → List ℕ → Result Received Fault → OpenStreams → List ℕ → Type 0
Accepts kind arrival streams output r streams' output' =
    ((received_meaning r, (streams'.table.now, streams'.words.now, output')) ≡ accept kind arrival.port arrival.key streams.table.now streams.words.now arrival.words.now output)
    × (streams'.table.ghost_name ≡ streams.table.ghost_name)
    × (streams'.words.ghost_name ≡ streams.words.ghost_name)

-- a packet of a kind that does not touch the output, on any output
abbrev pub AcceptedAs : Kind → Arrival → OpenStreams → Result Received Fault → OpenStreams → Type 0
AcceptedAs kind arrival streams r streams' = (output : List ℕ) → Accepts kind arrival streams output r streams' output
