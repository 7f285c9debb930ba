-- Restoring a dump (02, T-02): its base first, then all its edits at once; and describing it.
-- Assumes nothing.
use Rattle.std.specs.Prelude.{Option, None, Some, Bool, false, ◌||◌, List, [], ◌∷◌, ◌++◌, ℕ, zero, suc, ◌-◌, max, ltb, length, replicate}
use Rattle.refusal.specs.Answer.{Answer, gives, refused, ◌▷◌, guard, map_answer, writes_as}
use Rattle.ump.specs.Packet.{sysex8}
use Rattle.ump.specs.Packing.{pack, words_for}
use Rattle.ump.specs.Limits.{most_words}
use Rattle.ump.specs.Edits.{Patch, replaced}
use Rattle.store.specs.Store.{Dump, whole, delta, dumps_of, sound, held}
use Rattle.chain.specs.Walk.{base_of, from_base}

-- a restored dump
pub record Payload : Type 0 where
  pub group : ℕ
  pub id : ℕ
  pub bytes : List ℕ

-- whether a payload of so many bytes needs more words than lent
abbrev pub exceeds : ℕ → ℕ → Bool
exceeds lent size = ltb lent (words_for sysex8 size)

-- Room: the dump itself needs more words than lent
unfoldable pub roomed : (ℕ → Bool) → Payload → Answer Payload
roomed too_long payload = guard (too_long (length payload.bytes)) 14 0 ▷ gives payload

-- an edit that is reversed or past a payload of n bytes
unfoldable pub outside : ℕ → List Patch → Bool
outside n [] = false
outside n (patch ∷ patches) = (ltb patch.to patch.from || ltb n patch.to) || outside n patches

-- a delta from its restored base: the base's refusal; Range over all its edits; all ranges replaced at once; its Room
unfoldable pub rebuilt : (ℕ → Bool) → List Patch → Answer Payload → Answer Payload
rebuilt too_long patches (refused number place) = refused number place
rebuilt too_long patches (gives base) =
    guard (outside (length base.bytes) patches) 13 0
    ▷ roomed too_long (record { group = base.group; id = base.id; bytes = replaced base.bytes patches })

-- a dump, where its base is restored by f: Missing; a whole dump's Room; a delta from its base
abbrev pub restored_by : (ℕ → Bool) → (ℕ → Answer Payload) → Option Dump → Answer Payload
restored_by too_long f None = refused 24 0
restored_by too_long f (Some (whole number group id bytes)) = roomed too_long (record { group = group; id = id; bytes = bytes })
restored_by too_long f (Some (delta number base patches)) = rebuilt too_long patches (f base)

-- the dump held under a number, its base first; Ring where more dumps are passed than there are
unfoldable pub restored : (ℕ → Bool) → List Dump → ℕ → ℕ → Answer Payload
restored too_long dumps zero n = refused 25 0
restored too_long dumps (suc left) n = restored_by too_long (λ base. restored too_long dumps left base) (held dumps n)

-- ---- restore

-- the fewest-packet form, all lent words past it zero
unfoldable pub laid_out : ℕ → Payload → List ℕ
laid_out lent payload =
    let message = pack sysex8 payload.group (payload.id ∷ []) payload.bytes in
    message ++ replicate (lent - length message) 0

-- the answer, and the words lent as they are after the call
abbrev pub answered : List ℕ → Answer Payload → Answer ℕ × List ℕ
answered words answer = writes_as answer words (λ payload. words_for sysex8 (length payload.bytes)) (λ payload. laid_out (length words) payload)

-- Long, Format, Twice, Full, Missing, Ring, Range, Room
unfoldable pub restore : List ℕ → ℕ → List ℕ → Answer ℕ × List ℕ
restore store number words =
    answered words
    (guard (ltb most_words (length words)) 1 0
    ▷ sound store
    ▷ restored (exceeds (length words)) (dumps_of store) (suc (length (dumps_of store))) number)

-- ---- describe

-- its base, where it is a delta; the group and stream id of its whole dump; its payload size; the words that restoring it needs; how many
-- bases are followed to its whole dump
pub record Description : Type 0 where
  pub base : Option ℕ
  pub group : ℕ
  pub id : ℕ
  pub size : ℕ
  pub words : ℕ
  pub steps : ℕ

-- with no limit on the words
abbrev pub unlimited : ℕ → Bool
unlimited size = false

abbrev pub payload_size : Answer Payload → ℕ
payload_size (gives payload) = length payload.bytes
payload_size (refused number place) = 0

-- the payload sizes of a dump and of those that it rests on, in turn
unfoldable pub sizes : List Dump → ℕ → ℕ → List ℕ
sizes dumps zero n = []
sizes dumps (suc left) n =
    payload_size (restored unlimited dumps (suc left) n) ∷ from_base [] (λ base. sizes dumps left base) (base_of (held dumps n))

abbrev pub largest : List ℕ → ℕ
largest [] = 0
largest (n ∷ ns) = max n (largest ns)

unfoldable pub described : List Dump → ℕ → ℕ → Answer Description
described dumps left n =
    map_answer
    (λ payload. record {
      base = base_of (held dumps n);
      group = payload.group;
      id = payload.id;
      size = length payload.bytes;
      words = words_for sysex8 (largest (sizes dumps left n));
      steps = length (sizes dumps left n) - 1;
    })
    (restored unlimited dumps left n)

-- Format, Twice, Full, Missing, Ring, Range
unfoldable pub describe : List ℕ → ℕ → Answer Description
describe store number = sound store ▷ described (dumps_of store) (suc (length (dumps_of store))) number
