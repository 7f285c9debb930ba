-- Of the words lent after a dump is restored: where each octet comes from.
-- Assumes nothing.
use Rattle.std.specs.Prelude.{Option, None, Some, ◌≡◌, List, [], ◌∷◌, ℕ, zero, suc, ◌*◌, ◌<◌, length, get_or}
use Rattle.ump.specs.Word.{octets}
use Rattle.ump.specs.Packet.{sysex8}
use Rattle.ump.specs.Packing.{words_for}
use Rattle.ump.specs.Edits.{Patch, patch_at, edits_for}
use Rattle.ump.specs.Runs.{Run, of_dump, of_edit, past, run_at}
use Rattle.ump.specs.Origin.{Origin, header_octet, carried, dump_byte, edit_byte, filler, zeroed, untouched, origin_in, header_octets}
use Rattle.store.specs.Store.{Dump, whole, delta, held}
use Rattle.chain.specs.Walk.{comes}
use Rattle.chain.specs.Restore.{Payload, unlimited, restored, payload_size}

-- ---- bytes of a payload

pub data Provenance : Type 0 where
  whole_byte : ℕ → ℕ → Provenance  -- of the whole dump of this number, this byte of its data
  delta_byte : ℕ → ℕ → ℕ → Provenance  -- of the delta of this number, of this edit, this byte of its data
  nowhere : Provenance  -- there is no such byte

-- a run of a delta with its edits done: what is the base's is looked for there
abbrev pub source_by : (ℕ → Provenance) → ℕ → Run → Provenance
source_by f number (of_dump k start end) = f start
source_by f number (of_edit k start end) = delta_byte number k start
source_by f number past = nowhere

abbrev pub source_in : (ℕ → ℕ) → (ℕ → ℕ → Provenance) → Option Dump → ℕ → Provenance
source_in size f None i = nowhere
source_in size f (Some (whole number group id bytes)) i = whole_byte number i
source_in size f (Some (delta number base patches)) i = source_by (f base) number (run_at (size base) (edits_for patches) i)

-- byte i of the dump held under n
unfoldable pub source_of : List Dump → ℕ → ℕ → ℕ → Provenance
source_of dumps zero n i = nowhere
source_of dumps (suc left) n i =
    source_in (λ base. payload_size (restored unlimited dumps left base)) (λ base j. source_of dumps left base j) (held dumps n) i

-- the byte that comes from there
abbrev pub held_byte : Option Dump → ℕ → ℕ → ℕ
held_byte None k j = 0
held_byte (Some (whole number group id bytes)) k j = get_or bytes j 0
held_byte (Some (delta number base patches)) k j = get_or (patch_at patches k).bytes j 0

abbrev pub proven_byte : List Dump → Provenance → ℕ
proven_byte dumps (whole_byte number i) = held_byte (held dumps number) 0 i
proven_byte dumps (delta_byte number k j) = held_byte (held dumps number) k j
proven_byte dumps nowhere = 0

-- the dump of a source is passed on the walk from n, and has that byte
pub record OfWhole (dumps : List Dump) (n number i : ℕ) : Type 0 where
  pub steps : ℕ
  pub group : ℕ
  pub id : ℕ
  pub bytes : List ℕ
  pub come : comes dumps steps n ≡ Some number
  pub is_held : held dumps number ≡ Some (whole number group id bytes)
  pub inside : i < length bytes

pub record OfDelta (dumps : List Dump) (n number k j : ℕ) : Type 0 where
  pub steps : ℕ
  pub base : ℕ
  pub patches : List Patch
  pub come : comes dumps steps n ≡ Some number
  pub is_held : held dumps number ≡ Some (delta number base patches)
  pub edit : k < length patches
  pub inside : j < length (patch_at patches k).bytes

abbrev pub OnWalk : List Dump → ℕ → Provenance → Type 0
OnWalk dumps n (whole_byte number i) = OfWhole dumps n number i
OnWalk dumps n (delta_byte number k j) = OfDelta dumps n number k j
OnWalk dumps n nowhere = ⊥

-- ---- octets of the words

-- the origins of octets of a restored dump: the header of a packet, a byte of the payload, filler; behind the message all is zeroed. No edit is
-- left to do, and no octet is untouched.
pub data OfDump : Origin → Type 0 where
  of_header : {p j : ℕ} → OfDump (header_octet p j)
  of_payload : {i : ℕ} → OfDump (carried (dump_byte i))
  of_filler : OfDump filler
  of_zeroed : OfDump zeroed

-- what an octet of such an origin is
abbrev pub restored_octet : List Dump → ℕ → ℕ → Payload → Origin → ℕ
restored_octet dumps left n payload (header_octet p j) =
    get_or (header_octets sysex8 payload.group (payload.id ∷ []) (length payload.bytes) p) j 0
restored_octet dumps left n payload (carried (dump_byte i)) = proven_byte dumps (source_of dumps left n i)
restored_octet dumps left n payload (carried (edit_byte k j)) = 0
restored_octet dumps left n payload filler = 0
restored_octet dumps left n payload zeroed = 0
restored_octet dumps left n payload untouched = 0

-- the origin of octet q of so many words lent, for a payload of so many bytes: every word past the message is zeroed
abbrev pub origin_at : ℕ → ℕ → ℕ → Origin
origin_at size lent q = origin_in sysex8 size [] (words_for sysex8 size) lent q

-- The dump held under n is restored to a payload, in words that are now `left`: each octet has one of the four origins, and is what that says. One
-- that carries a byte carries one of the payload; and each of these comes from a dump on the walk.
pub record TracedDump (dumps : List Dump) (count n : ℕ) (payload : Payload) (left : List ℕ) : Type 0 where
  pub kinds : (q : ℕ) → q < 4 * length left → OfDump (origin_at (length payload.bytes) (length left) q)
  pub octet : (q : ℕ) → q < 4 * length left
      → get_or (octets left) q 0 ≡ restored_octet dumps count n payload (origin_at (length payload.bytes) (length left) q)
  pub inside : (q i : ℕ) → origin_at (length payload.bytes) (length left) q ≡ carried (dump_byte i) → i < length payload.bytes
  pub within : (i : ℕ) → i < length payload.bytes → OnWalk dumps n (source_of dumps count n i)
