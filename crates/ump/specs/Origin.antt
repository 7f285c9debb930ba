-- Of the words lent after the edits of a list: where each octet comes from. In the message it is written by the library as a header or
-- as filler, or it is a byte of the dump or of an edit; behind the message it is zeroed or as it was.
-- Assumes nothing.
use Rattle.std.specs.Prelude.{◌≡◌, Bool, true, false, cond, not, ◌&&◌, List, ◌∷◌, ℕ, ◌+◌, ◌-◌, ◌*◌, ◌/◌, ◌%◌, ◌<◌, min, ltb, eqb, length, get_or}
use Rattle.refusal.specs.Answer.{Answer, gives, ◌▷◌, guard}
use Rattle.ump.specs.Word.{octets}
use Rattle.ump.specs.Packet.{Shape, header, group_at, id_at}
use Rattle.ump.specs.Packing.{status_for, packets_for, words_for}
use Rattle.ump.specs.Check.{payload_of}
use Rattle.ump.specs.Edits.{Edit, Patch, patch_at, edits_for, replaced, edits_of, patches_of, all_checks, total}
use Rattle.ump.specs.Runs.{Run, of_dump, of_edit, past, run_at}

pub data Source : Type 0 where
  dump_byte : ℕ → Source  -- this byte of the dump
  edit_byte : ℕ → ℕ → Source  -- of this edit, this byte of its replacement

pub data Origin : Type 0 where
  header_octet : ℕ → ℕ → Origin  -- of this packet, this octet of its header
  carried : Source → Origin
  filler : Origin  -- unused, in the last packet
  zeroed : Origin  -- behind the message, where a longer one stood before
  untouched : Origin  -- behind every message that stood there

-- where a run begins; past the result stands filler
abbrev pub beginning : Run → Origin
beginning (of_dump k start end) = carried (dump_byte start)
beginning (of_edit k start end) = carried (edit_byte k start)
beginning past = filler

-- octet q of the message, of a dump of n bytes with all edits done: a packet has 4 octets a word, first its header and then its room of
-- payload bytes
unfoldable pub origin_of : Shape → ℕ → List Edit → ℕ → Origin
origin_of shape n edits q =
    let p = q / (4 * shape.words) in
    let j = q % (4 * shape.words) in
    cond (ltb j (header shape)) (header_octet p j) (beginning (run_at n edits (shape.room * p + (j - header shape))))

-- octet q of the words lent, where the message has len words at the end, and the longest that stood there before had `most`
unfoldable pub origin_in : Shape → ℕ → List Edit → ℕ → ℕ → ℕ → Origin
origin_in shape n edits len most q =
    cond (ltb q (4 * len)) (origin_of shape n edits q) (cond (ltb q (4 * most)) zeroed untouched)

-- ---- the question as a call: message, edits and bytes as for all edits at once, and an octet's index; refused as they are, then Range for
-- an octet that is not lent

unfoldable pub origin : Shape → List ℕ → ℕ → List ℕ → List ℕ → ℕ → Answer Origin
origin shape words len numbers bytes q =
    let old = payload_of shape words len in
    let new = replaced old (patches_of (edits_of numbers) bytes) in
    all_checks shape words len numbers bytes
    ▷ guard (not (ltb q (4 * length words))) 13 0
    ▷ gives (origin_in shape (length old) (edits_of numbers) (words_for shape (length new)) len q)

-- ---- what an octet of an origin is

-- the byte that comes from there, of a dump and its patches
abbrev pub byte_from : List ℕ → List Patch → Source → ℕ
byte_from bytes patches (dump_byte i) = get_or bytes i 0
byte_from bytes patches (edit_byte k j) = get_or (patch_at patches k).bytes j 0

-- the header of packet p of a payload of n bytes: type and group, status and count, stream id
abbrev pub header_octets : Shape → ℕ → List ℕ → ℕ → ℕ → List ℕ
header_octets shape group id n p =
    (shape.type * 16 + group)
    ∷ (status_for (packets_for shape n) p * 16 + (min shape.room (n - shape.room * p) + shape.bias))
    ∷ id

-- octet q, of that origin, where these words held a message of len words before the patches
abbrev pub octet_from : Shape → List ℕ → ℕ → List Patch → ℕ → Origin → ℕ
octet_from shape words len patches q (header_octet p j) =
    get_or (header_octets shape (group_at shape words 0) (id_at shape words 0) (length (replaced (payload_of shape words len) patches)) p) j 0
octet_from shape words len patches q (carried source) = byte_from (payload_of shape words len) patches source
octet_from shape words len patches q filler = 0
octet_from shape words len patches q zeroed = 0
octet_from shape words len patches q untouched = get_or (octets words) q 0

-- ---- how often

abbrev pub same_source : Source → Source → Bool
same_source (dump_byte i) (dump_byte j) = eqb i j
same_source (dump_byte i) (edit_byte l j) = false
same_source (edit_byte k i) (dump_byte j) = false
same_source (edit_byte k i) (edit_byte l j) = eqb k l && eqb i j

abbrev pub is_from : Source → Origin → Bool
is_from source (header_octet p j) = false
is_from source (carried other) = same_source source other
is_from source filler = false
is_from source zeroed = false
is_from source untouched = false

abbrev pub is_header : Origin → Bool
is_header (header_octet p j) = true
is_header (carried source) = false
is_header filler = false
is_header zeroed = false
is_header untouched = false

abbrev pub is_filler : Origin → Bool
is_filler (header_octet p j) = false
is_filler (carried source) = false
is_filler filler = true
is_filler zeroed = false
is_filler untouched = false

-- how many octets of a message of so many words have such an origin
abbrev pub how_many : Shape → ℕ → List Edit → ℕ → (Origin → Bool) → ℕ
how_many shape n edits len test = total (λ q. cond (test (origin_of shape n edits q)) 1 0) (4 * len)

-- byte i stands in the range of a patch
abbrev pub in_range : Patch → ℕ → Bool
in_range patch i = not (ltb i patch.from) && ltb i patch.to

-- a byte that is in the result: of a dump of n bytes, one that is there and in no range; of an edit, one of its replacement
abbrev pub Within : ℕ → List Patch → Source → Type 0
Within n patches (dump_byte i) = (i < n) × ((k : ℕ) → k < length patches → in_range (patch_at patches k) i ≡ false)
Within n patches (edit_byte k j) = (k < length patches) × (j < length (patch_at patches k).bytes)

-- Words held a message of len words before the patches, and are now `left`, with the patches done and a message of `new` words; the
-- longest before that had `most`. Each octet lent is what its origin says. In the message, one that is neither header nor filler comes
-- from a byte of the result; each such byte has exactly one octet; and so many are header and filler.
pub record Traced (shape : Shape) (words : List ℕ) (len : ℕ) (patches : List Patch) (most : ℕ) (left : List ℕ) (new : ℕ) : Type 0 where
  pub lent : length left ≡ length words
  pub needed : new ≡ words_for shape (length (replaced (payload_of shape words len) patches))
  pub octet : (q : ℕ) → q < 4 * length words
      → get_or (octets left) q 0
      ≡ octet_from shape words len patches q (origin_in shape (length (payload_of shape words len)) (edits_for patches) new most q)
  pub within : (q : ℕ) (source : Source) → q < 4 * new → origin_of shape (length (payload_of shape words len)) (edits_for patches) q ≡ carried source
      → Within (length (payload_of shape words len)) patches source
  pub once : (source : Source) → Within (length (payload_of shape words len)) patches source
      → how_many shape (length (payload_of shape words len)) (edits_for patches) new (is_from source) ≡ 1
  pub headers : how_many shape (length (payload_of shape words len)) (edits_for patches) new is_header
      ≡ header shape * packets_for shape (length (replaced (payload_of shape words len) patches))
  pub fillers : how_many shape (length (payload_of shape words len)) (edits_for patches) new is_filler + length (replaced (payload_of shape words len) patches)
      ≡ shape.room * packets_for shape (length (replaced (payload_of shape words len) patches))
