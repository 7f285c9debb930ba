-- Each octet of the words lent after the edits of a list is what its origin says, and each byte of the result has exactly one.
-- Assumes nothing.
use mathlib.Core.Path.{◌≡◌, refl, sym, ap, ◌∙◌}
use mathlib.Core.Bool.{Bool, true, false, cond}
use mathlib.Core.List.{List, [], ◌∷◌, ◌++◌, append_assoc, map}
use Prim.Native.Nat.{ℕ, zero, suc, ◌+◌, ◌-◌, ◌*◌, ◌/◌, ◌%◌, ◌≤◌, ◌<◌}
use native.Mathlib.Nat.{mul-suc, mul-zero, mul_assoc, mul_comm, div-add-mod, mod-lt, div-lt_iff_lt-mul, mul-add-div, mul-add-mod_self_left, div-eq_of_lt, mod-eq_of_lt}
use native.Mathlib.Omega.{arith}
use lib.Dec.{ltb}
use lib.ListN.{length, get_or, take, drop, length-map}
use lib.Seq.{slice, get_or-take}
use borrow.Author.Tests.{lt-ltb, le-ltb, eq-eqb}
use Rattle.refusal.specs.Answer.{gives, pass}
use Rattle.ump.specs.Word.{octets, Below, octet}
use Rattle.ump.specs.Packet.{Shape, header, group_at, id_at, joined}
use Rattle.ump.specs.Packing.{packets_for, words_for, pack}
use Rattle.ump.specs.Check.{check, payload_of}
use Rattle.ump.specs.Splice.{spliced, rewritten, Spliced, splice, repack}
use Rattle.ump.specs.Edits.{Patch, patch_at, edits_for, end_before, Apart, replaced, total}
use Rattle.ump.specs.Origin.{header_octets, Source, dump_byte, edit_byte, byte_from, Origin, header_octet, carried, filler, zeroed, untouched, origin_of, origin_in, octet_from, same_source, is_from, is_header, is_filler, how_many, in_range, Within, Traced}
use Rattle.ump.specs.Holds.{Fewest, BehindMessage}
use Rattle.ump.proofs.Splicing.{group_fits, length_id, below_id, below_payload}
use Rattle.ump.proofs.Words.{below_append, below_take, below_drop, get_d_octets, zero_octet}
use Rattle.ump.proofs.First.{Side, under, over, side}
use Rattle.ump.proofs.Sizes.{words_pos, packets_enough}
use Rattle.ump.proofs.Positions.{octet_at, get_d_frame, octet_of_pack}
use Rattle.ump.proofs.Replace.{total_cong, total_zero}
use Rattle.ump.proofs.Moving.{total_ge}
use Rattle.ump.proofs.Counting.{total_split, total_front, total_add, total_const, below, total_below}
use Rattle.ump.proofs.Demand.{rewritten_is_fewest}
use Rattle.ump.proofs.Done.{known, packed}
use Rattle.ump.proofs.Behind.{rewritten_behind}
use Rattle.ump.proofs.Sources.{sources, replaced_from, one, count, dump_once, patch_once}
use Rattle.ump.proofs.Runs.{begins_at, read_at}

-- ---- origins by a list of sources

abbrev origin_by : Shape → List Source → ℕ → Origin
origin_by shape from q =
    let p = q / (4 * shape.words) in
    let j = q % (4 * shape.words) in
    cond (ltb j (header shape)) (header_octet p j) (get_or (map carried from) (shape.room * p + (j - header shape)) filler)

abbrev how_many_by : Shape → List Source → ℕ → (Origin → Bool) → ℕ
how_many_by shape from len test = total (λ q. cond (test (origin_by shape from q)) 1 0) (4 * len)

module _ (shape : Shape) (n : ℕ) (patches : List Patch) where
  origin-by : (q : ℕ) → origin_of shape n (edits_for patches) q ≡ origin_by shape (sources n patches) q
  unfolding origin_of
  origin-by q =
      let p : ℕ = q / (4 * shape.words) in
      let j : ℕ = q % (4 * shape.words) in
      ap (λ (o : Origin). cond (ltb j (header shape)) (header_octet p j) o) (begins_at n patches (shape.room * p + (j - header shape)))

  how-many-by : (len : ℕ) (test : Origin → Bool) → how_many shape n (edits_for patches) len test ≡ how_many_by shape (sources n patches) len test
  how-many-by len test = ap (λ (f : ℕ → Origin). total (λ q. cond (test (f q)) 1 0) (4 * len)) (λ d q. origin-by q d)

-- ---- the law of octets

module _ (shape : Shape) (words : List ℕ) (len : ℕ) (patches : List Patch) (from : List Source)
    (bb : Below shape.limit (map (byte_from (payload_of shape words len) patches) from))
    (size : length (replaced (payload_of shape words len) patches) ≡ length from) where
  abbrev made : List ℕ
  made = map (byte_from (payload_of shape words len) patches) from

  -- each octet of the fewest-packet form is what its origin says
  octet-from : (q : ℕ) → q < 4 * words_for shape (length from)
      → get_or (octets (pack shape (group_at shape words 0) (id_at shape words 0) made)) q 0 ≡ octet_from shape words len patches q (origin_by shape from q)
  unfolding octet_at
  octet-from q h =
      let whole : ℕ = 4 * shape.words in
      let p : ℕ = q / whole in
      let j : ℕ = q % whole in
      let some : 0 < whole = omega (arith, words_pos shape) in
      let l : j < whole = mod-lt q some in
      let e : whole * p + j ≡ q = div-add-mod q whole in
      let all : 4 * words_for shape (length from) ≡ packets_for shape (length from) * whole =
      sym (mul_assoc 4 shape.words (packets_for shape (length from))) ∙ mul_comm whole (packets_for shape (length from))
      in
      let count : length made ≡ length from = length-map from (byte_from (payload_of shape words len) patches) in
      let hp : p < packets_for shape (length made) = rw count ((div-lt_iff_lt-mul some).1 (rw all at h)) in
      ap (λ (x : ℕ). get_or (octets (pack shape (group_at shape words 0) (id_at shape words 0) made)) x 0) (sym e)
      ∙ octet_of_pack shape (group_at shape words 0) (id_at shape words 0) made (group_fits shape words 0) (length_id shape words 0) (below_id shape words 0) bb p j hp l
      ∙ get_d_frame shape (group_at shape words 0) (id_at shape words 0) made (length_id shape words 0) p j l
      ∙ go p j (count ∙ sym size) (side j (header shape))
    where
      go : (p j : ℕ) → length made ≡ length (replaced (payload_of shape words len) patches) → Side j (header shape)
          → cond (ltb j (header shape)) (get_or (header_octets shape (group_at shape words 0) (id_at shape words 0) (length made) p) j 0) (get_or made (shape.room * p + (j - header shape)) 0)
          ≡ octet_from shape words len patches q (cond (ltb j (header shape)) (header_octet p j) (get_or (map carried from) (shape.room * p + (j - header shape)) filler))
      go p j c (under k e) = rw e (ap (λ (n : ℕ). get_or (header_octets shape (group_at shape words 0) (id_at shape words 0) n p) j 0) c)
      go p j c (over k e) =
          rw e (read_at (byte_from (payload_of shape words len) patches) (octet_from shape words len patches q) (λ x. refl) refl from (shape.room * p + (j - header shape)))

-- ---- behind the message

-- octet q among its words
octet_in : (m : List ℕ) (q : ℕ) → get_or (octets m) q 0 ≡ octet (get_or m (q / 4) 0) (q % 4)
octet_in m q =
    let e : 4 * (q / 4) + q % 4 ≡ q = omega arith in
    ap (λ (x : ℕ). get_or (octets m) x 0) (sym e) ∙ get_d_octets m (q / 4) (q % 4) (omega arith)

octet_behind : (words : List ℕ) (most : ℕ) (left : List ℕ) (new : ℕ) → BehindMessage words most left new → (q : ℕ) → 4 * new ≤ q
    → get_or (octets left) q 0 ≡ cond (ltb q (4 * most)) 0 (get_or (octets words) q 0)
octet_behind words most left new behind q h = octet_in left q ∙ ap (λ (x : ℕ). octet x (q % 4)) (behind.word (q / 4) (omega arith)) ∙ go (side (q / 4) most)
  where
    go : Side (q / 4) most → octet (cond (ltb (q / 4) most) 0 (get_or words (q / 4) 0)) (q % 4) ≡ cond (ltb q (4 * most)) 0 (get_or (octets words) q 0)
    go (under l e) = rw (e, lt-ltb q (4 * most) (omega arith)) (zero_octet (q % 4) (omega arith))
    go (over l e) = rw (e, le-ltb q (4 * most) (omega arith)) (sym (octet_in words q))

-- an octet of the first words
pub octet_front : (m : List ℕ) (n q : ℕ) → q < 4 * n → get_or (octets m) q 0 ≡ get_or (octets (take n m)) q 0
octet_front m n q h =
    octet_in m q ∙ ap (λ (x : ℕ). octet x (q % 4)) (sym (get_or-take n m (q / 4) 0 (omega arith))) ∙ sym (octet_in (take n m) q)

-- ---- sums over the octets of all packets: their headers, and their bytes one after the other

module _ (shape : Shape) (weight : ℕ → ℕ) (head : ℕ → ℕ → ℕ) (body : ℕ → ℕ)
    (by : (p j : ℕ) → j < 4 * shape.words → weight (4 * shape.words * p + j) ≡ cond (ltb j (header shape)) (head p j) (body (shape.room * p + (j - header shape)))) where
  one_packet : (p : ℕ) → total (λ j. weight (4 * shape.words * p + j)) (4 * shape.words) ≡ total (head p) (header shape) + total (λ i. body (shape.room * p + i)) shape.room
  one_packet p =
      let e : 4 * shape.words ≡ header shape + shape.room = omega (arith, shape.full) in
      let f : ℕ → ℕ = λ j. weight (4 * shape.words * p + j) in
      let a : total f (header shape) ≡ total (head p) (header shape) =
      total_cong f (head p) (header shape) (λ j h. by p j (omega arith) ∙ rw (lt-ltb j (header shape) h))
      in
      let b : total (λ i. f (header shape + i)) shape.room ≡ total (λ i. body (shape.room * p + i)) shape.room =
      total_cong (λ i. f (header shape + i)) (λ i. body (shape.room * p + i)) shape.room
      (λ i h. by p (header shape + i) (omega arith) ∙ rw (le-ltb (header shape + i) (header shape) (omega arith)) (ap (λ (x : ℕ). body (shape.room * p + x)) (omega arith)))
      in
      ap (total f) e ∙ total_split f (header shape) shape.room ∙ rw (a, b)

  all_packets : (k : ℕ) → total weight (4 * shape.words * k) ≡ total (λ p. total (head p) (header shape)) k + total body (shape.room * k)
  unfolding total
  all_packets zero = rw (mul-zero (4 * shape.words), mul-zero shape.room)
  all_packets (suc k) =
      rw (mul-suc (4 * shape.words) k, mul-suc shape.room k)
      (omega (
        arith,
        total_split weight (4 * shape.words * k) (4 * shape.words),
        total_split body (shape.room * k) shape.room,
        all_packets k,
        one_packet k,
      ))

-- ---- how often an octet comes from a source

module _ (shape : Shape) (from : List Source) (weight : Origin → ℕ) where
  abbrev needed : ℕ
  needed = packets_for shape (length from)

  at_octet : (p j : ℕ) → j < 4 * shape.words
      → weight (origin_by shape from (4 * shape.words * p + j))
      ≡ cond (ltb j (header shape)) (weight (header_octet p j)) (weight (get_or (map carried from) (shape.room * p + (j - header shape)) filler))
  at_octet p j h =
      let whole : ℕ = 4 * shape.words in
      let some : 0 < whole = omega (arith, words_pos shape) in
      let d : (whole * p + j) / whole ≡ p = mul-add-div some p j ∙ ap (λ (y : ℕ). p + y) (div-eq_of_lt h) ∙ omega arith in
      let m : (whole * p + j) % whole ≡ j = mul-add-mod_self_left whole p j ∙ mod-eq_of_lt h in
      rw (d, m) (go (side j (header shape)))
    where
      go : Side j (header shape)
          → weight (cond (ltb j (header shape)) (header_octet p j) (get_or (map carried from) (shape.room * p + (j - header shape)) filler))
          ≡ cond (ltb j (header shape)) (weight (header_octet p j)) (weight (get_or (map carried from) (shape.room * p + (j - header shape)) filler))
      go (under l e) = rw e
      go (over l e) = rw e

  all_octets : total (λ q. weight (origin_by shape from q)) (4 * words_for shape (length from))
      ≡ total (λ p. total (λ j. weight (header_octet p j)) (header shape)) needed + total (λ i. weight (get_or (map carried from) i filler)) (shape.room * needed)
  all_octets =
      ap (total (λ q. weight (origin_by shape from q))) (sym (mul_assoc 4 shape.words needed))
      ∙ all_packets shape (λ q. weight (origin_by shape from q)) (λ p j. weight (header_octet p j)) (λ i. weight (get_or (map carried from) i filler)) at_octet needed

all_hits : (x : Source) (ss : List Source) (n : ℕ) → length ss ≤ n → total (λ i. one (is_from x (get_or (map carried ss) i filler))) n ≡ count x ss
unfolding count
all_hits x [] n h = total_zero (λ i. one (is_from x (get_or (map carried []) i filler))) n (λ i. refl)
all_hits x (y ∷ ss) zero h = absurd (omega arith)
all_hits x (y ∷ ss) (suc n) h =
    omega (arith, total_front (λ i. one (is_from x (get_or (map carried (y ∷ ss)) i filler))) n, all_hits x ss n (omega arith))

no_headers : (ss : List Source) (i : ℕ) → one (is_header (get_or (map carried ss) i filler)) ≡ 0
no_headers [] i = refl
no_headers (y ∷ ss) zero = refl
no_headers (y ∷ ss) (suc i) = no_headers ss i

rest_filler : (ss : List Source) (i : ℕ) → one (is_filler (get_or (map carried ss) i filler)) + below (length ss) i ≡ 1
rest_filler [] i = rw (le-ltb i 0 (omega arith))
rest_filler (y ∷ ss) zero = rw (lt-ltb 0 (suc (length ss)) (omega arith))
rest_filler (y ∷ ss) (suc i) = go (side i (length ss)) (side (suc i) (suc (length ss))) (rest_filler ss i)
  where
    go : Side i (length ss) → Side (suc i) (suc (length ss)) → one (is_filler (get_or (map carried ss) i filler)) + below (length ss) i ≡ 1
        → one (is_filler (get_or (map carried ss) i filler)) + below (suc (length ss)) (suc i) ≡ 1
    go (under l e) (under m f) ih = rw f (rw e at ih)
    go (under l e) (over m f) ih = absurd (omega arith)
    go (over l e) (under m f) ih = absurd (omega arith)
    go (over l e) (over m f) ih = rw f (rw e at ih)

-- as many octets of the message come from there
octets-count : (x : Source) (shape : Shape) (from : List Source) → how_many_by shape from (words_for shape (length from)) (is_from x) ≡ count x from
octets-count x shape from =
    let k : ℕ = packets_for shape (length from) in
    all_octets shape from (λ o. one (is_from x o))
    ∙ omega (
      arith,
      total_zero (λ p. total (λ j. 0) (header shape)) k (λ p. total_zero (λ j. 0) (header shape) (λ j. refl)),
      all_hits x from (shape.room * k) (packets_enough shape (length from)),
    )

header-octets : (shape : Shape) (from : List Source) → how_many_by shape from (words_for shape (length from)) is_header ≡ header shape * packets_for shape (length from)
header-octets shape from =
    let k : ℕ = packets_for shape (length from) in
    all_octets shape from (λ o. one (is_header o))
    ∙ omega (
      arith,
      total_zero (λ i. one (is_header (get_or (map carried from) i filler))) (shape.room * k) (no_headers from),
      total_cong (λ p. total (λ j. 1) (header shape)) (λ p. header shape) k (λ p l. total_const 1 (header shape) ∙ omega arith),
      total_const (header shape) k,
    )

filler_octets : (shape : Shape) (from : List Source)
    → how_many_by shape from (words_for shape (length from)) is_filler + length from ≡ shape.room * packets_for shape (length from)
filler_octets shape from =
    let k : ℕ = packets_for shape (length from) in
    let f : ℕ → ℕ = λ i. one (is_filler (get_or (map carried from) i filler)) in
    omega (
      arith,
      all_octets shape from (λ o. one (is_filler o)),
      total_zero (λ p. total (λ j. 0) (header shape)) k (λ p. total_zero (λ j. 0) (header shape) (λ j. refl)),
      total_add f (below (length from)) (shape.room * k),
      total_cong (λ i. f i + below (length from) i) (λ i. 1) (shape.room * k) (λ i h. rest_filler from i),
      total_const 1 (shape.room * k),
      total_below (length from) (shape.room * k) (packets_enough shape (length from)),
    )

same_self : (source : Source) → same_source source source ≡ true
same_self (dump_byte i) = eq-eqb i i refl
same_self (edit_byte k j) = rw (eq-eqb k k refl, eq-eqb j j refl)

-- Each byte comes exactly once: of a message whose bytes come from `sources`, one octet for each byte of the dump that stands in no
-- range, none for one in a range or past the dump's end; one for each byte of each patch, and none else.
module _ (shape : Shape) (size : ℕ) (patches : List Patch) (apart : Apart patches size) where
  abbrev from : List Source
  from = sources size patches

  kept_once : (i : ℕ) → i < size → ((k : ℕ) → k < length patches → in_range (patch_at patches k) i ≡ false) → how_many_by shape from (words_for shape (length from)) (is_from (dump_byte i)) ≡ 1
  kept_once i h out =
      let m : ℕ = length patches in
      let none : total (λ k. one (in_range (patch_at patches k) i)) m ≡ total (λ k. 0) m =
      total_cong (λ k. one (in_range (patch_at patches k) i)) (λ k. 0) m (λ k l. rw (out k l))
      in
      octets-count (dump_byte i) shape from
      ∙ omega (arith, none, total_zero (λ k. 0) m (λ k. refl), rw (lt-ltb i size h) at (dump_once size patches apart i))

  cut_never : (i k : ℕ) → k < length patches → in_range (patch_at patches k) i ≡ true → how_many_by shape from (words_for shape (length from)) (is_from (dump_byte i)) ≡ 0
  cut_never i k h e =
      octets-count (dump_byte i) shape from
      ∙ go (side i size) (dump_once size patches apart i)
      (rw e at (total_ge (λ l. one (in_range (patch_at patches l) i)) (length patches) k h))
    where
      go : {n t : ℕ} → Side i size → n + t ≡ below size i → 1 ≤ t → n ≡ 0
      go (under l f) e t = omega (arith, rw f at e)
      go (over l f) e t = omega (arith, rw f at e)

  patch_octet_once : (k j : ℕ) → k < length patches → j < length (patch_at patches k).bytes → how_many_by shape from (words_for shape (length from)) (is_from (edit_byte k j)) ≡ 1
  patch_octet_once k j h l =
      octets-count (edit_byte k j) shape from ∙ patch_once size patches apart k j ∙ rw (lt-ltb k (length patches) h, lt-ltb j (length (patch_at patches k).bytes) l)

  some_octet : (source : Source) (q : ℕ) → q < 4 * words_for shape (length from) → origin_by shape from q ≡ carried source → 1 ≤ how_many_by shape from (words_for shape (length from)) (is_from source)
  some_octet source q h e = rw (e, same_self source) at (total_ge (λ r. one (is_from source (origin_by shape from r))) (4 * words_for shape (length from)) q h)

  -- and each octet that is neither header nor filler comes from such a byte
  pub within : (source : Source) (q : ℕ) → q < 4 * words_for shape (length from) → origin_by shape from q ≡ carried source → Within size patches source
  within (dump_byte i) q h e = (inside (side i size) (dump_once size patches apart i), λ k l. out k l (in_range (patch_at patches k) i) refl)
    where
      some : 1 ≤ count (dump_byte i) from
      some = rw (octets-count (dump_byte i) shape from) at (some_octet (dump_byte i) q h e)

      inside : Side i size → count (dump_byte i) from + total (λ k. one (in_range (patch_at patches k) i)) (length patches) ≡ below size i → i < size
      inside (under l f) d = l
      inside (over l f) d = absurd (omega (arith, rw f at d, some))

      out : (k : ℕ) → k < length patches → (b : Bool) → in_range (patch_at patches k) i ≡ b → b ≡ false
      out k l true f = absurd (omega (arith, cut_never i k l f, some_octet (dump_byte i) q h e))
      out k l false f = refl
  within (edit_byte k j) q h e =
      go (side k (length patches)) (side j (length (patch_at patches k).bytes)) (octets-count (edit_byte k j) shape from ∙ patch_once size patches apart k j)
    where
      go : Side k (length patches) → Side j (length (patch_at patches k).bytes)
          → how_many_by shape from (words_for shape (length from)) (is_from (edit_byte k j)) ≡ cond (ltb k (length patches)) (below (length (patch_at patches k).bytes) j) 0
          → (k < length patches) × (j < length (patch_at patches k).bytes)
      go (under l f) (under m g) d = (l, m)
      go (under l f) (over m g) d = absurd (omega (arith, rw (f, g) at d, some_octet (edit_byte k j) q h e))
      go (over l f) y d = absurd (omega (arith, rw f at d, some_octet (edit_byte k j) q h e))

-- ---- the theorem

below_joined : (m : ℕ) (f : ℕ → List ℕ) (n : ℕ) → ((i : ℕ) → i < n → Below m (f i)) → Below m (joined f n)
unfolding joined
below_joined m f zero h = tt
below_joined m f (suc n) h = below_append m (joined f n) (f n) (below_joined m f n (λ i k. h i (omega arith))) (h n (omega arith))

-- bytes all, if those of the dump and of the patches are
pub below_replaced : (m : ℕ) (bytes : List ℕ) (patches : List Patch) → Below m bytes → ((k : ℕ) → k < length patches → Below m (patch_at patches k).bytes)
    → Below m (replaced bytes patches)
unfolding replaced
below_replaced m bytes patches b small =
    below_append m (joined (λ i. slice (end_before patches i) (patch_at patches i).from bytes ++ (patch_at patches i).bytes) (length patches)) _
    (below_joined m _ (length patches)
    (λ k h. below_append m (slice (end_before patches k) (patch_at patches k).from bytes) (patch_at patches k).bytes
    (below_drop m (end_before patches k) _ (below_take m (patch_at patches k).from bytes b)) (small k h)))
    (below_drop m (end_before patches (length patches)) bytes b)

module _ (shape : Shape) (words : List ℕ) (len : ℕ) (patches : List Patch) (most : ℕ) (left : List ℕ) (new : ℕ)
    (fewest : Fewest shape (group_at shape words 0) (id_at shape words 0) (replaced (payload_of shape words len) patches) (length words) left new)
    (apart : Apart patches (length (payload_of shape words len))) (behind : BehindMessage words most left new) where
  abbrev old : List ℕ
  old = payload_of shape words len

  abbrev sourced : List Source
  sourced = sources (length old) patches

  new_is : replaced old patches ≡ map (byte_from old patches) sourced
  new_is = replaced_from old patches apart

  size_is : length (replaced old patches) ≡ length sourced
  size_is = ap length new_is ∙ length-map sourced (byte_from old patches)

  words_is : new ≡ words_for shape (length sourced)
  words_is = fewest.length_is ∙ ap (words_for shape) size_is

  below_new : Below shape.limit (map (byte_from old patches) sourced)
  below_new = rw new_is at (rw fewest.holds.carries at (below_payload shape left (new / shape.words)))

  in_message : (q : ℕ) → q < 4 * new → get_or (octets left) q 0 ≡ octet_from shape words len patches q (origin_of shape (length old) (edits_for patches) q)
  in_message q h =
      octet_front left new q h
      ∙ ap (λ (m : List ℕ). get_or (octets m) q 0) (fewest.packed ∙ ap (pack shape (group_at shape words 0) (id_at shape words 0)) new_is)
      ∙ octet-from shape words len patches sourced below_new size_is q (rw words_is at h)
      ∙ ap (octet_from shape words len patches q) (sym (origin-by shape (length old) patches q))

  octet_lent : (q : ℕ) → get_or (octets left) q 0 ≡ octet_from shape words len patches q (origin_in shape (length old) (edits_for patches) new most q)
  unfolding origin_in
  octet_lent q = go (side q (4 * new)) (side q (4 * most))
    where
      go : Side q (4 * new) → Side q (4 * most)
          → get_or (octets left) q 0
          ≡ octet_from shape words len patches q (cond (ltb q (4 * new)) (origin_of shape (length old) (edits_for patches) q) (cond (ltb q (4 * most)) zeroed untouched))
      go (under h e) y = rw e (in_message q h)
      go (over h e) (under l f) = rw (e, f) ((rw f at (octet_behind words most left new behind q h)))
      go (over h e) (over l f) = rw (e, f) ((rw f at (octet_behind words most left new behind q h)))

  counted : (test : Origin → Bool) → how_many shape (length old) (edits_for patches) new test ≡ how_many_by shape sourced (words_for shape (length sourced)) test
  counted test = how-many-by shape (length old) patches new test ∙ ap (λ (n : ℕ). how_many_by shape sourced n test) words_is

  pub traced : Traced shape words len patches most left new
  traced =
      record {
        lent = fewest.holds.buffer;
        needed = fewest.length_is;
        octet = λ q h. octet_lent q;
        within = λ q source h e. within shape (length old) patches apart source q (rw words_is at h) (sym (origin-by shape (length old) patches q) ∙ e);
        once = λ source w. counted (is_from source) ∙ go source w;
        headers = counted is_header ∙ header-octets shape sourced ∙ ap (λ (n : ℕ). header shape * packets_for shape n) (sym size_is);
        fillers = rw (counted is_filler, size_is) (filler_octets shape sourced);
      }
    where
      go : (source : Source) → Within (length old) patches source → how_many_by shape sourced (words_for shape (length sourced)) (is_from source) ≡ 1
      go (dump_byte i) w = kept_once shape (length old) patches apart i w.0 w.1
      go (edit_byte k j) w = patch_octet_once shape (length old) patches apart k j w.0 w.1

-- ---- a message rewritten with the patches done

pub rewritten_traced : (shape : Shape) (words : List ℕ) (len : ℕ) (patches : List Patch) → check shape words len ≡ pass → Apart patches (length (payload_of shape words len))
    → ((k : ℕ) → k < length patches → Below shape.limit (patch_at patches k).bytes)
    → words_for shape (length (replaced (payload_of shape words len) patches)) ≤ length words
    → Traced shape words len patches len (rewritten shape words len (replaced (payload_of shape words len) patches)) (words_for shape (length (replaced (payload_of shape words len) patches)))
rewritten_traced shape words len patches passes apart small room =
    let old : List ℕ = payload_of shape words len in
    traced shape words len patches len (rewritten shape words len (replaced old patches)) (words_for shape (length (replaced old patches)))
    (rewritten_is_fewest shape words len (replaced old patches) passes (below_replaced shape.limit old patches (below_payload shape words (len / shape.words)) small) room)
    apart (rewritten_behind shape words len (replaced old patches))

-- ---- one splice is a list of one

abbrev pub single : ℕ → ℕ → List ℕ → List Patch
single from to bytes = record { from = from; to = to; bytes = bytes } ∷ []

pub replaced_single : (old : List ℕ) (from to : ℕ) (bytes : List ℕ) → replaced old (single from to bytes) ≡ spliced old from to bytes
unfolding replaced joined
replaced_single old from to bytes = append_assoc (take from old) bytes (drop to old)

-- a fact of the only one
only : (P : ℕ → Type 0) → P 0 → (i : ℕ) → i < 1 → P i
only P x zero h = x
only P x (suc i) h = absurd (omega arith)

pub single_apart : (from to n : ℕ) (bytes : List ℕ) → from ≤ to → to ≤ n → Apart (single from to bytes) n
single_apart from to n bytes h k =
    record {
      after = only (λ j. end_before (single from to bytes) j ≤ (patch_at (single from to bytes) j).from) (omega arith);
      forward = only (λ j. (patch_at (single from to bytes) j).from ≤ (patch_at (single from to bytes) j).to) h;
      inside = k;
    }

pub splice_traced : (shape : Shape) (words : List ℕ) (len from to : ℕ) (bytes : List ℕ) (change : Spliced) (left : List ℕ)
    → splice shape words len from to bytes ≡ (gives change, left) → Below shape.limit bytes
    → Traced shape words len (single from to bytes) len left change.length
splice_traced shape words len from to bytes change left done small =
    let k = known shape words len from to bytes change left done in
    let old : List ℕ = payload_of shape words len in
    let e : replaced old (single from to bytes) ≡ spliced old from to bytes = replaced_single old from to bytes in
    rw (← k.length_is, ← k.left_is, ← e)
    (rewritten_traced shape words len (single from to bytes) k.passes (single_apart from to (length old) bytes k.forward k.inside)
    (only (λ j. Below shape.limit (patch_at (single from to bytes) j).bytes) small) (rw e k.room))

-- ---- packing is a list of none

replaced-none : (old : List ℕ) → replaced old [] ≡ old
unfolding replaced joined
replaced-none old = refl

none_apart : (n : ℕ) → Apart [] n
none_apart n = record { after = λ i h. absurd (omega arith); forward = λ i h. absurd (omega arith); inside = omega arith }

pub repack_traced : (shape : Shape) (words : List ℕ) (len new : ℕ) (left : List ℕ) → repack shape words len ≡ (gives new, left) → Traced shape words len [] len left new
repack_traced shape words len new left done =
    let k = packed shape words len new left done in
    let e : replaced (payload_of shape words len) [] ≡ payload_of shape words len = replaced-none (payload_of shape words len) in
    rw (← k.length_is, ← k.left_is, ← e)
    (rewritten_traced shape words len [] k.passes (none_apart (length (payload_of shape words len))) (λ i h. absurd (omega arith)) (rw e k.room))
