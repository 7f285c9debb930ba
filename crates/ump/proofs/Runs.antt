-- The cases of `run_from`: the dump before the next edit, its replacement, what is behind it; the end of the dump. And a run begins
-- at the source of its first byte. Assumes nothing.
use mathlib.Core.Path.{◌≡◌, refl, sym, ap, ap₂, ◌∙◌}
use mathlib.Core.Bool.{cond}
use mathlib.Core.List.{List, [], ◌∷◌, ◌++◌, append_assoc, append-nil, map}
use Prim.Native.Nat.{ℕ, zero, suc, ◌+◌, ◌-◌, ◌≤◌, ◌<◌}
use native.Mathlib.Nat.{zero-add, add-zero, add-suc, suc-add}
use native.Mathlib.Omega.{arith}
use lib.Dec.{ltb}
use lib.ListN.{length, get_or}
use borrow.Author.Tests.{lt-ltb, le-ltb}
use Rattle.ump.specs.Packet.{joined}
use Rattle.ump.specs.Edits.{Edit, Patch, patch_at, edits_for, end_before, Apart, replaced}
use Rattle.ump.specs.Runs.{of_dump, of_edit, past, run_from, run_at}
use Rattle.ump.specs.Origin.{Source, dump_byte, edit_byte, byte_from, Origin, header_octet, carried, filler, zeroed, untouched, beginning}
use Rattle.ump.proofs.First.{Side, under, over, side}
use Rattle.ump.proofs.Joined.{joined_cong, joined_front}
use Rattle.ump.proofs.Replace.{end_from, end_before_lem, end_next}
use Rattle.ump.proofs.Sources.{dump_bytes, edit_bytes, sources, replaced_from}

module _ (n end k i : ℕ) where
  pub run_tail : i < n - end → run_from n end k [] i ≡ of_dump k (end + i) n
  unfolding run_from
  run_tail h = rw (lt-ltb i (n - end) h)

  pub run_past : n - end ≤ i → run_from n end k [] i ≡ past
  unfolding run_from
  run_past h = rw (le-ltb i (n - end) h)

  module _ (e : Edit) (es : List Edit) where
    pub run_gap : i < e.from - end → run_from n end k (e ∷ es) i ≡ of_dump k (end + i) e.from
    unfolding run_from
    run_gap h = rw (lt-ltb i (e.from - end) h)

    module _ (h : e.from - end ≤ i) where
      pub run_within : i - (e.from - end) < e.length → run_from n end k (e ∷ es) i ≡ of_edit k (i - (e.from - end)) e.length
      unfolding run_from
      run_within l = rw (le-ltb i (e.from - end) h, lt-ltb (i - (e.from - end)) e.length l)

      pub run_later : e.length ≤ i - (e.from - end)
          → run_from n end k (e ∷ es) i ≡ run_from n e.to (suc k) es (i - (e.from - end) - e.length)
      unfolding run_from
      run_later l = rw (le-ltb i (e.from - end) h, le-ltb (i - (e.from - end)) e.length l)

-- ---- the sources of the result, edit by edit

abbrev sources_from : ℕ → ℕ → ℕ → List Patch → List Source
sources_from n start k [] = dump_bytes start n
sources_from n start k (patch ∷ patches) =
    dump_bytes start patch.from ++ (edit_bytes k (length patch.bytes) ++ sources_from n patch.to (suc k) patches)

abbrev part_from : ℕ → ℕ → List Patch → ℕ → List Source
part_from start k patches i = dump_bytes (end_from start patches i) (patch_at patches i).from ++ edit_bytes (k + i) (length (patch_at patches i).bytes)

by_number : (n start k : ℕ) (patches : List Patch)
    → joined (part_from start k patches) (length patches) ++ dump_bytes (end_from start patches (length patches)) n ≡ sources_from n start k patches
unfolding joined
by_number n start k [] = refl
by_number n start k (patch ∷ patches) =
    let m : ℕ = length patches in
    let f : ℕ → List Source = part_from start k (patch ∷ patches) in
    let g : ℕ → List Source = part_from patch.to (suc k) patches in
    let next : (i : ℕ) → i < m → f (suc i) ≡ g i =
    λ i h. ap₂ (λ (a b : ℕ). dump_bytes a (patch_at patches i).from ++ edit_bytes b (length (patch_at patches i).bytes)) (end_next patch patches i) (add-suc k i ∙ sym (suc-add k i))
    in
    ap₂ (λ (x y : List Source). x ++ y)
    (joined_front f m ∙ ap (λ (x : List Source). f 0 ++ x) (joined_cong (λ i. f (suc i)) g m next))
    (ap (λ (a : ℕ). dump_bytes a n) (end_next patch patches m))
    ∙ append_assoc (f 0) (joined g m) (dump_bytes (end_from patch.to patches m) n)
    ∙ append_assoc (dump_bytes start patch.from) (edit_bytes (k + 0) (length patch.bytes)) _
    ∙ ap₂ (λ (b : ℕ) (x : List Source). dump_bytes start patch.from ++ (edit_bytes b (length patch.bytes) ++ x)) (add-zero k) (by_number n patch.to (suc k) patches)

sources_are : (n : ℕ) (patches : List Patch) → sources n patches ≡ sources_from n 0 0 patches
unfolding sources
sources_are n patches =
    ap₂ (λ (x y : List Source). x ++ y)
    (joined_cong (λ k. dump_bytes (end_before patches k) (patch_at patches k).from ++ edit_bytes k (length (patch_at patches k).bytes)) (part_from 0 0 patches) (length patches)
    (λ i h. ap₂ (λ (a b : ℕ). dump_bytes a (patch_at patches i).from ++ edit_bytes b (length (patch_at patches i).bytes)) (end_before_lem patches i) (sym (zero-add i))))
    (ap (λ (a : ℕ). dump_bytes a n) (end_before_lem patches (length patches)))
    ∙ by_number n 0 0 patches

-- ---- a run begins at the source of its first byte

-- element i where m of them, each of a source by its number, stand before others
named_at : (f : ℕ → Source) (m : ℕ) (rest : List Source) (i : ℕ)
    → get_or (map carried (joined (λ j. f j ∷ []) m ++ rest)) i filler ≡ cond (ltb i m) (carried (f i)) (get_or (map carried rest) (i - m) filler)
unfolding joined
named_at f zero rest i = rw (le-ltb i 0 (omega arith)) (ap (λ (j : ℕ). get_or (map carried rest) j filler) (omega arith))
named_at f (suc m) rest i =
    ap (λ (l : List Source). get_or (map carried (l ++ rest)) i filler) (joined_front (λ j. f j ∷ []) m) ∙ go i (named_at (λ j. f (suc j)) m rest)
  where
    go : (i : ℕ)
        → ((j : ℕ) → get_or (map carried (joined (λ j. f (suc j) ∷ []) m ++ rest)) j filler ≡ cond (ltb j m) (carried (f (suc j))) (get_or (map carried rest) (j - m) filler))
        → get_or (map carried ((f 0 ∷ joined (λ j. f (suc j) ∷ []) m) ++ rest)) i filler ≡ cond (ltb i (suc m)) (carried (f i)) (get_or (map carried rest) (i - suc m) filler)
    go zero ih = rw (lt-ltb 0 (suc m) (omega arith))
    go (suc i) ih = ih i ∙ on (side i m) (side (suc i) (suc m))
      where
        on : Side i m → Side (suc i) (suc m)
            → cond (ltb i m) (carried (f (suc i))) (get_or (map carried rest) (i - m) filler)
            ≡ cond (ltb (suc i) (suc m)) (carried (f (suc i))) (get_or (map carried rest) (suc i - suc m) filler)
        on (under h e) (under l d) = rw (e, d)
        on (under h e) (over l d) = absurd (omega arith)
        on (over h e) (under l d) = absurd (omega arith)
        on (over h e) (over l d) = rw (e, d) (ap (λ (j : ℕ). get_or (map carried rest) j filler) (omega arith))

begins_from : (n start k : ℕ) (patches : List Patch) (i : ℕ)
    → beginning (run_from n start k (edits_for patches) i) ≡ get_or (map carried (sources_from n start k patches)) i filler
begins_from n start k [] i =
    go (side i (n - start)) (ap (λ (l : List Source). get_or (map carried l) i filler) (sym (append-nil (dump_bytes start n))) ∙ named_at (λ j. dump_byte (start + j)) (n - start) [] i)
  where
    go : Side i (n - start) → get_or (map carried (dump_bytes start n)) i filler ≡ cond (ltb i (n - start)) (carried (dump_byte (start + i))) filler
        → beginning (run_from n start k [] i) ≡ get_or (map carried (dump_bytes start n)) i filler
    go (under h e) d = rw (run_tail n start k i h) (sym (rw e at d))
    go (over h e) d = rw (run_past n start k i h) (sym (rw e at d))
begins_from n start k (patch ∷ patches) i =
    let gap : ℕ = patch.from - start in
    let size : ℕ = length patch.bytes in
    let rest : List Source = sources_from n patch.to (suc k) patches in
    go (side i gap) (side (i - gap) size)
    (named_at (λ j. dump_byte (start + j)) gap (edit_bytes k size ++ rest) i)
    (named_at (λ j. edit_byte k j) size rest (i - gap))
    (begins_from n patch.to (suc k) patches (i - gap - size))
  where
    gap : ℕ
    gap = patch.from - start

    size : ℕ
    size = length patch.bytes

    edit : Edit
    edit = record { from = patch.from; to = patch.to; length = length patch.bytes }

    rest : List Source
    rest = sources_from n patch.to (suc k) patches

    go : Side i gap → Side (i - gap) size
        → get_or (map carried (dump_bytes start patch.from ++ (edit_bytes k size ++ rest))) i filler
        ≡ cond (ltb i gap) (carried (dump_byte (start + i))) (get_or (map carried (edit_bytes k size ++ rest)) (i - gap) filler)
        → get_or (map carried (edit_bytes k size ++ rest)) (i - gap) filler
        ≡ cond (ltb (i - gap) size) (carried (edit_byte k (i - gap))) (get_or (map carried rest) (i - gap - size) filler)
        → beginning (run_from n patch.to (suc k) (edits_for patches) (i - gap - size)) ≡ get_or (map carried rest) (i - gap - size) filler
        → beginning (run_from n start k (edit ∷ edits_for patches) i) ≡ get_or (map carried (dump_bytes start patch.from ++ (edit_bytes k size ++ rest))) i filler
    go (under h e) s a b c = rw (run_gap n start k i edit (edits_for patches) h) (sym (rw e at a))
    go (over h e) (under l f) a b c = rw (run_within n start k i edit (edits_for patches) h l) (sym ((rw e at a) ∙ (rw f at b)))
    go (over h e) (over l f) a b c = rw (run_later n start k i edit (edits_for patches) h l) (c ∙ sym ((rw e at a) ∙ (rw f at b)))

-- the run at byte i begins at source i
pub begins_at : (n : ℕ) (patches : List Patch) (i : ℕ) → beginning (run_at n (edits_for patches) i) ≡ get_or (map carried (sources n patches)) i filler
begins_at n patches i = begins_from n 0 0 patches i ∙ ap (λ (l : List Source). get_or (map carried l) i filler) (sym (sources_are n patches))

-- ---- byte n of the result, without making the result

-- bytes by their sources, read by what an origin says
pub read_at : (f : Source → ℕ) (g : Origin → ℕ) → ((source : Source) → f source ≡ g (carried source)) → 0 ≡ g filler
    → (ss : List Source) (i : ℕ) → get_or (map f ss) i 0 ≡ g (get_or (map carried ss) i filler)
read_at f g e z [] i = z
read_at f g e z (x ∷ ss) zero = e x
read_at f g e z (x ∷ ss) (suc i) = read_at f g e z ss i

-- the byte that an origin carries; 0 where it carries none
abbrev carried_byte : List ℕ → List Patch → Origin → ℕ
carried_byte bytes patches (header_octet p j) = 0
carried_byte bytes patches (carried source) = byte_from bytes patches source
carried_byte bytes patches filler = 0
carried_byte bytes patches zeroed = 0
carried_byte bytes patches untouched = 0

pub byte_of_list : (bytes : List ℕ) (patches : List Patch) → Apart patches (length bytes) → (n : ℕ)
    → get_or (replaced bytes patches) n 0 ≡ carried_byte bytes patches (beginning (run_at (length bytes) (edits_for patches) n))
byte_of_list bytes patches apart n =
    ap (λ (l : List ℕ). get_or l n 0) (replaced_from bytes patches apart)
    ∙ read_at (byte_from bytes patches) (carried_byte bytes patches) (λ x. refl) refl (sources (length bytes) patches) n
    ∙ ap (carried_byte bytes patches) (sym (begins_at (length bytes) patches n))
