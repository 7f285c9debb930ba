-- Each byte of a dump with all ranges replaced is the one that its source names, and each source comes exactly once. Assumes nothing.
use mathlib.Core.Path.{◌≡◌, refl, sym, ap, ap₂, ◌∙◌}
use mathlib.Core.Bool.{Bool, false, cond, not, ◌&&◌}
use mathlib.Core.List.{List, [], ◌∷◌, ◌++◌, map, map-append}
use Prim.Native.Nat.{ℕ, zero, suc, ◌+◌, ◌-◌, ◌≤◌, ◌<◌}
use native.Mathlib.Nat.{zero-add, add-zero, add-suc, le_trans}
use native.Mathlib.Omega.{arith}
use lib.Dec.{ltb, eqb}
use lib.ListN.{length, get_or, take, drop}
use lib.Seq.{slice, slice_empty, take-suc, take-length, drop-append-le, length-take-le}
use borrow.Author.Tests.{le-ltb, eq-eqb, ne_eqb}
use Rattle.ump.specs.Packet.{joined}
use Rattle.ump.specs.Edits.{Patch, patch_at, end_before, Apart, replaced, total}
use Rattle.ump.specs.Origin.{Source, dump_byte, edit_byte, byte_from, same_source, in_range}
use Rattle.ump.proofs.First.{Side, under, over, side}
use Rattle.ump.proofs.Joined.{joined_cong}
use Rattle.ump.proofs.Replace.{to_le}
use Rattle.ump.proofs.Counting.{below}

-- ---- the sources of all bytes of the result, with the text of `replaced`

-- the bytes from..to of the dump
abbrev pub dump_bytes : ℕ → ℕ → List Source
dump_bytes from to = joined (λ i. dump_byte (from + i) ∷ []) (to - from)

-- the first n bytes of edit k
abbrev pub edit_bytes : ℕ → ℕ → List Source
edit_bytes k n = joined (λ j. edit_byte k j ∷ []) n

unfoldable pub sources : ℕ → List Patch → List Source
sources size patches =
    joined (λ k. dump_bytes (end_before patches k) (patch_at patches k).from ++ edit_bytes k (length (patch_at patches k).bytes)) (length patches)
    ++ dump_bytes (end_before patches (length patches)) size

-- ---- the law: the bytes by their sources are those of `replaced`

map_joined : {A : Type 0} (f : A → ℕ) (g : ℕ → List A) (n : ℕ) → map f (joined g n) ≡ joined (λ i. map f (g i)) n
unfolding joined
map_joined f g zero = refl
map_joined f g (suc n) = map-append f (joined g n) (g n) ∙ ap (λ (l : List ℕ). l ++ map f (g n)) (map_joined f g n)

-- a part of a list, element by element
slice_more : (a n : ℕ) (l : List ℕ) → a + n < length l → slice a (suc (a + n)) l ≡ slice a (a + n) l ++ (get_or l (a + n) 0 ∷ [])
slice_more a n l h =
    ap (drop a) (take-suc l (a + n) 0 h)
    ∙ drop-append-le a (take (a + n) l) (get_or l (a + n) 0 ∷ []) (omega (arith, length-take-le (a + n) l (omega arith)))

slice_is : (a n : ℕ) (l : List ℕ) → a + n ≤ length l → joined (λ i. get_or l (a + i) 0 ∷ []) n ≡ slice a (a + n) l
unfolding joined
slice_is a zero l h = rw (add-zero a) (sym (slice_empty a l))
slice_is a (suc n) l h = rw (add-suc, slice_is a n l (omega arith)) (sym (slice_more a n l (omega arith)))

part_is : (a b : ℕ) (l : List ℕ) → a ≤ b → b ≤ length l → joined (λ i. get_or l (a + i) 0 ∷ []) (b - a) ≡ slice a b l
part_is a b l h k =
    let e : a + (b - a) ≡ b = omega arith in
    slice_is a (b - a) l (omega arith) ∙ ap (λ (n : ℕ). slice a n l) e

whole_is : (l : List ℕ) → joined (λ i. get_or l i 0 ∷ []) (length l) ≡ l
whole_is l =
    joined_cong (λ i. get_or l i 0 ∷ []) (λ i. get_or l (0 + i) 0 ∷ []) (length l) (λ i h. rw (zero-add i))
    ∙ slice_is 0 (length l) l (omega arith)
    ∙ rw (zero-add (length l)) (take-length l)

module _ (bytes : List ℕ) (patches : List Patch) (apart : Apart patches (length bytes)) where
  abbrev value : Source → ℕ
  value = byte_from bytes patches

  dump_is : (a b : ℕ) → a ≤ b → b ≤ length bytes → map value (dump_bytes a b) ≡ slice a b bytes
  dump_is a b h k = map_joined value (λ i. dump_byte (a + i) ∷ []) (b - a) ∙ part_is a b bytes h k

  patch_is : (k : ℕ) → map value (edit_bytes k (length (patch_at patches k).bytes)) ≡ (patch_at patches k).bytes
  patch_is k = map_joined value (λ j. edit_byte k j ∷ []) (length (patch_at patches k).bytes) ∙ whole_is (patch_at patches k).bytes

  -- each byte of the dump with all ranges replaced is the one that its source names
  pub replaced_from : replaced bytes patches ≡ map (byte_from bytes patches) (sources (length bytes) patches)
  unfolding replaced sources
  replaced_from =
      let m : ℕ = length patches in
      let part : ℕ → List Source =
      λ k. dump_bytes (end_before patches k) (patch_at patches k).from ++ edit_bytes k (length (patch_at patches k).bytes)
      in
      let old : ℕ → List ℕ = λ i. slice (end_before patches i) (patch_at patches i).from bytes ++ (patch_at patches i).bytes in
      let tail : map value (dump_bytes (end_before patches m) (length bytes)) ≡ drop (end_before patches m) bytes =
      dump_is (end_before patches m) (length bytes) apart.inside (omega arith) ∙ ap (drop (end_before patches m)) (take-length bytes)
      in
      let each : (k : ℕ) → k < m → map value (part k) ≡ old k =
      λ k h. map-append value (dump_bytes (end_before patches k) (patch_at patches k).from) (edit_bytes k (length (patch_at patches k).bytes))
      ∙ ap₂ (λ (x y : List ℕ). x ++ y)
      (dump_is (end_before patches k) (patch_at patches k).from (apart.after k h) (le_trans (apart.forward k h) (to_le bytes patches apart k h)))
      (patch_is k)
      in
      sym
      (map-append value (joined part m) (dump_bytes (end_before patches m) (length bytes))
      ∙ ap₂ (λ (x y : List ℕ). x ++ y) (map_joined value part m ∙ joined_cong (λ k. map value (part k)) old m each) tail)

-- ---- how often a source comes in a list of sources

abbrev pub one : Bool → ℕ
one b = cond b 1 0

unfoldable pub count : Source → List Source → ℕ
count x [] = 0
count x (y ∷ ys) = one (same_source x y) + count x ys

count-append : (x : Source) (ys zs : List Source) → count x (ys ++ zs) ≡ count x ys + count x zs
unfolding count
count-append x [] zs = omega arith
count-append x (y ∷ ys) zs = omega (arith, count-append x ys zs)

count-one : (x y : Source) (ys : List Source) → count x (ys ++ (y ∷ [])) ≡ count x ys + one (same_source x y)
unfolding count
count-one x y ys = count-append x ys (y ∷ []) ∙ omega arith

-- ---- how often a byte of the dump comes

dump_count : (i a n : ℕ) → count (dump_byte i) (joined (λ j. dump_byte (a + j) ∷ []) n) + below a i ≡ below (a + n) i
unfolding joined count
dump_count i a zero = rw (add-zero a) (omega arith)
dump_count i a (suc n) =
    rw (count-one (dump_byte i) (dump_byte (a + n)) (joined (λ j. dump_byte (a + j) ∷ []) n), add-suc)
    (go (count (dump_byte i) (joined (λ j. dump_byte (a + j) ∷ []) n)) (side i (a + n)) (side i (suc (a + n))) (dump_count i a n))
  where
    go : (c : ℕ) → Side i (a + n) → Side i (suc (a + n)) → c + below a i ≡ below (a + n) i → c + cond (eqb i (a + n)) 1 0 + below a i ≡ below (suc (a + n)) i
    go c (under l e) (under m f) ih = rw (f, ne_eqb i (a + n) (λ q. omega arith)) (omega (arith, rw e at ih))
    go c (under l e) (over m f) ih = absurd (omega arith)
    go c (over l e) (under m f) ih = rw (f, eq-eqb i (a + n) (omega arith)) (omega (arith, rw e at ih))
    go c (over l e) (over m f) ih = rw (f, ne_eqb i (a + n) (λ q. omega arith)) (omega (arith, rw e at ih))

part_count : (i a b : ℕ) → a ≤ b → count (dump_byte i) (dump_bytes a b) + below a i ≡ below b i
part_count i a b h =
    let e : a + (b - a) ≡ b = omega arith in
    dump_count i a (b - a) ∙ ap (λ (n : ℕ). below n i) e

no-patch : (i k n : ℕ) → count (dump_byte i) (edit_bytes k n) ≡ 0
unfolding joined count
no-patch i k zero = refl
no-patch i k (suc n) = rw (count-one (dump_byte i) (edit_byte k n) (edit_bytes k n)) (omega (arith, no-patch i k n))

covers : (patch : Patch) (i : ℕ) → patch.from ≤ patch.to → one (in_range patch i) + below patch.from i ≡ below patch.to i
covers patch i h = go (side i patch.from) (side i patch.to)
  where
    go : Side i patch.from → Side i patch.to
        → cond (not (ltb i patch.from) && ltb i patch.to) 1 0 + cond (ltb i patch.from) 1 0 ≡ cond (ltb i patch.to) 1 0
    go (under l e) (under m f) = rw (e, f)
    go (under l e) (over m f) = absurd (omega arith)
    go (over l e) (under m f) = rw (e, f)
    go (over l e) (over m f) = rw (e, f)

-- ---- how often a byte of a patch comes

no_dump : (k j a n : ℕ) → count (edit_byte k j) (joined (λ i. dump_byte (a + i) ∷ []) n) ≡ 0
unfolding joined count
no_dump k j a zero = refl
no_dump k j a (suc n) = rw (count-one (edit_byte k j) (dump_byte (a + n)) (joined (λ i. dump_byte (a + i) ∷ []) n)) (omega (arith, no_dump k j a n))

other_patch : (k j l n : ℕ) → eqb k l ≡ false → count (edit_byte k j) (edit_bytes l n) ≡ 0
unfolding joined count
other_patch k j l zero e = refl
other_patch k j l (suc n) e = rw (count-one (edit_byte k j) (edit_byte l n) (edit_bytes l n), e) (omega (arith, other_patch k j l n e))

own_patch : (k j n : ℕ) → count (edit_byte k j) (edit_bytes k n) ≡ below n j
unfolding joined count
own_patch k j zero = rw (le-ltb j 0 (omega arith))
own_patch k j (suc n) =
    rw (count-one (edit_byte k j) (edit_byte k n) (edit_bytes k n), eq-eqb k k refl, own_patch k j n) (go (side j n) (side j (suc n)))
  where
    go : Side j n → Side j (suc n) → cond (ltb j n) 1 0 + cond (eqb j n) 1 0 ≡ cond (ltb j (suc n)) 1 0
    go (under l e) (under m f) = rw (e, f, ne_eqb j n (λ q. omega arith))
    go (under l e) (over m f) = absurd (omega arith)
    go (over l e) (under m f) = rw (e, f, eq-eqb j n (omega arith))
    go (over l e) (over m f) = rw (e, f, ne_eqb j n (λ q. omega arith))

-- ---- exactly once

module _ (size : ℕ) (patches : List Patch) (apart : Apart patches size) where
  abbrev part : ℕ → List Source
  part k = dump_bytes (end_before patches k) (patch_at patches k).from ++ edit_bytes k (length (patch_at patches k).bytes)

  dump_parts : (i m : ℕ) → m ≤ length patches
      → count (dump_byte i) (joined part m) + total (λ k. one (in_range (patch_at patches k) i)) m ≡ below (end_before patches m) i
  unfolding joined total count
  dump_parts i zero h = rw (le-ltb i 0 (omega arith))
  dump_parts i (suc m) h =
      let from : ℕ = (patch_at patches m).from in
      let end : ℕ = end_before patches m in
      omega (
        arith,
        count-append (dump_byte i) (joined part m) (part m),
        count-append (dump_byte i) (dump_bytes end from) (edit_bytes m (length (patch_at patches m).bytes)),
        part_count i end from (apart.after m (omega arith)),
        no-patch i m (length (patch_at patches m).bytes),
        covers (patch_at patches m) i (apart.forward m (omega arith)),
        dump_parts i m (omega arith),
      )

  -- a byte of the dump comes once, or it stands in one range
  pub dump_once : (i : ℕ) → count (dump_byte i) (sources size patches) + total (λ k. one (in_range (patch_at patches k) i)) (length patches) ≡ below size i
  unfolding sources
  dump_once i =
      let m : ℕ = length patches in
      omega (
        arith,
        count-append (dump_byte i) (joined part m) (dump_bytes (end_before patches m) size),
        part_count i (end_before patches m) size apart.inside,
        dump_parts i m (omega arith),
      )

  patch_parts : (k j m : ℕ) → count (edit_byte k j) (joined part m) ≡ cond (ltb k m) (below (length (patch_at patches k).bytes) j) 0
  unfolding joined count
  patch_parts k j zero = rw (le-ltb k 0 (omega arith))
  patch_parts k j (suc m) =
      rw (
        count-append (edit_byte k j) (joined part m) (part m),
        count-append (edit_byte k j) (dump_bytes (end_before patches m) (patch_at patches m).from) (edit_bytes m (length (patch_at patches m).bytes)),
        no_dump k j (end_before patches m) ((patch_at patches m).from - end_before patches m),
        patch_parts k j m,
      )
      (go (side k m) (side k (suc m)))
    where
      size_of : ℕ → ℕ
      size_of l = length (patch_at patches l).bytes

      go : Side k m → Side k (suc m)
          → cond (ltb k m) (below (size_of k) j) 0 + (0 + count (edit_byte k j) (edit_bytes m (size_of m))) ≡ cond (ltb k (suc m)) (below (size_of k) j) 0
      go (under l e) (under n f) = rw (e, f) (omega (arith, other_patch k j m (size_of m) (ne_eqb k m (λ q. omega arith))))
      go (under l e) (over n f) = absurd (omega arith)
      go (over l e) (under n f) =
          let q : m ≡ k = omega arith in
          rw (e, f, q) (omega (arith, own_patch k j (size_of k)))
      go (over l e) (over n f) = rw (e, f) (omega (arith, other_patch k j m (size_of m) (ne_eqb k m (λ q. omega arith))))

  pub patch_once : (k j : ℕ) → count (edit_byte k j) (sources size patches) ≡ cond (ltb k (length patches)) (below (length (patch_at patches k).bytes) j) 0
  unfolding sources
  patch_once k j =
      let m : ℕ = length patches in
      omega (
        arith,
        count-append (edit_byte k j) (joined part m) (dump_bytes (end_before patches m) size),
        no_dump k j (end_before patches m) (size - end_before patches m),
        patch_parts k j m,
      )
