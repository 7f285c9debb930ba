-- All edits of a list at once: what is known where they are done, that they are not refused where they can be done one after the other,
-- and which octet comes from where. For any shape, over the definitions. Assumes nothing.
use mathlib.Core.Path.{◌≡◌, refl, sym, ap, ap₂, ◌∙◌}
use mathlib.Core.Bool.{false}
use mathlib.Core.List.{List, [], ◌∷◌}
use Prim.Native.Nat.{ℕ, zero, suc, ◌+◌, ◌*◌, ◌%◌, ◌/◌, ◌≤◌, ◌<◌}
use native.Mathlib.Nat.{le_trans}
use native.Mathlib.Omega.{arith}
use lib.Dec.{ltb}
use lib.ListN.{length, get_or, drop, length-drop}
use lib.Seq.{length-take-le}
use borrow.Author.Tests.{ltb-false, le-ltb, eq-eqb}
use Rattle.refusal.specs.Answer.{gives, refused, pass, ◌▷◌, guard}
use Rattle.refusal.proofs.Laws.{writes_given, writes_refused, guard_passed, pass_both}
use Rattle.ump.specs.Word.{octets, Below}
use Rattle.ump.specs.Packet.{Shape, group_at, id_at}
use Rattle.ump.specs.Packing.{words_for}
use Rattle.ump.specs.Check.{check, payload_of}
use Rattle.ump.specs.Splice.{growth_by, Spliced, rewritten}
use Rattle.ump.specs.Edits.{Edit, Patch, patch_at, edits_for, replaced, all_bytes, per_edit, edits_of, patches_of, lengths, some_bad, bad_list, some_overlap, all_checks, splice_all, total}
use Rattle.ump.specs.Holds.{Fewest}
use Rattle.ump.specs.Worker.{Fits}
use Rattle.ump.specs.Demand.{WholeEdits}
use Rattle.ump.specs.Origin.{Origin, origin_in, origin, octet_from, Traced}
use Rattle.ump.specs.Limits.{most_bytes, Dense}
use Rattle.ump.proofs.Words.{below_take, below_drop}
use Rattle.ump.proofs.Sizes.{words_mono}
use Rattle.ump.proofs.Splicing.{below_payload}
use Rattle.ump.proofs.Counting.{total_front}
use Rattle.ump.proofs.Demand.{never_more_bytes, same_message, rewritten_is_fewest}
use Rattle.ump.proofs.Origins.{octet_front, below_replaced, rewritten_traced}
use Rattle.ump.proofs.Asking.{asked_refused, asked-lent, Given, asked_given}
use Rattle.splice.proofs.Lists.{Ordered, ordered, widths_inside, length-replaced}
use Rattle.edit.proofs.Apart.{apart}
use Rattle.edit.proofs.Lists.{list_good}

-- ---- edits with their bytes end to end

below_patches : (m : ℕ) (edits : List Edit) (bytes : List ℕ) → Below m bytes → (k : ℕ) → k < length (patches_of edits bytes)
    → Below m (patch_at (patches_of edits bytes) k).bytes
below_patches m [] bytes b k h = absurd (omega arith)
below_patches m (edit ∷ edits) bytes b zero h = below_take m edit.length bytes b
below_patches m (edit ∷ edits) bytes b (suc k) h = below_patches m edits (drop edit.length bytes) (below_drop m edit.length bytes b) k (omega arith)

pub edits-for : (edits : List Edit) (bytes : List ℕ) → lengths edits ≤ length bytes → edits_for (patches_of edits bytes) ≡ edits
edits-for [] bytes h = refl
edits-for (edit ∷ edits) bytes h =
    ap₂ (λ (n : ℕ) (rest : List Edit). record { from = edit.from; to = edit.to; length = n } ∷ rest)
    (length-take-le edit.length bytes (omega arith))
    (edits-for edits (drop edit.length bytes) (omega (arith, length-drop edit.length bytes)))

all_put : (edits : List Edit) (bytes : List ℕ) → lengths edits ≤ length bytes → all_bytes (patches_of edits bytes) ≡ lengths edits
unfolding total
all_put [] bytes h = refl
all_put (edit ∷ edits) bytes h =
    omega (
      arith,
      total_front (λ j. length (patch_at (patches_of (edit ∷ edits) bytes) j).bytes) (length (patches_of edits (drop edit.length bytes))),
      length-take-le edit.length bytes (omega arith),
      all_put edits (drop edit.length bytes) (omega (arith, length-drop edit.length bytes)),
    )

-- ---- what is known where the checks pass

module _ (s : Shape) (words : List ℕ) (len : ℕ) (numbers bytes : List ℕ) (ok : all_checks s words len numbers bytes ≡ pass) where
  abbrev old : List ℕ
  old = payload_of s words len

  abbrev patches : List Patch
  patches = patches_of (edits_of numbers) bytes

  abbrev new : List ℕ
  new = replaced old patches

  record Known : Type 0 where
    passes : check s words len ≡ pass
    good : some_bad (length old) (edits_of numbers) ≡ false
    whole : length bytes ≡ lengths (edits_of numbers)
    clear : some_overlap 0 (edits_of numbers) ≡ false
    room : words_for s (length new) ≤ length words

  known : Known
  known =
      let range = guard (bad_list (length old) (length bytes) numbers) 13 0 in
      let overlap = guard (some_overlap 0 (edits_of numbers)) 20 0 in
      let last = guard (ltb (length words) (words_for s (length new))) 14 0 in
      let a = pass_both (check s words len) (range ▷ overlap ▷ last) ok in
      let b = pass_both range (overlap ▷ last) a.1 in
      let c = pass_both overlap last b.1 in
      let good = list_good (length old) (length bytes) numbers (guard_passed (bad_list (length old) (length bytes) numbers) 13 0 b.0) in
      record {
        passes = a.0;
        good = good.0;
        whole = good.1;
        clear = guard_passed (some_overlap 0 (edits_of numbers)) 20 0 c.0;
        room = ltb-false (length words) (words_for s (length new)) (guard_passed (ltb (length words) (words_for s (length new))) 14 0 c.1);
      }

  module _ (small : Below s.limit bytes) where
    small_patches : (k : ℕ) → k < length patches → Below s.limit (patch_at patches k).bytes
    small_patches = below_patches s.limit (edits_of numbers) bytes small

    fewest : Fewest s (group_at s words 0) (id_at s words 0) new (length words) (rewritten s words len new) (words_for s (length new))
    fewest =
        rewritten_is_fewest s words len new known.passes
        (below_replaced s.limit old patches (below_payload s words (len / s.words)) small_patches) known.room

    traces : Traced s words len patches len (rewritten s words len new) (words_for s (length new))
    traces = rewritten_traced s words len patches known.passes (apart (length old) (edits_of numbers) bytes known.good known.clear) small_patches known.room

    told : (q : ℕ) (o : Origin) → Given s words len numbers bytes q o → get_or (octets (rewritten s words len new)) q 0 ≡ octet_from s words len patches q o
    told q o g =
        let same : edits_for patches ≡ edits_of numbers = edits-for (edits_of numbers) bytes (omega (arith, known.whole)) in
        (rw same at (traces.octet q g.lent)) ∙ ap (octet_from s words len patches q) g.is

-- ---- what is answered of an octet says what it is

module _ (s : Shape) (words : List ℕ) (len : ℕ) (numbers bytes : List ℕ) (small : Below s.limit bytes)
    (q : ℕ) (o : Origin) (answer : origin s words len numbers bytes q ≡ gives o) where
  abbrev given : Given s words len numbers bytes q o
  given = asked_given s words len numbers bytes q o answer

  -- in any message that is the fewest-packet form of the result
  pub told_anyhow : {left : List ℕ} {size : ℕ}
      → Fewest s (group_at s words 0) (id_at s words 0) (replaced (payload_of s words len) (patches_of (edits_of numbers) bytes)) (length words) left size → q < 4 * size
      → get_or (octets left) q 0 ≡ octet_from s words len (patches_of (edits_of numbers) bytes) q o
  told_anyhow {left} {size} f h =
      let all = fewest s words len numbers bytes given.checked small in
      let same = same_message refl refl refl f all in
      octet_front left size q h
      ∙ ap (λ (m : List ℕ). get_or (octets m) q 0) same.1
      ∙ sym (octet_front (rewritten s words len (new s words len numbers bytes given.checked)) _ q (rw same.0 at h))
      ∙ told s words len numbers bytes given.checked small q o given

  -- and anywhere in the words, where all edits were done at once
  pub told_at_once : {change : Spliced} {left : List ℕ} → splice_all s words len numbers bytes ≡ (gives change, left)
      → get_or (octets left) q 0 ≡ octet_from s words len (patches_of (edits_of numbers) bytes) q o
  unfolding splice_all
  told_at_once e =
      let w = writes_given (all_checks s words len numbers bytes) words _ _ e in
      ap (λ (m : List ℕ). get_or (octets m) q 0) (sym w.2) ∙ told s words len numbers bytes given.checked small q o given

-- ---- where they are done

module _ (s : Shape) (words : List ℕ) (len : ℕ) (numbers bytes : List ℕ) (change : Spliced) (left : List ℕ)
    (done : splice_all s words len numbers bytes ≡ (gives change, left)) where
  record Done : Type 0 where
    ok : all_checks s words len numbers bytes ≡ pass
    length_is : words_for s (length (replaced (payload_of s words len) (patches_of (edits_of numbers) bytes))) ≡ change.length
    left_is : rewritten s words len (replaced (payload_of s words len) (patches_of (edits_of numbers) bytes)) ≡ left

  is_done : Done
  unfolding splice_all
  is_done =
      let w = writes_given (all_checks s words len numbers bytes) words _ _ done in
      record { ok = w.0; length_is = ap (λ (x : Spliced). x.length) w.1; left_is = w.2 }

  -- the question for each octet lent is answered
  pub answered : (q : ℕ) → q < 4 * length words
      → origin s words len numbers bytes q
      ≡ gives (origin_in s (length (payload_of s words len)) (edits_of numbers) (words_for s (length (replaced (payload_of s words len) (patches_of (edits_of numbers) bytes)))) len q)
  answered q h = sym (asked-lent s words len numbers bytes q is_done.ok h)

  module _ (small : Below s.limit bytes) where
    pub all_fewest : Fewest s (group_at s words 0) (id_at s words 0) (replaced (payload_of s words len) (patches_of (edits_of numbers) bytes)) (length words) left change.length
    all_fewest = rw (← is_done.length_is, ← is_done.left_is) (fewest s words len numbers bytes is_done.ok small)

    pub all_traced : Traced s words len (patches_of (edits_of numbers) bytes) len left change.length
    all_traced = rw (← is_done.length_is, ← is_done.left_is) (traces s words len numbers bytes is_done.ok small)

-- ---- where they are refused

-- the question is refused as they are
pub refused_alike : (s : Shape) (words : List ℕ) (len : ℕ) (numbers bytes : List ℕ) {number place : ℕ} {left : List ℕ}
    → splice_all s words len numbers bytes ≡ (refused number place, left) → (q : ℕ) → origin s words len numbers bytes q ≡ refused number place
unfolding splice_all
refused_alike s words len numbers bytes e q = sym (asked_refused s words len numbers bytes q (writes_refused (all_checks s words len numbers bytes) words _ _ e).0)

-- ---- they are not refused where they can be done one after the other

overlap_free : (n end : ℕ) (edits : List Edit) → Ordered n end edits → some_overlap end edits ≡ false
overlap_free n end [] o = refl
overlap_free n end (edit ∷ edits) o = rw (le-ltb edit.from end o.0) (overlap_free n edit.to edits o.1.1)

none_bad : (n end : ℕ) (edits : List Edit) → Ordered n end edits → n ≤ most_bytes → lengths edits ≤ most_bytes → some_bad n edits ≡ false
none_bad n end [] o h l = refl
none_bad n end (edit ∷ edits) o h l =
    let inside = widths_inside n edit.to edits o.1.1 in
    rw (
      le-ltb edit.to edit.from o.1.0,
      le-ltb most_bytes edit.to (omega arith),
      le-ltb most_bytes edit.length (omega arith),
      le-ltb n edit.to (omega arith),
    )
    (none_bad n edit.to edits o.1.1 h (omega arith))

-- a message and edits that demand 3 allows, lent as whole edits with their bytes
module _ {s : Shape} (dense : Dense s) (words : List ℕ) (len : ℕ) (numbers bytes : List ℕ) (fits : Fits s words len (patches_of (edits_of numbers) bytes))
    (whole : WholeEdits numbers bytes) where
  abbrev edits : List Edit
  edits = edits_of numbers

  in_order : Ordered (length (payload_of s words len)) 0 edits
  in_order = ordered (length (payload_of s words len)) edits bytes fits.apart

  put : all_bytes (patches_of edits bytes) ≡ lengths edits
  put = all_put edits bytes (omega (arith, whole.sum))

  good_list : bad_list (length (payload_of s words len)) (length bytes) numbers ≡ false
  good_list =
      let most = never_more_bytes dense fits in
      let good = none_bad (length (payload_of s words len)) 0 edits in_order (omega arith) (omega (arith, put)) in
      rw (eq-eqb (length numbers % per_edit) 0 whole.edits, good, eq-eqb (length bytes) (lengths edits) whole.sum)

  pub all_accepted : splice_all s words len numbers bytes
      ≡ (
        gives (record {
          length = words_for s (length (replaced (payload_of s words len) (patches_of (edits_of numbers) bytes)));
          growth = growth_by (length (replaced (payload_of s words len) (patches_of (edits_of numbers) bytes))) (length (payload_of s words len));
        }),
        rewritten s words len (replaced (payload_of s words len) (patches_of (edits_of numbers) bytes)),
      )
  unfolding splice_all
  all_accepted =
      let old : List ℕ = payload_of s words len in
      let new : List ℕ = replaced old (patches_of edits bytes) in
      let size : length new ≤ length old + all_bytes (patches_of edits bytes) =
      omega (arith, put, length-replaced edits old bytes fits.apart (omega (arith, whole.sum)))
      in
      let room : words_for s (length new) ≤ length words = le_trans (words_mono s _ _ size) fits.room in
      rw (fits.passes, good_list, overlap_free (length old) 0 edits in_order, le-ltb (length words) (words_for s (length new)) room)
