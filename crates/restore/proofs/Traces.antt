-- Each octet of a restored dump comes from where its origin says: each byte of its payload from a dump on the walk. Assumes nothing.
use Rattle.std.specs.Prelude.{Some}
use mathlib.Core.Path.{◌≡◌, refl, sym, ap, ◌∙◌}
use mathlib.Core.Bool.{Bool, true, false, cond}
use mathlib.Core.List.{List, [], ◌∷◌, ◌++◌, map}
use Prim.Native.Nat.{ℕ, zero, suc, ◌+◌, ◌-◌, ◌*◌, ◌/◌, ◌%◌, ◌≤◌, ◌<◌}
use native.Mathlib.Nat.{zero-add}
use native.Mathlib.Omega.{arith}
use lib.Dec.{ltb}
use lib.ListN.{length, get_or, take, replicate, length-map, length-append, length-replicate, get_or-eq_default}
use lib.Seq.{get_or-append-add, take_at}
use borrow.Author.Tests.{lt-ltb, eq-eqb}
use Rattle.refusal.specs.Answer.{gives}
use Rattle.refusal.proofs.Laws.{never_refused}
use Rattle.ump.specs.Word.{octet, octets}
use Rattle.ump.specs.Packet.{sysex8}
use Rattle.ump.specs.Packing.{words_for, pack}
use Rattle.ump.specs.Edits.{Patch, patch_at, edits_for, Apart, replaced}
use Rattle.ump.specs.Runs.{Run, of_dump, of_edit, past, run_from, run_at}
use Rattle.ump.specs.Origin as ump
use Rattle.ump.specs.Origin.{same_source, header_octet, carried, dump_byte, edit_byte, filler, zeroed, untouched, beginning, origin_of, origin_in, header_octets}
use Rattle.ump.proofs.Words.{get_d_octets, zero_octet}
use Rattle.ump.proofs.First.{Side, under, over, side}
use Rattle.ump.proofs.Packing.{length_pack}
use Rattle.ump.proofs.Positions.{octet_at, get_d_frame, octet_of_pack}
use Rattle.ump.proofs.Sources.{sources, replaced_from, count, dump_once, patch_once}
use Rattle.ump.proofs.Counting.{below}
use Rattle.ump.proofs.Runs.{run_tail, run_past, begins_at, byte_of_list}
use Rattle.ump.proofs.Origins.{octet_front}
use Rattle.store.specs.Store.{Dump, delta, held}
use Rattle.store.proofs.Forms.{All, Formed}
use Rattle.chain.specs.Walk.{comes}
use Rattle.chain.specs.Restore.{Payload, restored, unlimited, payload_size, laid_out}
use Rattle.chain.specs.Origin.{Provenance, whole_byte, delta_byte, nowhere, source_by, source_in, source_of, proven_byte, OnWalk, OfDump, of_header, of_payload, of_filler, of_zeroed, restored_octet, origin_at, TracedDump}
use Rattle.chain.proofs.Walks.{held_all}
use Rattle.chain.proofs.Making.{Fitting, Made, of_whole, of_delta, made, apart}

-- ---- bytes

-- a base and the edits on it
module _ (ds : List Dump) (n base : ℕ) (patches : List Patch) (is_held : held ds n ≡ Some (delta n base patches))
    (old : List ℕ) (far : Apart patches (length old)) (source : ℕ → Provenance) where
  run_byte : (i : ℕ) (run : Run) → run_at (length old) (edits_for patches) i ≡ run → ((j : ℕ) → get_or old j 0 ≡ proven_byte ds (source j))
      → get_or (replaced old patches) i 0 ≡ proven_byte ds (source_by source n run)
  run_byte i (of_dump k start end) q more = (rw q at (byte_of_list old patches far i)) ∙ more start
  run_byte i (of_edit k start end) q more = (rw q at (byte_of_list old patches far i)) ∙ rw is_held
  run_byte i past q more = rw q at (byte_of_list old patches far i)

module _ (ds : List Dump) (formed : All Formed ds) where
  -- byte i of a restored dump is the one that its source names
  pub byte_is : (left n : ℕ) {p : Payload} → restored unlimited ds left n ≡ gives p → (i : ℕ)
      → get_or p.bytes i 0 ≡ proven_byte ds (source_of ds left n i)
  unfolding restored source_of
  byte_is zero n e i = never_refused e
  byte_is (suc left) n {p} e i = go (λ b q h j. byte_is left b {p = q} h j) (made unlimited ds left n e)
    where
      f : ℕ → ℕ → Provenance
      f base j = source_of ds left base j

      size : ℕ → ℕ
      size base = payload_size (restored unlimited ds left base)

      go : ((b : ℕ) (q : Payload) → restored unlimited ds left b ≡ gives q → (j : ℕ) → get_or q.bytes j 0 ≡ proven_byte ds (f b j))
          → Made unlimited ds left n p → get_or p.bytes i 0 ≡ proven_byte ds (source_in size f (held ds n) i)
      go more (of_whole group id bytes t r s) = sym (ap (λ (q : Payload). get_or q.bytes i 0) s) ∙ rw (t, t)
      go more (of_delta base patches t b) =
          let old : List ℕ = b.old.bytes in
          sym (ap (λ (q : Payload). get_or q.bytes i 0) b.is)
          ∙ rw (t, b.is_base)
          (run_byte ds n base patches t old (apart (length old) patches (held_all Formed ds n formed t) b.good) (f base) i
          (run_at (length old) (edits_for patches) i) refl (more base b.old b.is_base))

-- ---- each byte of a restored dump comes from one that a dump on the walk has

same_self : (x : ump.Source) → same_source x x ≡ true
same_self (dump_byte i) = eq-eqb i i refl
same_self (edit_byte k j) = rw (eq-eqb k k refl, eq-eqb j j refl)

-- the source at a place of a list comes in it
record Found (from : List ump.Source) (i : ℕ) : Type 0 where
  pub source : ump.Source
  pub is : get_or (map carried from) i filler ≡ carried source
  pub some_times : 1 ≤ count source from

found : (from : List ump.Source) (i : ℕ) → i < length from → Found from i
unfolding count
found [] i h = absurd (omega arith)
found (x ∷ from) zero h = record { source = x; is = refl; some_times = rw (same_self x) (omega arith) }
found (x ∷ from) (suc i) h =
    let f = found from i (omega arith) in
    record { source = f.source; is = f.is; some_times = omega (arith, f.some_times) }

module _ (n : ℕ) (patches : List Patch) (far : Apart patches n) where
  of-dump : (i : ℕ) → 1 ≤ count (dump_byte i) (sources n patches) → i < n
  of-dump i h = go (side i n) (omega (arith, dump_once n patches far i))
    where
      go : Side i n → count (dump_byte i) (sources n patches) ≤ below n i → i < n
      go (under l e) d = l
      go (over l e) d = absurd (omega (arith, rw e at d))

  of-edit : (k j : ℕ) → 1 ≤ count (edit_byte k j) (sources n patches) → (k < length patches) × (j < length (patch_at patches k).bytes)
  of-edit k j h = go (side k (length patches)) (side j (length (patch_at patches k).bytes)) (patch_once n patches far k j)
    where
      go : Side k (length patches) → Side j (length (patch_at patches k).bytes)
          → count (edit_byte k j) (sources n patches) ≡ cond (ltb k (length patches)) (below (length (patch_at patches k).bytes) j) 0
          → (k < length patches) × (j < length (patch_at patches k).bytes)
      go (under l e) (under m f) d = (l, m)
      go (under l e) (over m f) d = absurd (omega (arith, rw (e, f) at d))
      go (over l e) y d = absurd (omega (arith, rw e at d))

-- what a base's walk passes is passed from its delta too
walk_on : (ds : List Dump) (n base : ℕ) (patches : List Patch) → held ds n ≡ Some (delta n base patches) → (s : Provenance)
    → OnWalk ds base s → OnWalk ds n s
unfolding comes
walk_on ds n base patches t (whole_byte number i) w =
    record {
      steps = suc w.steps;
      group = w.group;
      id = w.id;
      bytes = w.bytes;
      come = rw t w.come;
      is_held = w.is_held;
      inside = w.inside;
    }
walk_on ds n base patches t (delta_byte number k j) w =
    record {
      steps = suc w.steps;
      base = w.base;
      patches = w.patches;
      come = rw t w.come;
      is_held = w.is_held;
      edit = w.edit;
      inside = w.inside;
    }
walk_on ds n base patches t nowhere w = w

module _ (ds : List Dump) (n base : ℕ) (patches : List Patch) (is_held : held ds n ≡ Some (delta n base patches))
    (old : List ℕ) (far : Apart patches (length old)) (source : ℕ → Provenance) where
  run_walk : (i : ℕ) (run : Run) → run_at (length old) (edits_for patches) i ≡ run → i < length (replaced old patches)
      → ((j : ℕ) → j < length old → OnWalk ds base (source j)) → OnWalk ds n (source_by source n run)
  unfolding comes
  run_walk i run q h more =
      let size : length (replaced old patches) ≡ length (sources (length old) patches) =
      ap length (replaced_from old patches far) ∙ length-map (sources (length old) patches) (ump.byte_from old patches)
      in
      let f = found (sources (length old) patches) i (omega arith) in
      go run f.source f.some_times (ap beginning (sym q) ∙ begins_at (length old) patches i ∙ f.is)
    where
      go : (run : Run) (x : ump.Source) → 1 ≤ count x (sources (length old) patches) → beginning run ≡ carried x
          → OnWalk ds n (source_by source n run)
      go (of_dump k start end) x c e =
          let same : x ≡ dump_byte start = cc in
          walk_on ds n base patches is_held (source start) (more start (of-dump (length old) patches far start (rw same at c)))
      go (of_edit k start end) x c e =
          let same : x ≡ edit_byte k start = cc in
          let w = of-edit (length old) patches far k start (rw same at c) in
          record { steps = 0; base = base; patches = patches; come = refl; is_held = is_held; edit = w.0; inside = w.1 }
      go past x c e = let z : ◌≡◌ {A = ℕ} 0 1 = cc in absurd (omega arith)

module _ (ds : List Dump) (formed : All Formed ds) where
  pub on_walk : (left n : ℕ) {p : Payload} → restored unlimited ds left n ≡ gives p → (i : ℕ) → i < length p.bytes
      → OnWalk ds n (source_of ds left n i)
  unfolding restored source_of comes
  on_walk zero n e i h = never_refused e
  on_walk (suc left) n {p} e i h = go (λ b q d j l. on_walk left b {p = q} d j l) (made unlimited ds left n e)
    where
      f : ℕ → ℕ → Provenance
      f base j = source_of ds left base j

      size : ℕ → ℕ
      size base = payload_size (restored unlimited ds left base)

      go : ((b : ℕ) (q : Payload) → restored unlimited ds left b ≡ gives q → (j : ℕ) → j < length q.bytes → OnWalk ds b (f b j))
          → Made unlimited ds left n p → OnWalk ds n (source_in size f (held ds n) i)
      go more (of_whole group id bytes t r s) =
          let same : length p.bytes ≡ length bytes = ap (λ (q : Payload). length q.bytes) (sym s) in
          rw t (record { steps = 0; group = group; id = id; bytes = bytes; come = refl; is_held = t; inside = omega arith })
      go more (of_delta base patches t b) =
          let old : List ℕ = b.old.bytes in
          let same : length p.bytes ≡ length (replaced old patches) = ap (λ (q : Payload). length q.bytes) (sym b.is) in
          rw (t, b.is_base)
          (run_walk ds n base patches t old (apart (length old) patches (held_all Formed ds n formed t) b.good) (f base) i
          (run_at (length old) (edits_for patches) i) refl (omega arith) (more base b.old b.is_base))

-- ---- octets

get_d_zeros : (k i : ℕ) → ◌≡◌ {A = ℕ} (get_or (replicate k 0) i 0) 0
get_d_zeros zero i = refl
get_d_zeros (suc k) zero = refl
get_d_zeros (suc k) (suc i) = get_d_zeros k i

module _ (lent : ℕ) (p : Payload) (room : words_for sysex8 (length p.bytes) ≤ lent) where
  abbrev message : List ℕ
  message = pack sysex8 p.group (p.id ∷ []) p.bytes

  abbrev needed : ℕ
  needed = words_for sysex8 (length p.bytes)

  length_message : length message ≡ needed
  length_message = length_pack sysex8 p.group (p.id ∷ []) p.bytes refl

  pub length_laid : length (laid_out lent p) ≡ lent
  unfolding laid_out
  length_laid = simp (length-append, length-replicate) (omega (arith, length_message))

  pub laid_front : take needed (laid_out lent p) ≡ message
  unfolding laid_out
  laid_front = take_at message (replicate (lent - length message) 0) needed length_message

  -- all is zero behind the message
  octet_behind : (q : ℕ) → 4 * needed ≤ q → get_or (octets (laid_out lent p)) q 0 ≡ 0
  unfolding laid_out
  octet_behind q h =
      let zeros : List ℕ = replicate (lent - length message) 0 in
      let e : 4 * (q / 4) + q % 4 ≡ q = omega arith in
      let at : length message + (q / 4 - needed) ≡ q / 4 = omega (arith, length_message) in
      let none_there : get_or (message ++ zeros) (q / 4) 0 ≡ 0 =
      ap (λ (x : ℕ). get_or (message ++ zeros) x 0) (sym at)
      ∙ get_or-append-add message zeros (q / 4 - needed) 0
      ∙ get_d_zeros (lent - length message) (q / 4 - needed)
      in
      ap (λ (x : ℕ). get_or (octets (message ++ zeros)) x 0) (sym e)
      ∙ get_d_octets (message ++ zeros) (q / 4) (q % 4) (omega arith)
      ∙ ap (λ (x : ℕ). octet x (q % 4)) none_there
      ∙ zero_octet (q % 4) (omega arith)

  module _ (ds : List Dump) (count n : ℕ) (fit : Fitting p)
      (is : (i : ℕ) → get_or p.bytes i 0 ≡ proven_byte ds (source_of ds count n i)) where
    abbrev size : ℕ
    size = length p.bytes

    octet_byte : (x : ℕ) → get_or p.bytes x 0 ≡ restored_octet ds count n p (beginning (run_at size [] x))
    octet_byte x = go (side x (size - 0))
      where
        go : Side x (size - 0) → get_or p.bytes x 0 ≡ restored_octet ds count n p (beginning (run_at size [] x))
        go (under h e) = rw (run_tail size 0 0 x h, zero-add x) (is x)
        go (over h e) = rw (run_past size 0 0 x h) (get_or-eq_default p.bytes 0 (omega arith))

    octet_inside : (q : ℕ) → q < 4 * needed → get_or (octets message) q 0 ≡ restored_octet ds count n p (origin_of sysex8 size [] q)
    unfolding origin_of octet_at
    octet_inside q h =
        let k : ℕ = q / 16 in
        let j : ℕ = q % 16 in
        let e : 16 * k + j ≡ q = omega arith in
        let l : j < 16 = omega arith in
        let id : List ℕ = p.id ∷ [] in
        ap (λ (x : ℕ). get_or (octets message) x 0) (sym e)
        ∙ octet_of_pack sysex8 p.group id p.bytes fit.group refl (fit.id, tt) fit.bytes k j (omega arith) l
        ∙ get_d_frame sysex8 p.group id p.bytes refl k j l
        ∙ go k j (side j 3)
      where
        go : (k j : ℕ) → Side j 3
            → cond (ltb j 3) (get_or (header_octets sysex8 p.group (p.id ∷ []) size k) j 0) (get_or p.bytes (13 * k + (j - 3)) 0)
            ≡ restored_octet ds count n p (cond (ltb j 3) (header_octet k j) (beginning (run_at size [] (13 * k + (j - 3)))))
        go k j (under l e) = rw e
        go k j (over l e) = rw e (octet_byte (13 * k + (j - 3)))

    octet_is : (q : ℕ) → q < 4 * lent → get_or (octets (laid_out lent p)) q 0 ≡ restored_octet ds count n p (origin_at size lent q)
    unfolding origin_in
    octet_is q h = go (side q (4 * needed))
      where
        go : Side q (4 * needed)
            → get_or (octets (laid_out lent p)) q 0
            ≡ restored_octet ds count n p (cond (ltb q (4 * needed)) (origin_of sysex8 size [] q) (cond (ltb q (4 * lent)) zeroed untouched))
        go (under l e) =
            rw e (octet_front (laid_out lent p) needed q l ∙ ap (λ (x : List ℕ). get_or (octets x) q 0) laid_front ∙ octet_inside q l)
        go (over l e) = rw (e, lt-ltb q (4 * lent) h) (octet_behind q l)

-- an octet that carries a byte carries one of the payload
carries_inside : (size lent q i : ℕ) → origin_at size lent q ≡ carried (dump_byte i) → i < size
unfolding origin_in origin_of
carries_inside size lent q i e = go (ltb q (4 * words_for sysex8 size)) (ltb (q % 16) 3) (ltb q (4 * lent)) (side at (size - 0)) e
  where
    at : ℕ
    at = 13 * (q / 16) + (q % 16 - 3)

    body : Side at (size - 0) → beginning (run_at size [] at) ≡ carried (dump_byte i) → i < size
    body (under h f) d =
        let b : carried (dump_byte (0 + at)) ≡ carried (dump_byte i) = rw (run_tail size 0 0 at h) at d in
        let same : 0 + at ≡ i = cc in
        omega arith
    body (over h f) d =
        let b : filler ≡ carried (dump_byte i) = rw (run_past size 0 0 at h) at d in
        let z : ◌≡◌ {A = ℕ} 0 1 = cc in
        absurd (omega arith)

    go : (a b c : Bool) → Side at (size - 0)
        → cond a (cond b (header_octet (q / 16) (q % 16)) (beginning (run_at size [] at))) (cond c zeroed untouched) ≡ carried (dump_byte i)
        → i < size
    go true true c s d = let z : ◌≡◌ {A = ℕ} 0 1 = cc in absurd (omega arith)
    go true false c s d = body s d
    go false b true s d = let z : ◌≡◌ {A = ℕ} 0 1 = cc in absurd (omega arith)
    go false b false s d = let z : ◌≡◌ {A = ℕ} 0 1 = cc in absurd (omega arith)

-- ---- the theorem

-- a dump that is restored and laid out in words that it has room in
-- each octet has one of the four origins
kept : (a b c : Bool) (p j i n : ℕ) → OfDump (cond a (cond b (header_octet p j) (beginning (cond c (of_dump 0 i n) past))) zeroed)
kept true true c p j i n = of_header
kept true false true p j i n = of_payload
kept true false false p j i n = of_filler
kept false b c p j i n = of_zeroed

kind_of : (size lent q : ℕ) → q < 4 * lent → OfDump (origin_at size lent q)
unfolding origin_in origin_of run_from
kind_of size lent q h =
    let p = q / 16 in
    let j = q % 16 in
    let i = 13 * p + (j - 3) in
    rw (lt-ltb q (4 * lent) h) (kept (ltb q (4 * words_for sysex8 size)) (ltb j 3) (ltb i (size - 0)) p j (0 + i) size)

pub traced : (ds : List Dump) (count n lent : ℕ) (p : Payload) → All Formed ds → Fitting p → words_for sysex8 (length p.bytes) ≤ lent
    → restored unlimited ds count n ≡ gives p → TracedDump ds count n p (laid_out lent p)
traced ds count n lent p formed fit room e =
    record {
      kinds = λ q h. kind_of (length p.bytes) (length (laid_out lent p)) q h;
      octet = λ q h.
          rw (length_laid lent p room)
          (octet_is lent p room ds count n fit (byte_is ds formed count n e) q (rw (length_laid lent p room) at h));
      inside = λ q i h. carries_inside (length p.bytes) (length (laid_out lent p)) q i h;
      within = on_walk ds formed count n e;
    }
