-- One byte of a list of edits, from where it stands. Assumes nothing.
use mathlib.Core.Path.{◌≡◌, refl, sym, ap, ◌∙◌}
use mathlib.Core.List.{List, [], ◌∷◌}
use Prim.Native.Nat.{ℕ, zero, suc, ◌+◌, ◌<◌, ◌≤◌}
use native.Mathlib.Nat.{add-zero}
use native.Mathlib.Omega.{arith}
use lib.ListN.{length, get_or, take, drop, length-take, length-drop}
use lib.Seq.{slice, get_or-take, get_or-drop}
use Rattle.refusal.specs.Answer.{Verdict, gives, refused, pass, ◌▷◌}
use Rattle.refusal.proofs.Laws.{never_both, never_refused, pass_both}
use Rattle.ump.specs.Packet.{sysex8}
use Rattle.ump.specs.Check.{check, payload_of}
use Rattle.ump.specs.Edits.{Edit, Patch, patch_at, replaced, edits_for, edits_of, patches_of, lengths}
use Rattle.ump.specs.Runs.{Run, of_dump, of_edit, past, run_at}
use Rattle.ump.proofs.First.{Side, under, over, side}
use Rattle.message.specs.Accepted.{Accepted}
use Rattle.splice.proofs.Lists.{ordered}
use Rattle.edit.specs.Listed.{list_check}
use Rattle.edit.specs.Placed.{Place, in_dump, in_bytes, place_of, placed}
use Rattle.edit.proofs.Lists.{list_passes}
use Rattle.edit.proofs.Apart.{apart}
use Rattle.edit.proofs.AtOnce.{edits-for}
use Rattle.look.specs.Pieces.{run_length, run_bytes}
use Rattle.look.specs.Look.{byte_of, byte_of_message}
use Rattle.look.proofs.Nth.{nth_past, nth_there}
use Rattle.look.proofs.Right.{Right, right}

-- the first byte of a part
slice_first : (start end : ℕ) (l : List ℕ) → start < end → get_or (slice start end l) 0 0 ≡ get_or l start 0
slice_first start end l h =
    get_or-drop start (take end l) 0 0 ∙ ap (λ (k : ℕ). get_or (take end l) k 0) (add-zero start) ∙ get_or-take end l start 0 h

-- byte s of the replacement of edit k, among all replacement bytes
record Lies (bytes : List ℕ) (patch : Patch) (s at : ℕ) : Type 0 where
  pub there : at < length bytes
  pub is : get_or patch.bytes s 0 ≡ get_or bytes at 0

lies : (edits : List Edit) (bytes : List ℕ) (k s : ℕ) → s < length (patch_at (patches_of edits bytes) k).bytes
    → Lies bytes (patch_at (patches_of edits bytes) k) s (lengths (take k edits) + s)
lies [] bytes zero s h = absurd (omega arith)
lies [] bytes (suc k) s h = absurd (omega arith)
lies (edit ∷ edits) bytes zero s h =
    let l = length-take edit.length bytes in
    record {
      there = omega arith;
      is = get_or-take edit.length bytes s 0 (omega arith) ∙ ap (λ (n : ℕ). get_or bytes n 0) (omega arith);
    }
lies (edit ∷ edits) bytes (suc k) s h =
    let w = lies edits (drop edit.length bytes) k s h in
    record {
      there = omega (arith, w.there, length-drop edit.length bytes);
      is = w.is ∙ get_or-drop edit.length bytes (lengths (take k edits) + s) 0 ∙ ap (λ (n : ℕ). get_or bytes n 0) (omega arith);
    }

-- ---- a list that passed its checks

module _ (dump numbers bytes : List ℕ) (passed : list_check (length dump) (length bytes) numbers ≡ pass) where
  abbrev edits : List Edit
  edits = edits_of numbers

  abbrev patches : List Patch
  patches = patches_of edits bytes

  abbrev new : List ℕ
  new = replaced dump patches

  -- the run at byte i is right for the result
  pub right_listed : (i : ℕ) → Right dump patches new i (run_at (length dump) edits i)
  right_listed i =
      let l = list_passes (length dump) (length bytes) numbers passed in
      let same : edits_for patches ≡ edits = edits-for edits bytes (omega (arith, l.all-bytes)) in
      rw same at (right dump patches (rw same (ordered (length dump) edits bytes (apart (length dump) edits bytes l.good l.apart))) i)

  -- byte i of the result is the first of its run
  first : (i : ℕ) {run : Run} → run_at (length dump) edits i ≡ run → 0 < run_length run
      → (i < length new) × (get_or new i 0 ≡ get_or (run_bytes dump patches run) 0 0)
  first i {run} q h =
      let w : Right dump patches new i run = rw q at (right_listed i) in (
        omega (arith, w.fits),
        sym
            (ap (λ (l : List ℕ). get_or l 0 0) w.reads
            ∙ get_or-take (run_length run) (drop i new) 0 0 h
            ∙ get_or-drop i new 0 0
            ∙ ap (λ (j : ℕ). get_or new j 0) (add-zero i)),
      )

  -- past the result there is no run
  none : (i : ℕ) → run_at (length dump) edits i ≡ past → length new ≤ i
  none i q = go (side i (length new))
    where
      go : Side i (length new) → length new ≤ i
      go (under k e) = let w : Right dump patches new i past = rw q at (right_listed i) in absurd (omega (arith, w.some k))
      go (over k e) = k

  byte_some : (i : ℕ) {b : ℕ} → i < length new → get_or new i 0 ≡ b → gives b ≡ byte_of dump numbers bytes i
  unfolding byte_of
  byte_some i h e = rw passed (ap gives (sym e) ∙ nth_there new i h)

  byte_none : (i : ℕ) → length new ≤ i → refused 13 0 ≡ byte_of dump numbers bytes i
  unfolding byte_of
  byte_none i h = rw passed (nth_past new i h)

-- ---- from where the byte stands

-- byte j of a source is there, and is the answer
pub record Shows (dump numbers bytes : List ℕ) (i : ℕ) (source : List ℕ) (j : ℕ) : Type 0 where
  pub there : j < length source
  pub is : gives (get_or source j 0) ≡ byte_of dump numbers bytes i

module _ (dump numbers bytes : List ℕ) (i : ℕ) where
  abbrev checks : Verdict
  checks = list_check (length dump) (length bytes) numbers

  abbrev run_here : Run
  run_here = run_at (length dump) (edits_of numbers) i

  given : {place : Place} → placed (length dump) (length bytes) numbers i ≡ gives place → (checks ≡ pass) × (place_of (edits_of numbers) run_here ≡ gives place)
  unfolding placed
  given e = pass_both checks (place_of (edits_of numbers) run_here) e

  pub in-dump : {j : ℕ} → placed (length dump) (length bytes) numbers i ≡ gives (in_dump j) → Shows dump numbers bytes i dump j
  in-dump {j} e = go run_here refl (given e).1
    where
      go : (run : Run) → run_here ≡ run → place_of (edits_of numbers) run ≡ gives (in_dump j) → Shows dump numbers bytes i dump j
      go (of_dump k start end) q p =
          let same : start ≡ j = cc in
          let w : Right dump _ _ i (of_dump k start end) = rw q at (right_listed dump numbers bytes (given e).0 i) in
          let f = first dump numbers bytes (given e).0 i q (omega (arith, w.inside.0)) in
          record {
            there = omega (arith, w.inside.0, w.inside.1);
            is = byte_some dump numbers bytes (given e).0 i f.0 (f.1 ∙ slice_first start end dump w.inside.0 ∙ ap (λ (n : ℕ). get_or dump n 0) same);
          }
      go (of_edit k start end) q p = let z : ◌≡◌ {A = ℕ} 0 1 = cc in absurd (omega arith)
      go past q p = never_refused p

  pub in_bytes_lem : {j : ℕ} → placed (length dump) (length bytes) numbers i ≡ gives (in_bytes j) → Shows dump numbers bytes i bytes j
  in_bytes_lem {j} e = go run_here refl (given e).1
    where
      go : (run : Run) → run_here ≡ run → place_of (edits_of numbers) run ≡ gives (in_bytes j) → Shows dump numbers bytes i bytes j
      go (of_dump k start end) q p = let z : ◌≡◌ {A = ℕ} 0 1 = cc in absurd (omega arith)
      go (of_edit k start end) q p =
          let same : lengths (take k (edits_of numbers)) + start ≡ j = cc in
          let patches = patches_of (edits_of numbers) bytes in
          let w : Right dump patches _ i (of_edit k start end) = rw q at (right_listed dump numbers bytes (given e).0 i) in
          let f = first dump numbers bytes (given e).0 i q (omega (arith, w.inside.0)) in
          let l = lies (edits_of numbers) bytes k start (omega (arith, w.inside.0, w.inside.1)) in
          record {
            there = omega (arith, l.there);
            is =
                byte_some dump numbers bytes (given e).0 i f.0
                (f.1 ∙ slice_first start end (patch_at patches k).bytes w.inside.0 ∙ l.is ∙ ap (λ (n : ℕ). get_or bytes n 0) same);
          }
      go past q p = never_refused p

  pub not_placed : {n p : ℕ} → placed (length dump) (length bytes) numbers i ≡ refused n p → refused n p ≡ byte_of dump numbers bytes i
  unfolding placed byte_of
  not_placed {n} {p} e = go checks refl e
    where
      last : (run : Run) → run_here ≡ run → checks ≡ pass → place_of (edits_of numbers) run ≡ refused n p → refused n p ≡ byte_of dump numbers bytes i
      last (of_dump k start end) q c e = never_both e
      last (of_edit k start end) q c e = never_both e
      last past q c e =
          let number : n ≡ 13 = cc in
          let place : p ≡ 0 = cc in
          rw (number, place) (byte_none dump numbers bytes c i (none dump numbers bytes c i q))

      go : (v : Verdict) → checks ≡ v → v ▷ place_of (edits_of numbers) run_here ≡ refused n p → refused n p ≡ byte_of dump numbers bytes i
      go (gives u) c e = last run_here refl c e
      go (refused m q) c e = rw c cc

-- ---- of a message

module _ (words : List ℕ) (len : ℕ) (numbers bytes : List ℕ) (i : ℕ) where
  pub message_is : {size : ℕ} → Accepted words len size → byte_of (payload_of sysex8 words len) numbers bytes i ≡ byte_of_message sysex8 words len numbers bytes i
  unfolding byte_of_message
  message_is ok = rw ok.passes

  pub message_refused : {n p : ℕ} → check sysex8 words len ≡ refused n p → refused n p ≡ byte_of_message sysex8 words len numbers bytes i
  unfolding byte_of_message
  message_refused e = rw e
