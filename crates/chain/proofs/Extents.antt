-- What a dump measures, from its base up. Assumes nothing.
use Rattle.std.specs.Prelude.{Option, None, Some, Result, Ok, Err}
use mathlib.Core.Path.{◌≡◌, refl, sym, ap, ◌∙◌}
use mathlib.Core.Bool.{true, false}
use mathlib.Core.List.{List, [], ◌∷◌}
use Prim.Native.Nat.{ℕ, zero, suc, ◌+◌, ◌-◌, ◌≤◌, max}
use native.Mathlib.Omega.{arith}
use lib.ListN.{length, get_or}
use Rattle.refusal.specs.Answer.{Answer, gives, refused}
use Rattle.refusal.specs.Number.{number_of}
use Rattle.refusal.specs.declared.Refusal.{Refusal}
use Rattle.refusal.specs.declared.Refusal.TheVariants.{Range}
use Rattle.ump.specs.Word.{pair_at}
use Rattle.ump.specs.Edits.{Patch, replaced}
use Rattle.store.specs.Store.{is_whole, is_dump, Dump, patches_in, dumps_of, held}
use Rattle.store.specs.Places.{next_at, records_from, dump_at}
use Rattle.chain.specs.Walk.{base_of, from_base}
use Rattle.chain.specs.Restore.{Payload, roomed, outside, rebuilt, restored, unlimited, payload_size, sizes, largest}
use Rattle.chain.specs.Laying.{whole_at, MeasureOf, Measures, MeasuresWhole, DeltaMeasure, MeasuresDelta}
use Rattle.chain.specs.declared.measuring.Extent.{Extent}
use Rattle.chain.proofs.Steps.{whole_base, delta_base, step_whole, step_gives}

-- ---- by cases

pub measures_refused : {ds : List Dump} {left n : ℕ} (refusal : Refusal) → restored unlimited ds left n ≡ refused (number_of refusal) 0
    → Measures ds left n (Err refusal)
measures_refused refusal e =
    record {
      dump = λ m q. let z : ◌≡◌ {A = ℕ} 0 1 = cc in absurd (omega arith);
      refuses = λ other q. let same : refusal ≡ other = cc in e ∙ ap (λ (r : Refusal). refused (number_of r) 0) same;
    }

pub measures_dump : {ds : List Dump} {left n : ℕ} {m : Extent} → MeasureOf ds left n m → Measures ds left n (Ok m)
measures_dump {m = m} e =
    record {
      dump = λ other q. let same : m ≡ other = cc in rw same at e;
      refuses = λ refusal q. let z : ◌≡◌ {A = ℕ} 0 1 = cc in absurd (omega arith);
    }

module _ (patches : List Patch) (base : Extent) where
  pub delta_refused : outside base.size patches ≡ true → MeasuresDelta patches base (Err Range)
  delta_refused e =
      record {
        dump = λ m q. let z : ◌≡◌ {A = ℕ} 0 1 = cc in absurd (omega arith);
        refuses = λ refusal q. let same : Range ≡ refusal = cc in (ap number_of (sym same), e);
      }

  pub delta_measured : {m : Extent} → DeltaMeasure patches base m → MeasuresDelta patches base (Ok m)
  delta_measured {m} d =
      record {
        dump = λ other q. let same : m ≡ other = cc in rw same at d;
        refuses = λ refusal q. let z : ◌≡◌ {A = ℕ} 0 1 = cc in absurd (omega arith);
      }

-- ---- one step of the walk

sizes_step : (ds : List Dump) (left n : ℕ) → (left ≡ 0 → ⊥)
    → sizes ds left n ≡ payload_size (restored unlimited ds left n) ∷ from_base [] (λ base. sizes ds (left - 1) base) (base_of (held ds n))
unfolding sizes
sizes_step ds zero n h = absurd (h refl)
sizes_step ds (suc left) n h = let q : suc left - 1 ≡ left = omega arith in rw q

module _ (store : List ℕ) (left n : ℕ) (h : left ≡ 0 → ⊥) (at : ℕ) (d : is_dump (get_or store at 0) ≡ true)
    (q : Some (dump_at store at) ≡ held (dumps_of store) n) where
  pub extent_whole : is_whole (get_or store at 0) ≡ true → {m : Extent} → MeasuresWhole store at m → MeasureOf (dumps_of store) left n m
  unfolding roomed
  extent_whole e {m} w =
      let is : restored unlimited (dumps_of store) left n ≡ gives (whole_at store at) = sym (step_whole unlimited store left n h at d q e) in
      let none_below : base_of (held (dumps_of store) n) ≡ None = ap base_of (sym q) ∙ whole_base store at d e in
      let list : sizes (dumps_of store) left n ≡ length (whole_at store at).bytes ∷ [] = sizes_step (dumps_of store) left n h
      ∙ ap (λ (a : Answer Payload). payload_size a ∷ from_base [] (λ base. sizes (dumps_of store) (left - 1) base) (base_of (held (dumps_of store) n))) is
      ∙ ap (λ (o : Option ℕ). length (whole_at store at).bytes ∷ from_base [] (λ base. sizes (dumps_of store) (left - 1) base) o) none_below in
      record {
        payload = whole_at store at;
        is = is;
        group = w.group;
        id = w.id;
        size = w.size;
        largest_is = omega (arith, w.largest_is, w.size, ap largest list);
        steps = omega (arith, w.steps, ap length list);
      }

  module _ (e : is_whole (get_or store at 0) ≡ false) {number : ℕ} (w : number ≡ pair_at store (at + 3)) {below : Extent}
      (b : MeasureOf (dumps_of store) (left - 1) number below) where
    abbrev patches : List Patch
    patches = patches_in (records_from store (next_at store at))

    above : rebuilt unlimited patches (gives b.payload) ≡ restored unlimited (dumps_of store) left n
    above = step_gives unlimited store left n h at d q e w b.is

    pub extent_refused : (refusal : Refusal) → number_of refusal ≡ 13 → outside below.size patches ≡ true
        → restored unlimited (dumps_of store) left n ≡ refused (number_of refusal) 0
    unfolding rebuilt
    extent_refused refusal r o = sym above ∙ rw (sym b.size, o, r)

    pub extent_delta : {m : Extent} → DeltaMeasure patches below m → MeasureOf (dumps_of store) left n m
    unfolding rebuilt roomed
    extent_delta {m} f =
        let bytes = replaced b.payload.bytes patches in
        let good : outside (length b.payload.bytes) patches ≡ false = rw (sym b.size) f.good in
        let payload : Payload = record { group = b.payload.group; id = b.payload.id; bytes = bytes } in
        let is : restored unlimited (dumps_of store) left n ≡ gives payload = sym above ∙ rw good in
        let size : m.size ≡ length bytes = f.size.is b.payload.bytes (sym b.size) in
        let list : sizes (dumps_of store) left n ≡ length bytes ∷ sizes (dumps_of store) (left - 1) number = sizes_step (dumps_of store) left n h
        ∙ ap (λ (a : Answer Payload). payload_size a ∷ from_base [] (λ base. sizes (dumps_of store) (left - 1) base) (base_of (held (dumps_of store) n))) is
        ∙ ap (λ (o : Option ℕ). length bytes ∷ from_base [] (λ base. sizes (dumps_of store) (left - 1) base) o)
        (ap base_of (sym q) ∙ delta_base store at d e ∙ ap Some (sym w)) in
        record {
          payload = payload;
          is = is;
          group = f.group ∙ b.group;
          id = f.id ∙ b.id;
          size = size;
          largest_is = f.largest_is ∙ ap (λ (k : ℕ). max k below.largest) size ∙ ap (max (length bytes)) b.largest_is ∙ sym (ap largest list);
          steps = omega (arith, f.steps, b.steps, ap length list);
        }

    pub extent_measures : {r : (Result Extent Refusal)} → MeasuresDelta patches below r → Measures (dumps_of store) left n r
    extent_measures f =
        record {
          dump = λ m g. extent_delta (f.dump m g);
          refuses = λ refusal g. let o = f.refuses refusal g in extent_refused refusal o.0 o.1;
        }

-- no more dumps are passed than the count allows
pub sizes_few : (ds : List Dump) (left n : ℕ) → length (sizes ds left n) ≤ left
unfolding sizes
sizes_few ds zero n = omega arith
sizes_few ds (suc left) n = go (λ b. sizes_few ds left b) (base_of (held ds n))
  where
    go : ((b : ℕ) → length (sizes ds left b) ≤ left) → (o : Option ℕ) → suc (length (from_base [] (λ base. sizes ds left base) o)) ≤ suc left
    go more None = omega arith
    go more (Some base) = omega (arith, more base)
