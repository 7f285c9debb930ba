-- Sizes of data and of edits, record by record, and of dumps along the walk. Assumes nothing.
use mathlib.Core.Path.{◌≡◌, refl, sym, ap, ◌∙◌}
use mathlib.Core.Bool.{true, false, ◌||◌}
use mathlib.Core.List.{List, ◌++◌}
use Prim.Native.Nat.{ℕ, suc, ◌+◌, ◌-◌, ◌≤◌}
use native.Mathlib.Omega.{arith}
use lib.Dec.{ltb}
use lib.ListN.{length, get_or, take, drop, length-append, length-take, length-drop}
use lib.Seq.{length-take-le, slice, length-slice}
use borrow.Author.Tests.{ltb-false}
use Rattle.ump.specs.Word.{pair_at}
use Rattle.ump.specs.Edits.{Patch, replaced}
use Rattle.store.specs.Store.{is_edit, is_data, body_size, data_in, patches_in}
use Rattle.store.specs.Places.{record_at, next_at, records_from}
use Rattle.store.specs.Places.{Ordered}
use Rattle.store.proofs.Parts.{edit_inside, data_step, data_stop, patches_data, patches_edit, patches_stop}
use Rattle.chain.specs.Restore.{outside}
use Rattle.chain.specs.Laying.{Past, DataSized, Becomes}
use Rattle.chain.specs.declared.edits.Reached.{Reached}
use Rattle.chain.proofs.Outside.{or_false}
use Rattle.ump.proofs.Replay.{replay, replaced_is}

-- ---- data

-- the data from a place on: some of it counted, the rest still to come
pub record Counting (store : List ℕ) (at place size : ℕ) : Type 0 where
  pub bytes : size + length (data_in (records_from store place)) ≡ length (data_in (records_from store at))
  pub rest : patches_in (records_from store place) ≡ patches_in (records_from store at)
  pub fewer : at + size ≤ place
  pub inside : size ≤ length store - at

pub counting_none : (store : List ℕ) (at : ℕ) → Counting store at at 0
counting_none store at = record { bytes = omega arith; rest = refl; fewer = omega arith; inside = omega arith }

pub counting_more : {store : List ℕ} {at place size : ℕ} → Counting store at place size → is_data (get_or store place 0) ≡ true
    → (count : ℕ) {next : ℕ} → take count (drop (place + 1) store) ≡ (record_at store place).body → place + 1 + count ≤ length store → next ≡ next_at store place
    → Counting store at next (size + count)
counting_more {store} {at} {place} {size} l d count {next} b k q =
    let long : length (record_at store place).body ≡ count = ap length (sym b) ∙ length-take-le count (drop (place + 1) store) (rw length-drop (omega arith)) in
    let small : count ≤ body_size (get_or store place 0) = omega (arith, long, length-take (body_size (get_or store place 0)) (drop (suc place) store)) in
    let step = ap length (data_step store place d) ∙ length-append (record_at store place).body (data_in (records_from store (next_at store place))) in
    let same = ap (λ (n : ℕ). length (data_in (records_from store n))) q in
    record {
      bytes = omega (arith, l.bytes, long, step, same);
      rest = ap (λ (n : ℕ). patches_in (records_from store n)) q ∙ sym (patches_data store place d) ∙ l.rest;
      fewer = omega (arith, l.fewer, q, small);
      inside = omega (arith, l.fewer, k);
    }

pub counting_end : {store : List ℕ} {at : ℕ} {reached : Reached} → Counting store at reached.at reached.size → is_data (get_or store reached.at 0) ≡ false
    → DataSized store at reached
counting_end {store} {at} {reached} l d =
    record {
      size = omega (arith, l.bytes, ap length (data_stop store reached.at d));
      past = record { rest = l.rest; stops = d; on = omega (arith, l.fewer) };
      fewer = l.fewer;
      inside = l.inside;
    }

-- ---- edits

-- a base of so many bytes with the edits before a place put in, and how many bytes are still to come
pub record Putting (store : List ℕ) (at size place end done : ℕ) : Type 0 where
  pub good : outside size (patches_in (records_from store place)) ≡ false
  pub ordered : Ordered end (patches_in (records_from store place))
  pub stops : is_data (get_or store place 0) ≡ false
  pub inside : end ≤ size
  pub fewer : done ≤ end + place
  pub bounded : done ≤ end + length store
  pub length_is : (bytes : List ℕ) → length bytes ≡ size
      → done + length (replay bytes end (patches_in (records_from store place))) ≡ length (replaced bytes (patches_in (records_from store at)))

pub putting_start : (store : List ℕ) (at size : ℕ) {place : ℕ} → outside size (patches_in (records_from store at)) ≡ false
    → Ordered 0 (patches_in (records_from store at)) → Past store at place → Putting store at size place 0 0
putting_start store at size {place} o r p =
    record {
      good = ap (outside size) p.rest ∙ o;
      ordered = rw p.rest r;
      stops = p.stops;
      inside = omega arith;
      fewer = omega arith;
      bounded = omega arith;
      length_is = λ bytes e. omega (arith, ap length (ap (replay bytes 0) p.rest ∙ sym (replaced_is bytes (patches_in (records_from store at)))));
    }

module _ {store : List ℕ} {at size place end done : ℕ} (l : Putting store at size place end done) where
  module _ (e : is_edit (get_or store place 0) ≡ true) where
    abbrev from : ℕ
    from = pair_at store (place + 1)

    abbrev to : ℕ
    to = pair_at store (place + 3)

    abbrev next : ℕ
    next = next_at store place

    record Edit : Type 0 where
      pub early : end ≤ from
      pub forward : from ≤ to
      pub within : to ≤ size
      pub rest : outside size (patches_in (records_from store next)) ≡ false
      pub ordered : Ordered to (patches_in (records_from store next))

    here : Edit
    unfolding outside
    here =
        let g = rw (patches_edit store place e) at l.good in
        let a = or_false (ltb to from || ltb size to) (outside size (patches_in (records_from store next))) g in
        let b = or_false (ltb to from) (ltb size to) a.0 in
        let o = rw (patches_edit store place e) at l.ordered in
        record { early = o.0; forward = ltb-false to from b.0; within = ltb-false size to b.1; rest = a.1; ordered = o.1 }

    pub edit_early : end ≤ from
    edit_early = here.early

    pub putting_more : {reached : Reached} → DataSized store next reached → {m k : ℕ} → m ≡ from → k ≡ to
        → Putting store at size reached.at k (done + (m - end + reached.size))
    unfolding replay
    putting_more {reached} r {m} {k} q p =
        record {
          good = ap (outside size) r.past.rest ∙ here.rest;
          ordered = rw (p, r.past.rest) here.ordered;
          stops = r.past.stops;
          inside = omega (arith, p, here.within);
          fewer = omega (arith, l.fewer, r.fewer, p, q, here.early, here.forward);
          bounded = omega (arith, l.fewer, r.inside, p, q, here.early, here.forward, edit_inside store place e);
          length_is = λ bytes s.
              let step = l.length_is bytes s in
              let one = ap (λ (ps : List Patch). length (replay bytes end ps)) (patches_edit store place e)
              ∙ length-append (slice end from bytes) (data_in (records_from store next) ++ replay bytes to (patches_in (records_from store next))) in
              let two = length-append (data_in (records_from store next)) (replay bytes to (patches_in (records_from store next))) in
              let gap = length-slice end from bytes (omega (arith, s, here.forward, here.within)) in
              let rest = ap (λ (ps : List Patch). length (replay bytes k ps)) r.past.rest
              ∙ ap (λ (n : ℕ). length (replay bytes n (patches_in (records_from store next)))) p in
              omega (arith, step, one, two, gap, rest, q, r.size, here.early);
        }

  pub putting_end : is_edit (get_or store place 0) ≡ false → Becomes size (patches_in (records_from store at)) (done + (size - end))
  unfolding replay
  putting_end e =
      record {
        is = λ bytes s.
            let last = ap (λ (ps : List Patch). length (replay bytes end ps)) (patches_stop store place e l.stops) ∙ length-drop end bytes in
            omega (arith, l.length_is bytes s, last, s);
      }
