-- A byte of a base with the edits of a delta put in, edit by edit. Assumes nothing.
use mathlib.Core.Path.{◌≡◌, sym, ap, ◌∙◌}
use mathlib.Core.Bool.{true, false, ◌||◌}
use mathlib.Core.List.{List, ◌++◌}
use Prim.Native.Nat.{ℕ, ◌+◌, ◌-◌, ◌≤◌, ◌<◌}
use native.Mathlib.Omega.{arith}
use lib.Dec.{ltb}
use lib.ListN.{length, get_or, take, length-append, length-drop, get_or-append}
use lib.Seq.{slice, length-slice, get_or-take, get_or-drop}
use borrow.Author.Tests.{ltb-false}
use Rattle.ump.specs.Word.{pair_at}
use Rattle.ump.specs.Edits.{Patch, replaced}
use Rattle.ump.proofs.Replay.{replay, replaced_is}
use Rattle.store.specs.Store.{is_edit, is_data, data_in, patches_in}
use Rattle.store.specs.Places.{next_at, records_from, Ordered}
use Rattle.store.proofs.Parts.{patches_edit, patches_stop}
use Rattle.chain.specs.Restore.{outside}
use Rattle.chain.specs.Laying.{Past, DataSized}
use Rattle.chain.specs.declared.edits.Reached.{Reached}
use Rattle.chain.proofs.Outside.{or_false}
use Rattle.look_store.specs.Looking.{BaseByte, EditByte, ComesFrom}
use Rattle.look_store.specs.declared.looking.Source.TheVariants as source
use Rattle.look_store.proofs.Data.{append_behind}

-- ---- by cases

module _ {patches : List Patch} {i : ℕ} where
  pub from-base : {j : ℕ} → BaseByte patches i j → ComesFrom patches i (source.Base j)
  from-base {j} f =
      record {
        base = λ j' q. let same : j ≡ j' = cc in rw same at f;
        edit = λ value q. let z : ◌≡◌ {A = ℕ} 0 1 = cc in absurd (omega arith);
      }

  pub from_edit : {value : ℕ} → EditByte patches i value → ComesFrom patches i (source.Edit value)
  from_edit {value} f =
      record {
        base = λ j q. let z : ◌≡◌ {A = ℕ} 0 1 = cc in absurd (omega arith);
        edit = λ value' q. let same : value ≡ value' = cc in rw same at f;
      }

-- ---- one edit after the other

-- byte i of the result is byte `left` of what the edits from a place on make of a base from `end` on
pub record Behind (bytes : List ℕ) (all : List Patch) (i end : ℕ) (patches : List Patch) (left : ℕ) : Type 0 where
  pub good : outside (length bytes) patches ≡ false
  pub byte : get_or (replaced bytes all) i 0 ≡ get_or (replay bytes end patches) left 0
  pub inside : i < length (replaced bytes all) → left < length (replay bytes end patches)

pub record Passing (store : List ℕ) (at i place end left : ℕ) : Type 0 where
  pub ordered : Ordered end (patches_in (records_from store place))
  pub stops : is_data (get_or store place 0) ≡ false
  pub low : end < 65536
  pub fewer : left ≤ i
  pub bytes : (bytes : List ℕ) → outside (length bytes) (patches_in (records_from store at)) ≡ false
      → Behind bytes (patches_in (records_from store at)) i end (patches_in (records_from store place)) left

pub passing_start : (store : List ℕ) (at i : ℕ) {place : ℕ} → Ordered 0 (patches_in (records_from store at)) → Past store at place
    → Passing store at i place 0 i
passing_start store at i {place} o p =
    record {
      ordered = rw p.rest o;
      stops = p.stops;
      low = omega arith;
      fewer = omega arith;
      bytes = λ bytes g.
          let same : replaced bytes (patches_in (records_from store at)) ≡ replay bytes 0 (patches_in (records_from store place)) =
          replaced_is bytes (patches_in (records_from store at)) ∙ ap (replay bytes 0) (sym p.rest)
          in
          record {
            good = ap (outside (length bytes)) p.rest ∙ g;
            byte = ap (λ (l : List ℕ). get_or l i 0) same;
            inside = λ h. omega (arith, h, ap length same);
          };
    }

module _ {store : List ℕ} {at i place end left : ℕ} (l : Passing store at i place end left) where
  abbrev all : List Patch
  all = patches_in (records_from store at)

  module _ (e : is_edit (get_or store place 0) ≡ true) where
    abbrev from : ℕ
    from = pair_at store (place + 1)

    abbrev to : ℕ
    to = pair_at store (place + 3)

    abbrev next : ℕ
    next = next_at store place

    abbrev own : List ℕ
    own = data_in (records_from store next)

    abbrev later : List Patch
    later = patches_in (records_from store next)

    order : (end ≤ from) × Ordered to later
    order = rw (patches_edit store place e) at l.ordered

    pub edit_early : end ≤ from
    edit_early = order.0

    module _ (bytes : List ℕ) (g : outside (length bytes) all ≡ false) where
      record Edit : Type 0 where
        pub forward : from ≤ to
        pub within : to ≤ length bytes
        pub rest : outside (length bytes) later ≡ false

      here : Edit
      unfolding outside
      here =
          let h = rw (patches_edit store place e) at (l.bytes bytes g).good in
          let a = or_false (ltb to from || ltb (length bytes) to) (outside (length bytes) later) h in
          let b = or_false (ltb to from) (ltb (length bytes) to) a.0 in
          record { forward = ltb-false to from b.0; within = ltb-false (length bytes) to b.1; rest = a.1 }

      abbrev before : List ℕ
      before = slice end from bytes

      abbrev after : List ℕ
      after = replay bytes to later

      unrolled : replay bytes end (patches_in (records_from store place)) ≡ before ++ (own ++ after)
      unfolding replay
      unrolled = ap (replay bytes end) (patches_edit store place e)

      before_long : length before ≡ from - end
      before_long = length-slice end from bytes (omega (arith, here.forward, here.within))

      -- in the bytes before the edit, or behind them
      first : get_or (replaced bytes all) i 0 ≡ get_or (before ++ (own ++ after)) left 0
      first = (l.bytes bytes g).byte ∙ ap (λ (x : List ℕ). get_or x left 0) unrolled

      second : from - end ≤ left → get_or (replaced bytes all) i 0 ≡ get_or (own ++ after) (left - (from - end)) 0
      second h =
          first
          ∙ append_behind before (own ++ after) left (omega (arith, before_long))
          ∙ ap (λ (n : ℕ). get_or (own ++ after) (left - n) 0) before_long

    module _ {m : ℕ} (q : m ≡ from) where
      pub passing_gap : left < m - end → BaseByte all i (end + left)
      passing_gap h =
          record {
            byte = λ bytes g.
                first bytes g
                ∙ get_or-append (before bytes g) (own ++ after bytes g) 0 left (omega (arith, h, q, before_long bytes g))
                ∙ get_or-drop end (take from bytes) left 0
                ∙ get_or-take from bytes (end + left) 0 (omega (arith, h, q));
            inside = λ bytes g k. omega (arith, h, q, (here bytes g).forward, (here bytes g).within);
          }

      pub passing_data : m - end ≤ left → {place' value : ℕ} → place' ≡ next → left - (m - end) < length own
          → value ≡ get_or (data_in (records_from store place')) (left - (m - end)) 0 → EditByte all i value
      passing_data h {place'} {value} p k v =
          record {
            byte = λ bytes g.
                let s : m - end ≡ from - end = omega (arith, q) in
                second bytes g (omega (arith, h, q))
                ∙ get_or-append own (after bytes g) 0 (left - (from - end)) (omega (arith, k, q))
                ∙ ap (λ (n : ℕ). get_or own (left - n) 0) (sym s)
                ∙ ap (λ (n : ℕ). get_or (data_in (records_from store n)) (left - (m - end)) 0) (sym p)
                ∙ sym v;
          }

      pub passing_more : m - end ≤ left → {reached : Reached} → DataSized store next reached → reached.size ≤ left - (m - end)
          → {k : ℕ} → k ≡ to → k < 65536 → Passing store at i reached.at k (left - (m - end) - reached.size)
      passing_more h {reached} r b {k} p low =
          record {
            ordered = rw (p, r.past.rest) order.1;
            stops = r.past.stops;
            low = low;
            fewer = omega (arith, l.fewer);
            bytes = λ bytes g.
                let same : after bytes g ≡ replay bytes k (patches_in (records_from store reached.at)) =
                ap (λ (n : ℕ). replay bytes n later) (sym p) ∙ ap (replay bytes k) (sym r.past.rest)
                in
                let at_last : left - (from - end) - length own ≡ left - (m - end) - reached.size = omega (arith, q, r.size) in
                record {
                  good = ap (outside (length bytes)) r.past.rest ∙ (here bytes g).rest;
                  byte =
                      second bytes g (omega (arith, h, q))
                      ∙ append_behind own (after bytes g) (left - (from - end)) (omega (arith, b, q, r.size))
                      ∙ ap (λ (n : ℕ). get_or (after bytes g) n 0) at_last
                      ∙ ap (λ (x : List ℕ). get_or x (left - (m - end) - reached.size) 0) same;
                  inside = λ f.
                      let long = ap length (unrolled bytes g) ∙ length-append (before bytes g) (own ++ after bytes g) in
                      omega (
                        arith,
                        (l.bytes bytes g).inside f,
                        long,
                        length-append own (after bytes g),
                        before_long bytes g,
                        ap length same,
                        h,
                        b,
                        q,
                        r.size,
                      );
                };
          }

  -- behind all edits
  pub passing_end : is_edit (get_or store place 0) ≡ false → BaseByte all i (end + left)
  unfolding replay
  passing_end e =
      let none = patches_stop store place e l.stops in
      record {
        byte = λ bytes g.
            (l.bytes bytes g).byte ∙ ap (λ (ps : List Patch). get_or (replay bytes end ps) left 0) none ∙ get_or-drop end bytes left 0;
        inside = λ bytes g h.
            let long = ap (λ (ps : List Patch). length (replay bytes end ps)) none ∙ length-drop end bytes in
            omega (arith, (l.bytes bytes g).inside h, long);
      }
