-- A base with the edits of a delta put in, edit by edit. Assumes nothing.
use Rattle.std.specs.Prelude.{Option, Some, None}
use mathlib.Core.Path.{◌≡◌, refl, sym, ap, ◌∙◌}
use mathlib.Core.Bool.{true, false, ◌||◌}
use mathlib.Core.List.{List, ◌++◌, append_assoc}
use Prim.Native.Nat.{ℕ, ◌+◌, ◌-◌, ◌≤◌, ◌<◌}
use native.Mathlib.Omega.{arith}
use lib.Dec.{ltb}
use lib.ListN.{length, get_or, take, drop, length-append, length-drop}
use lib.Seq.{paste, take-paste, length-paste, length-take-le, take-add, take-take, drop_at, slice, length-slice}
use borrow.Author.Tests.{ltb-false}
use Rattle.ump.specs.Word.{pair_at}
use Rattle.ump.specs.Edits.{Patch, replaced}
use Rattle.store.specs.Store.{is_edit, is_data, data_in, patches_in}
use Rattle.store.specs.Places.{next_at, records_from}
use Rattle.store.proofs.Parts.{patches_edit, patches_stop}
use Rattle.chain.specs.Restore.{outside}
use Rattle.chain.specs.declared.edits.Reached.{Reached}
use Rattle.chain.proofs.Outside.{or_false}
use Rattle.ump.proofs.Replay.{replay, replaced_is}
use Rattle.restore.specs.Laying.{Copied, Ran, Filling}

-- ---- by cases

module _ {store : List ℕ} {at : ℕ} {bytes before after : List ℕ} where
  pub over_ran : length before < length bytes → Ran store at bytes before None after
  over_ran h = record { done = λ reached q. let z : ◌≡◌ {A = ℕ} 0 1 = cc in absurd (omega arith); over = λ q. h }

  pub done_ran : {reached : Reached} → Copied store at bytes reached after → Ran store at bytes before (Some reached) after
  done_ran {reached} c =
      record {
        done = λ reached' q. let same : reached ≡ reached' = cc in rw same at c;
        over = λ q. let z : ◌≡◌ {A = ℕ} 0 1 = cc in absurd (omega arith);
      }

module _ {bytes before after : List ℕ} where
  pub over_filling : length before < length bytes → Filling bytes before None after
  over_filling h = record { sized = λ size q. let z : ◌≡◌ {A = ℕ} 0 1 = cc in absurd (omega arith); over = λ q. h }

  pub done_filling : {size : ℕ} → size ≤ length after → take size after ≡ bytes → Filling bytes before (Some size) after
  done_filling {size} h e =
      record {
        sized = λ size' q. let same : size ≡ size' = cc in (omega arith, ap (λ (n : ℕ). take n after) (sym same) ∙ e);
        over = λ q. let z : ◌≡◌ {A = ℕ} 0 1 = cc in absurd (omega arith);
      }

-- ---- a part of a base

take_of_drop : (e f : ℕ) (l : List ℕ) → e ≤ f → f ≤ length l → take (f - e) (drop e l) ≡ slice e f l
take_of_drop e f l h k =
    let q : e + (f - e) ≡ f = omega arith in
    sym (drop_at (take e l) (take (f - e) (drop e l)) e (length-take-le e l (omega arith)))
    ∙ ap (λ (x : List ℕ). drop e x) (sym (take-add e (f - e) l))
    ∙ ap (λ (n : ℕ). slice e n l) q

module _ (base : List ℕ) (end from : ℕ) (h : from ≤ length base) (to : List ℕ) (done : ℕ) (k : done ≤ length to) where
  part_long : length (take done to ++ slice end from base) ≡ done + (from - end)
  part_long = length-append (take done to) (slice end from base) ∙ ap (λ (n : ℕ). n + length (slice end from base)) (length-take-le done to k) ∙ ap (λ (n : ℕ). done + n) (length-slice end from base h)

  pub part_done : {after : List ℕ} → end < from → from - end ≤ length to - done → after ≡ paste to done (drop end base) (from - end)
      → Filling (take done to ++ slice end from base) to (Some (done + (from - end))) after
  part_done {after} e r p =
      let c : from - end ≤ length (drop end base) = rw length-drop (omega arith) in
      let long = ap length p ∙ length-paste to done (drop end base) (from - end) (omega arith) c in
      done_filling (omega (arith, long))
      (ap (take (done + (from - end))) p ∙ take-paste to done (drop end base) (from - end) k c
      ∙ ap (λ (l : List ℕ). take done to ++ l) (take_of_drop end from base (omega arith) h))

-- ---- the same bytes, the same room

module _ {bytes bytes' before before' after : List ℕ} (e : bytes ≡ bytes') (l : length before ≡ length before') where
  pub filling_as : {r : (Option ℕ)} → Filling bytes before r after → Filling bytes' before' r after
  filling_as f =
      record {
        sized = λ size q. ((f.sized size q).0, (f.sized size q).1 ∙ e);
        over = λ q. omega (arith, ap length e, l, f.over q);
      }

  pub ran_as : {store : List ℕ} {at : ℕ} {r : (Option Reached)} → Ran store at bytes before r after → Ran store at bytes' before' r after
  ran_as f =
      record {
        done = λ reached q. let c = f.done reached q in record { fits = c.fits; laid = c.laid ∙ e; past = c.past };
        over = λ q. omega (arith, ap length e, l, f.over q);
      }

-- ---- one edit after the other

pub record Replaying (store : List ℕ) (at : ℕ) (base : List ℕ) (size : ℕ) (before : List ℕ) (place end done : ℕ) (now : List ℕ) : Type 0 where
  pub long : length now ≡ length before
  pub fits : done ≤ length before
  pub good : outside size (patches_in (records_from store place)) ≡ false
  pub stops : is_data (get_or store place 0) ≡ false
  pub bytes : take done now ++ replay (take size base) end (patches_in (records_from store place)) ≡ replaced (take size base) (patches_in (records_from store at))

pub replaying_start : (store : List ℕ) (at : ℕ) (base : List ℕ) (size : ℕ) (before : List ℕ) {place : ℕ} → outside size (patches_in (records_from store at)) ≡ false
    → patches_in (records_from store place) ≡ patches_in (records_from store at) → is_data (get_or store place 0) ≡ false → Replaying store at base size before place 0 0 before
replaying_start store at base size before {place} o p d =
    record {
      long = refl;
      fits = omega arith;
      good = ap (outside size) p ∙ o;
      stops = d;
      bytes = ap (λ (ps : List Patch). replay (take size base) 0 ps) p ∙ sym (replaced_is (take size base) (patches_in (records_from store at)));
    }

module _ {store : List ℕ} {at : ℕ} {base : List ℕ} {size : ℕ} {before : List ℕ} {place end done : ℕ} {now : List ℕ}
    (l : Replaying store at base size before place end done now) where
  module _ (e : is_edit (get_or store place 0) ≡ true) (k : size ≤ length base) where
    abbrev from : ℕ
    from = pair_at store (place + 1)

    abbrev to : ℕ
    to = pair_at store (place + 3)

    abbrev next : ℕ
    next = next_at store place

    sound : ((to < from → ⊥) × (size < to → ⊥)) × (outside size (patches_in (records_from store next)) ≡ false)
    unfolding outside
    sound =
        let g = rw (patches_edit store place e) at l.good in
        let a = or_false (ltb to from || ltb size to) (outside size (patches_in (records_from store next))) g in
        let b = or_false (ltb to from) (ltb size to) a.0 in
        (((λ h. omega (arith, ltb-false to from b.0)), (λ h. omega (arith, ltb-false size to b.1))), a.1)

    pub edit_from : from ≤ size
    edit_from = let s = sound.0 in omega (arith, s.0, s.1)

    same-part : slice end from base ≡ slice end from (take size base)
    same-part = ap (λ (x : List ℕ). drop end x) (sym (take-take from size base edit_from))

    whole : ((take done now ++ slice end from base) ++ data_in (records_from store next)) ++ replay (take size base) to (patches_in (records_from store next))
        ≡ replaced (take size base) (patches_in (records_from store at))
    unfolding replay
    whole =
        append_assoc (take done now ++ slice end from base) (data_in (records_from store next)) (replay (take size base) to (patches_in (records_from store next)))
        ∙ append_assoc (take done now) (slice end from base) (data_in (records_from store next) ++ replay (take size base) to (patches_in (records_from store next)))
        ∙ ap (λ (x : List ℕ). take done now ++ (x ++ (data_in (records_from store next) ++ replay (take size base) to (patches_in (records_from store next))))) same-part
        ∙ ap (λ (ps : List Patch). take done now ++ replay (take size base) end ps) (sym (patches_edit store place e))
        ∙ l.bytes

    pub replaying_over : length now < length ((take done now ++ slice end from base) ++ data_in (records_from store next))
        → length before < length (replaced (take size base) (patches_in (records_from store at)))
    replaying_over o =
        let x = (take done now ++ slice end from base) ++ data_in (records_from store next) in
        let w = sym (length-append x (replay (take size base) to (patches_in (records_from store next)))) ∙ ap length whole in
        omega (arith, w, l.long, o)

    pub replaying_more : {reached : Reached} {after : List ℕ} → length after ≡ length now
        → Copied store next ((take done now ++ slice end from base) ++ data_in (records_from store next)) reached after
        → Replaying store at base size before reached.at to reached.size after
    replaying_more {reached} {after} kept c =
        record {
          long = kept ∙ l.long;
          fits = omega (arith, c.fits, kept, l.long);
          good = ap (outside size) c.past.rest ∙ sound.1;
          stops = c.past.stops;
          bytes =
              ap (λ (x : List ℕ). x ++ replay (take size base) to (patches_in (records_from store reached.at))) c.laid
              ∙ ap (λ (ps : List Patch). ((take done now ++ slice end from base) ++ data_in (records_from store next)) ++ replay (take size base) to ps) c.past.rest
              ∙ whole;
        }

  pub replaying_end : is_edit (get_or store place 0) ≡ false → take done now ++ slice end size base ≡ replaced (take size base) (patches_in (records_from store at))
  unfolding replay
  replaying_end e = ap (λ (ps : List Patch). take done now ++ replay (take size base) end ps) (sym (patches_stop store place e l.stops)) ∙ l.bytes
