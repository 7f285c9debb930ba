-- Data laid out, record by record. Assumes nothing.
use mathlib.Core.Path.{◌≡◌, refl, sym, ap, ◌∙◌}
use mathlib.Core.Bool.{true, false}
use mathlib.Core.List.{List, ◌++◌, append_assoc, append-nil}
use Prim.Native.Nat.{ℕ, ◌+◌, ◌-◌, ◌≤◌, ◌<◌}
use native.Mathlib.Omega.{arith}
use lib.ListN.{length, get_or, take, drop, length-drop, length-append}
use lib.Seq.{paste, take-paste, length-paste, length-take-le}
use Rattle.store.specs.Store.{is_data, data_in, patches_in}
use Rattle.store.specs.Places.{record_at, next_at, records_from}
use Rattle.restore.specs.Laying.{Copied}
use Rattle.chain.specs.declared.edits.Reached.{Reached}
use Rattle.store.proofs.Parts.{data_step, data_stop, patches_data}

-- ---- data laid out

-- the data from a place on: some of it laid out, the rest still to come
pub record Laying (store : List ℕ) (at done : ℕ) (before : List ℕ) (place size : ℕ) (now : List ℕ) : Type 0 where
  pub long : length now ≡ length before
  pub fits : size ≤ length before
  pub bytes : take size now ++ data_in (records_from store place) ≡ take done before ++ data_in (records_from store at)
  pub rest : patches_in (records_from store place) ≡ patches_in (records_from store at)
  pub on : at ≤ place

pub laying_none : (store : List ℕ) (at done : ℕ) (before : List ℕ) → done ≤ length before → Laying store at done before at done before
laying_none store at done before h = record { long = refl; fits = h; bytes = refl; rest = refl; on = omega arith }

module _ {store : List ℕ} {at done : ℕ} {before : List ℕ} {place size : ℕ} {now : List ℕ} (l : Laying store at done before place size now)
    (d : is_data (get_or store place 0) ≡ true) {count : ℕ} (b : take count (drop (place + 1) store) ≡ (record_at store place).body) (k : place + 1 + count ≤ length store) where
  body_long : length (record_at store place).body ≡ count
  body_long = ap length (sym b) ∙ length-take-le count (drop (place + 1) store) (rw length-drop (omega arith))

  pub laying_over : done ≤ length before → length now - size < count → length before < length (take done before ++ data_in (records_from store at))
  laying_over h o =
      let e = simp length-append at (ap length l.bytes) in
      let s = simp length-append at (ap length (data_step store place d)) in
      let t = length-take-le size now (omega (arith, l.fits, l.long)) in
      let u = length-take-le done before h in
      rw length-append (omega (arith, e, s, t, u, body_long, l.long, l.fits))

  pub laying_more : {after : List ℕ} {next : ℕ} → count ≤ length now - size → after ≡ paste now size (drop (place + 1) store) count → next ≡ next_at store place
      → Laying store at done before next (size + count) after
  laying_more {after} {next} r p q =
      let a : size + count ≤ length now = omega (arith, l.fits, l.long) in
      let c : count ≤ length (drop (place + 1) store) = rw length-drop (omega arith) in
      record {
        long = ap length p ∙ length-paste now size (drop (place + 1) store) count a c ∙ l.long;
        fits = omega (arith, l.long);
        bytes =
            ap (λ (x : List ℕ). take (size + count) x ++ data_in (records_from store next)) p
            ∙ ap (λ (x : List ℕ). x ++ data_in (records_from store next)) (take-paste now size (drop (place + 1) store) count (omega arith) c)
            ∙ append_assoc (take size now) (take count (drop (place + 1) store)) (data_in (records_from store next))
            ∙ ap (λ (x : List ℕ). take size now ++ x)
            (ap (λ (x : List ℕ). x ++ data_in (records_from store next)) b
            ∙ ap (λ (n : ℕ). (record_at store place).body ++ data_in (records_from store n)) q
            ∙ sym (data_step store place d))
            ∙ l.bytes;
        rest = ap (λ (n : ℕ). patches_in (records_from store n)) q ∙ sym (patches_data store place d) ∙ l.rest;
        on = omega (arith, l.on, q);
      }

pub laying_end : {store : List ℕ} {at done : ℕ} {before : List ℕ} {reached : Reached} {now : List ℕ} → Laying store at done before reached.at reached.size now
    → is_data (get_or store reached.at 0) ≡ false → Copied store at (take done before ++ data_in (records_from store at)) reached now
laying_end {store} {at} {done} {before} {reached} {now} l d =
    record {
      fits = omega (arith, l.long, l.fits);
      laid = sym (append-nil (take reached.size now)) ∙ ap (λ (x : List ℕ). take reached.size now ++ x) (sym (data_stop store reached.at d)) ∙ l.bytes;
      past = record { rest = l.rest; stops = d; on = l.on };
    }
