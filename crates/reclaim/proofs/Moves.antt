-- Moving what stays down in the store. Assumes nothing.
use mathlib.Core.Path.{◌≡◌, refl, sym, ap, ◌∙◌}
use mathlib.Core.Bool.{Bool, true, false, cond}
use mathlib.Core.List.{List, ◌∷◌, ◌++◌, append_assoc, append-nil}
use Prim.Native.Nat.{ℕ, suc, ◌+◌, ◌-◌, ◌≤◌, ◌<◌}
use native.Mathlib.Nat.{add-zero}
use native.Mathlib.Omega.{arith}
use lib.Dec.{ltb}
use lib.ListN.{length, get_or, take, drop, replicate, length-drop, drop_of_length-le}
use lib.Seq.{take_all, take-paste, drop-paste, get_or-drop, drop-drop, drop-cons, length-take-le}
use borrow.Author.Tests.{ltb-true, ltb-false}
use Rattle.refusal.specs.Answer.{gives, refused, pass}
use Rattle.ump.specs.Word.{pair_at}
use Rattle.store.specs.Store.{is_dump, body_size, Record, records_of, sound}
use Rattle.store.specs.Places.{record_at, records_from, flagged}
use Rattle.store.proofs.Records.{records_end, records_step}
use Rattle.store.proofs.Dumps.{number-body}
use Rattle.reclaim.specs.Reclaim.{stays, kept_in, bytes_in, collected, lent_after, collect}
use Rattle.reclaim.specs.Keeping.{Kept, PassesDown}

-- ---- the records moved so far

abbrev rest : List ℕ → ℕ → Bool → List ℕ
rest store at on = bytes_in (kept_in (stays store) on (records_from store at))

pub record Moving (store : List ℕ) (at done : ℕ) (on : Bool) (now : List ℕ) : Type 0 where
  pub long : length now ≡ length store
  pub low : done ≤ at
  pub inside : at ≤ length store
  pub same : drop at now ≡ drop at store
  pub bytes : take done now ++ rest store at on ≡ collected store

pub moving_none : (store : List ℕ) → Moving store 0 0 false store
unfolding collected
moving_none store = record { long = refl; low = omega arith; inside = omega arith; same = refl; bytes = refl }

-- as much of a body as there is, and what is behind it
behind : (l : List ℕ) (r n : ℕ) → r ≤ length l → take r l ≡ take n l → drop r l ≡ drop n l
behind l r n h e = go (ltb n (length l)) refl
  where
    go : (b : Bool) → ltb n (length l) ≡ b → drop r l ≡ drop n l
    go true q =
        let k = ltb-true n (length l) q in
        let same : r ≡ n = sym (length-take-le r l h) ∙ ap length e ∙ length-take-le n l (omega arith) in
        ap (λ (x : ℕ). drop x l) same
    go false q =
        let k = ltb-false n (length l) q in
        let all : r ≡ length l = sym (length-take-le r l h) ∙ ap length e ∙ ap length (take_all n l k) in
        drop_of_length-le l {i = r} (omega arith) ∙ sym (drop_of_length-le l {i = n} k)

module _ {store : List ℕ} {at done : ℕ} {on : Bool} {now : List ℕ} (m : Moving store at done on now) (h : at < length now) where
  there : at < length store
  there = omega (arith, m.long)

  same_later : (k : ℕ) → drop (at + k) now ≡ drop (at + k) store
  same_later k = sym (drop-drop k at now) ∙ ap (drop k) m.same ∙ drop-drop k at store

  same_byte : (k : ℕ) → get_or now (at + k) 0 ≡ get_or store (at + k) 0
  same_byte k = sym (get_or-drop at now k 0) ∙ ap (λ (l : List ℕ). get_or l k 0) m.same ∙ get_or-drop at store k 0

  same_kind : get_or now at 0 ≡ get_or store at 0
  same_kind = rw (add-zero at) at (same_byte 0)

  same_number : pair_at now (at + 1) ≡ pair_at store (at + 1)
  same_number =
      let q : at + 1 + 1 ≡ at + 2 = omega arith in
      rw (same_byte 1, q, same_byte 2)

  abbrev rec : Record
  rec = record_at store at

  -- whether the record stays: by the code's test, and by the definition
  abbrev staying : Bool
  staying = cond (is_dump rec.kind) (stays store (pair_at rec.body 0)) on

  staying_is : (kept : List ℕ) → Kept store kept → cond (is_dump (get_or now at 0)) (flagged kept (pair_at now (at + 1))) on ≡ staying
  staying_is kept k = rw (same_kind, same_number, k (pair_at store (at + 1))) (go (is_dump (get_or store at 0)) refl)
    where
      go : (b : Bool) → is_dump (get_or store at 0) ≡ b → cond b (stays store (pair_at store (at + 1))) on ≡ cond b (stays store (pair_at rec.body 0)) on
      go true d = ap (stays store) (sym (number-body store at d))
      go false d = refl

  module _ (r : ℕ) (b : take r (drop (at + 1) now) ≡ (record_at now at).body) (k : at + 1 + r ≤ length now) where
    body_is : take r (drop (suc at) store) ≡ rec.body
    body_is =
        let q : at + 1 ≡ suc at = omega arith in
        let next : drop (suc at) now ≡ drop (suc at) store = rw q at (same_later 1) in
        ap (take r) (sym next ∙ ap (λ (n : ℕ). drop n now) (sym q)) ∙ b
        ∙ ap (λ (n : ℕ). take (body_size n) (drop (suc at) now)) same_kind ∙ ap (take (body_size (get_or store at 0))) next

    records_are : records_from store at ≡ rec ∷ records_from store (at + (1 + r))
    records_are =
        let size = body_size (get_or store at 0) in
        let p : at + (1 + r) ≡ suc at + r = omega arith in
        let q : suc at + size ≡ at + 1 + size = omega arith in
        records_step store at there
        ∙ ap (λ (l : List ℕ). rec ∷ records_of l)
        (sym
        (ap (λ (n : ℕ). drop n store) p ∙ sym (drop-drop r (suc at) store)
        ∙ behind (drop (suc at) store) r size (rw length-drop (omega (arith, m.long))) body_is ∙ drop-drop size (suc at) store ∙ ap (λ (n : ℕ). drop n store) q))

    moved_bytes : take (1 + r) (drop at now) ≡ rec.kind ∷ rec.body
    moved_bytes =
        let q : 1 + r ≡ suc r = omega arith in
        ap (take (1 + r)) (m.same ∙ drop-cons store at 0 there) ∙ ap (λ (n : ℕ). take n (get_or store at 0 ∷ drop (suc at) store)) q
        ∙ ap (λ (l : List ℕ). get_or store at 0 ∷ l) body_is

    pub moving_more : (kept : List ℕ) → Kept store kept → {on' : Bool} {done' : ℕ} {after : List ℕ}
        → on' ≡ cond (is_dump (get_or now at 0)) (flagged kept (pair_at now (at + 1))) on
        → PassesDown on' now at done (1 + r) done' after → length after ≡ length now → Moving store (at + (1 + r)) done' on' after
    unfolding bytes_in kept_in
    moving_more kept keeps {on'} {done'} {after} o p l = go on' (o ∙ staying_is kept keeps) refl
      where
        size : ℕ
        size = 1 + r

        -- what the record adds to the rest
        adds : {b : Bool} → staying ≡ b → rest store at on ≡ bytes_in (cond b (rec ∷ kept_in (stays store) b (records_from store (at + size))) (kept_in (stays store) b (records_from store (at + size))))
        adds s = rw (records_are, s)

        go : (c : Bool) → on' ≡ staying → on' ≡ c → Moving store (at + size) done' on' after
        go true s e =
            let d = p.stays e in
            let c : size ≤ length (drop at now) = rw length-drop (omega arith) in
            let q : done + size + (at - done) ≡ at + size = omega (arith, m.low) in
            let w : drop (at + size) after ≡ drop (at + size) now =
            ap (λ (n : ℕ). drop n after) (sym q) ∙ sym (drop-drop (at - done) (done + size) after)
            ∙ ap (drop (at - done)) (ap (drop (done + size)) d.1 ∙ drop-paste now done (drop at now) size (omega (arith, m.low)) c)
            ∙ drop-drop (at - done) (done + size) now ∙ ap (λ (n : ℕ). drop n now) q in
            record {
              long = l ∙ m.long;
              low = omega (arith, m.low, d.0);
              inside = omega (arith, m.long);
              same = w ∙ same_later size;
              bytes =
                  rw (e, d.0, d.1, take-paste now done (drop at now) size (omega (arith, m.low)) c, moved_bytes)
                  (append_assoc (take done now) (rec.kind ∷ rec.body) (rest store (at + size) true)
                  ∙ ap (λ (x : List ℕ). take done now ++ x) (sym (adds (sym s ∙ e))) ∙ m.bytes);
            }
        go false s e =
            let d = p.goes e in
            record {
              long = l ∙ m.long;
              low = omega (arith, m.low, d.0);
              inside = omega (arith, m.long);
              same = ap (drop (at + size)) d.1 ∙ same_later size;
              bytes = rw (e, d.0, d.1) (ap (λ (x : List ℕ). take done now ++ x) (sym (adds (sym s ∙ e))) ∙ m.bytes);
            }

pub moving_all : {store : List ℕ} {at done : ℕ} {on : Bool} {now : List ℕ} → Moving store at done on now → length now ≤ at
    → take done now ≡ collected store
unfolding bytes_in kept_in
moving_all {store} {at} {done} {on} {now} m h =
    sym (append-nil (take done now))
    ∙ ap (λ (x : List Record). take done now ++ bytes_in (kept_in (stays store) on x)) (sym (records_end store at (omega (arith, m.long)))) ∙ m.bytes

-- ---- the whole call

-- what is moved, and the zeros behind it
pub reclaimed_is : (s : List ℕ) (r : ℕ) (mid after : List ℕ) → r ≤ length mid → take r mid ≡ collected s → length mid ≡ length s
    → after ≡ take r mid ++ replicate (length mid - r) 0 → (r ≡ length (collected s)) × (after ≡ lent_after s)
reclaimed_is s r mid after h e l a =
    let q : r ≡ length (collected s) = sym (length-take-le r mid h) ∙ ap length e in
    (q, a ∙ ap (λ (x : List ℕ). x ++ replicate (length mid - r) 0) e ∙ ap (λ (n : ℕ). collected s ++ replicate (n - r) 0) l ∙ ap (λ (n : ℕ). collected s ++ replicate (length s - n) 0) q)

pub collect_refused : (s : List ℕ) {number place : ℕ} → sound s ≡ refused number place → (refused number place, s) ≡ collect s
unfolding collect
collect_refused s e = rw e

pub collect-given : (s : List ℕ) {r : ℕ} {after : List ℕ} → sound s ≡ pass → (r ≡ length (collected s)) × (after ≡ lent_after s) → (gives r, after) ≡ collect s
unfolding collect
collect-given s {r} {after} e f = rw (e, f.0, f.1)
