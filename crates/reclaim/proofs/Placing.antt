-- The dump that is marked, looked for from record to record. Assumes nothing.
use mathlib.Core.Path.{◌≡◌, refl, sym, ap, ◌∙◌}
use mathlib.Core.Bool.{Bool, true, false, cond, ◌&&◌, ◌||◌}
use mathlib.Core.List.{List, [], ◌∷◌, ◌++◌, append_assoc, append-nil}
use Prim.Native.Nat.{ℕ, suc, ◌+◌, ◌≤◌, ◌<◌}
use native.Mathlib.Omega.{arith}
use lib.Dec.{eqb}
use lib.ListN.{length, get_or, take, drop, set, take-append-drop}
use lib.Seq.{take_all, take-add, drop-cons, drop-drop, set_split}
use borrow.Author.Tests.{eqb-true, eqb-false, eq-eqb, ne_eqb}
use Rattle.ump.specs.Word.{pair_at}
use Rattle.ump.specs.Edits.{elem}
use Rattle.refusal.specs.Answer.{refused, Verdict, pass}
use Rattle.store.specs.Store.{is_wanted, is_dump, body_size, Record, records_of, Dump, dump_number, dumps_in, dumps_of, numbers_of, sound}
use Rattle.store.specs.Places.{record_at, next_at, records_from, dumps_from, dump_at}
use Rattle.store.proofs.Records.{and-true, records_end, records_step}
use Rattle.store.proofs.Dumps.{dumps_end, dumps_here, dumps_past, number-body, number_here}
use Rattle.chain.proofs.Outside.{or_false}
use Rattle.chain.proofs.Orders.{eqb_sym}
use Rattle.reclaim.specs.Reclaim.{record_number, bytes_in, is_dump_of, marked_kind, marked_in, marked, mark}
use Rattle.reclaim.proofs.Bytes.{bytes_records}
use Rattle.reclaim.proofs.Numbers.{number_elem}

-- ---- kinds

pub kind_wanted : (k : ℕ) → is_wanted k ≡ true → k + 16 ≡ marked_kind k
unfolding marked_kind
kind_wanted k e = rw e

pub kind_other : (k : ℕ) → is_wanted k ≡ false → k ≡ marked_kind k
unfolding marked_kind
kind_other k e = rw e

-- ---- from record to record

-- the records from a place on are passed, with the dump marked where it stands
pub record Marking (store : List ℕ) (n at : ℕ) (now : List ℕ) : Type 0 where
  pub same : now ≡ store
  pub bytes : marked store n ≡ take at store ++ bytes_in (marked_in n (records_from store at))
  pub numbers : elem n (numbers_of (dumps_of store)) ≡ elem n (numbers_of (dumps_from store at))

pub marking_start : (store : List ℕ) (n : ℕ) → Marking store n 0 store
marking_start store n = record { same = refl; bytes = refl; numbers = refl }

-- a record, and those behind it
module _ (store : List ℕ) (at : ℕ) (h : at < length store) where
  abbrev here : Record
  here = record_at store at

  abbrev rest : List Record
  rest = records_from store (next_at store at)

  place : suc at + body_size (get_or store at 0) ≡ next_at store at
  place = omega arith

  bytes_here : here.body ++ bytes_in rest ≡ drop (suc at) store
  bytes_here =
      ap (λ (l : List ℕ). here.body ++ l) (bytes_records (drop (next_at store at) store) ∙ ap (λ (i : ℕ). drop i store) (sym place) ∙ sym (drop-drop (body_size (get_or store at 0)) (suc at) store))
      ∙ take-append-drop (body_size (get_or store at 0)) (drop (suc at) store)

  take_next : take (next_at store at) store ≡ take at store ++ (here.kind ∷ here.body)
  take_next =
      let size = body_size (get_or store at 0) in
      let q : next_at store at ≡ at + suc size = omega arith in
      ap (λ (i : ℕ). take i store) q ∙ take-add at (suc size) store
      ∙ ap (λ (l : List ℕ). take at store ++ take (suc size) l) (drop-cons store at 0 h)

  module _ (n : ℕ) where
    -- the test of the code is the definition's
    abbrev test : Bool
    test = is_dump (get_or store at 0) && eqb (pair_at store (at + 1)) n

    begins_is : test ≡ is_dump_of n here
    begins_is = go (is_dump (get_or store at 0)) refl
      where
        go : (b : Bool) → is_dump (get_or store at 0) ≡ b → (b && eqb (pair_at store (at + 1)) n) ≡ (b && eqb (pair_at here.body 0) n)
        go true d = ap (λ (k : ℕ). eqb k n) (sym (number-body store at d))
        go false d = refl

    pub marking_here : {now : List ℕ} → Marking store n at now → test ≡ true → {k : ℕ} → k ≡ marked_kind (get_or now at 0)
        → (true ≡ elem n (numbers_of (dumps_of store))) × (set now at k ≡ marked store n)
    unfolding marked_in bytes_in
    marking_here {now} m e {k} q =
        let both = and-true (is_dump (get_or store at 0)) (eqb (pair_at store (at + 1)) n) e in
        let is = eqb-true (pair_at store (at + 1)) n both.1 in
        let number : eqb n (dump_number (dump_at store at)) ≡ true = eq-eqb n (dump_number (dump_at store at)) (sym (number_here store at h both.0 ∙ is)) in (
          sym (m.numbers ∙ ap (λ (ds : List Dump). elem n (numbers_of ds)) (dumps_here store at h both.0) ∙ ap (λ (b : Bool). b || elem n (numbers_of (dumps_from store (next_at store at)))) number),
          ap (λ (l : List ℕ). set l at k) m.same ∙ ap (λ (v : ℕ). set store at v) (q ∙ ap (λ (l : List ℕ). marked_kind (get_or l at 0)) m.same)
              ∙ set_split store at (marked_kind (get_or store at 0)) h
              ∙ ap (λ (l : List ℕ). take at store ++ (marked_kind (get_or store at 0) ∷ l)) (sym bytes_here)
              ∙ ap (λ (b : Bool). take at store ++ bytes_in (cond b (record { kind = marked_kind here.kind; body = here.body } ∷ rest) (here ∷ marked_in n rest))) (sym (sym begins_is ∙ e))
              ∙ ap (λ (rs : List Record). take at store ++ bytes_in (marked_in n rs)) (sym (records_step store at h))
              ∙ sym m.bytes,
        )

    pub marking_past : {now : List ℕ} → Marking store n at now → test ≡ false → {next : ℕ} → next ≡ next_at store at → Marking store n next now
    unfolding marked_in bytes_in
    marking_past {now} m e {next} q =
        rw q
        record {
          same = m.same;
          bytes =
              m.bytes ∙ ap (λ (rs : List Record). take at store ++ bytes_in (marked_in n rs)) (records_step store at h)
              ∙ ap (λ (b : Bool). take at store ++ bytes_in (cond b (record { kind = marked_kind here.kind; body = here.body } ∷ rest) (here ∷ marked_in n rest))) (sym begins_is ∙ e)
              ∙ sym (append_assoc (take at store) (here.kind ∷ here.body) (bytes_in (marked_in n rest)))
              ∙ ap (λ (l : List ℕ). l ++ bytes_in (marked_in n rest)) (sym take_next);
          numbers = m.numbers ∙ go (is_dump (get_or store at 0)) refl e;
        }
      where
        go : (b : Bool) → is_dump (get_or store at 0) ≡ b → (b && eqb (pair_at store (at + 1)) n) ≡ false
            → elem n (numbers_of (dumps_from store at)) ≡ elem n (numbers_of (dumps_from store (next_at store at)))
        go true d f =
            let other : eqb n (dump_number (dump_at store at)) ≡ false =
            ne_eqb n (dump_number (dump_at store at)) (λ p. eqb-false (pair_at store (at + 1)) n f (sym (p ∙ number_here store at h d))) in
            ap (λ (ds : List Dump). elem n (numbers_of ds)) (dumps_here store at h d)
            ∙ ap (λ (b : Bool). b || elem n (numbers_of (dumps_from store (next_at store at)))) other
        go false d f = ap (λ (ds : List Dump). elem n (numbers_of ds)) (dumps_past store at h d)

pub marking_end : {store : List ℕ} {n at : ℕ} {now : List ℕ} → Marking store n at now → length now ≤ at
    → (false ≡ elem n (numbers_of (dumps_of store))) × (now ≡ marked store n)
unfolding marked_in bytes_in
marking_end {store} {n} {at} {now} m h =
    let l : length store ≤ at = rw m.same at h in (
      sym (m.numbers ∙ ap (λ (ds : List Dump). elem n (numbers_of ds)) (dumps_end store at l)),
      m.same ∙ sym (take_all at store l) ∙ sym (append-nil (take at store))
          ∙ ap (λ (rs : List Record). take at store ++ bytes_in (marked_in n rs)) (sym (records_end store at l)) ∙ sym m.bytes,
    )

-- what is not there is not marked
marked_nowhere : (n : ℕ) (rs : List Record) → elem n (numbers_of (dumps_in rs)) ≡ false → marked_in n rs ≡ rs
unfolding marked_in
marked_nowhere n [] e = refl
marked_nowhere n (r ∷ rs) e =
    let o = or_false (is_dump r.kind && eqb n (record_number r)) (elem n (numbers_of (dumps_in rs))) (sym (number_elem r rs n) ∙ e) in
    rw (eqb_sym (record_number r) n, o.0, marked_nowhere n rs o.1)

marked_none : (store : List ℕ) (n : ℕ) → elem n (numbers_of (dumps_of store)) ≡ false → marked store n ≡ store
marked_none store n e = ap bytes_in (marked_nowhere n (records_of store) e) ∙ bytes_records store

-- ---- the whole call

module _ (store : List ℕ) (n : ℕ) where
  pub mark_unsound : {number place : ℕ} → sound store ≡ refused number place → ◌≡◌ {A = Verdict × List ℕ} (refused number place, store) (mark store n)
  unfolding mark
  mark_unsound e = rw e

  module _ (e : sound store ≡ pass) {found : Bool} (f : found ≡ elem n (numbers_of (dumps_of store))) {left : List ℕ} (l : left ≡ marked store n) where
    pub mark_done : found ≡ true → ◌≡◌ {A = Verdict × List ℕ} (pass, left) (mark store n)
    unfolding mark
    mark_done t = rw (e, ← f, t, l)

    pub mark_missing : found ≡ false → ◌≡◌ {A = Verdict × List ℕ} (refused 24 0, left) (mark store n)
    unfolding mark
    mark_missing t = rw (e, ← f, t, l, marked_none store n (sym f ∙ t))
