-- A store in which a dump is marked (02, T-13). Assumes nothing.
use mathlib.Core.Path.{◌≡◌, refl, sym, ap, ◌∙◌}
use mathlib.Core.Bool.{Bool, true, false, not, ◌&&◌, ◌||◌}
use mathlib.Core.List.{List, [], ◌∷◌, ◌++◌}
use Prim.Native.Nat.{ℕ, suc, ◌+◌, ◌<◌}
use native.Mathlib.Omega.{arith}
use lib.Dec.{eqb}
use lib.ListN.{length, get_or, length-append, get_or-append}
use lib.Seq.{take-append_seam, drop-append_seam, get_or-append_seam, get_or-append-add, set-append_seam}
use borrow.Author.Tests.{eqb-true, eq-eqb}
use Rattle.refusal.specs.Answer.{gives, refused, Verdict, pass, ◌▷◌, guard, writes}
use Rattle.refusal.proofs.Laws.{never_both, never_refused}
use Rattle.ump.specs.Edits.{elem}
use Rattle.store.specs.Store.{is_whole, is_delta, is_wanted, is_dump, is_edit, is_data, body_size, Record, records_of, at_start, follows_by, allowed_by, follows, well_formed, data_in, patches_in, dump_of, dumps_in, dumps_of, numbers_of, twice, sound, check_store}
use Rattle.store.specs.declared.format.Follow.{Follow}
use Rattle.store.proofs.Records.{not_both, and-true, body_other}
use Rattle.store.proofs.Dumps.{dump_kinds}
use Rattle.store.proofs.Checks.{sound_good}
use Rattle.chain.specs.Restore.{restore, describe}
use Rattle.chain.proofs.Outside.{or_false}
use Rattle.chain.proofs.Orders.{eqb_sym}
use Rattle.reclaim.specs.Reclaim.{record_number, bytes_in, marked_kind, is_dump_of, marked_in, marked, mark, wanted_in, wanted_of}
use Rattle.reclaim.specs.Reclaimed.{MarksOne}
use Rattle.reclaim.proofs.Bytes.{bytes_records, bytes_append, Complete, records_bytes, records_complete, formed_complete, records_back, dump_only}
use Rattle.reclaim.proofs.Numbers.{number_elem, number-twice, wanted_elem, wanted_dump, wanted_held}

-- ---- the kind of a dump, marked

-- it reads as before, is not wanted, and stays when marked again
record SameKind (k marked : ℕ) : Type 0 where
  pub wholes : is_whole marked ≡ is_whole k
  pub deltas : is_delta marked ≡ is_delta k
  pub edits : is_edit marked ≡ is_edit k
  pub bytes : is_data marked ≡ is_data k
  pub size : body_size marked ≡ body_size k
  pub unwanted : is_wanted marked ≡ false
  pub again : marked_kind marked ≡ marked

same_kind : (k : ℕ) → is_dump k ≡ true → SameKind k (marked_kind k)
unfolding marked_kind is_data body_size
same_kind k e =
    dump_kinds (λ (n : ℕ). SameKind n (marked_kind n))
    (record { wholes = refl; deltas = refl; edits = refl; bytes = refl; size = refl; unwanted = refl; again = refl })
    (record { wholes = refl; deltas = refl; edits = refl; bytes = refl; size = refl; unwanted = refl; again = refl })
    (record { wholes = refl; deltas = refl; edits = refl; bytes = refl; size = refl; unwanted = refl; again = refl })
    (record { wholes = refl; deltas = refl; edits = refl; bytes = refl; size = refl; unwanted = refl; again = refl })
    k e

-- ---- the records

abbrev marked_record : Record → Record
marked_record r = record { kind = marked_kind r.kind; body = r.body }

module _ (n : ℕ) where
  module _ (r : Record) (rs : List Record) where
    marked_here : is_dump_of n r ≡ true → marked_in n (r ∷ rs) ≡ marked_record r ∷ rs
    unfolding marked_in
    marked_here e = rw e

    marked_past : is_dump_of n r ≡ false → marked_in n (r ∷ rs) ≡ r ∷ marked_in n rs
    unfolding marked_in
    marked_past e = rw e

    -- what holds of both
    marked_by : (P : List Record → Type 0)
        → (is_dump r.kind ≡ true → record_number r ≡ n → SameKind r.kind (marked_kind r.kind) → P (marked_record r ∷ rs))
        → (is_dump_of n r ≡ false → P (r ∷ marked_in n rs)) → P (marked_in n (r ∷ rs))
    marked_by P here past = go (is_dump_of n r) refl
      where
        go : (b : Bool) → is_dump_of n r ≡ b → P (marked_in n (r ∷ rs))
        go true p =
            let a = and-true (is_dump r.kind) (eqb (record_number r) n) p in
            rw (marked_here p) (here a.0 (eqb-true (record_number r) n a.1) (same_kind r.kind a.0))
        go false p = rw (marked_past p) (past p)

  marked_none : marked_in n [] ≡ []
  unfolding marked_in
  marked_none = refl

  data_marked : (rs : List Record) → data_in (marked_in n rs) ≡ data_in rs
  unfolding data_in
  data_marked [] = ap data_in marked_none
  data_marked (r ∷ rs) =
      marked_by r rs (λ (ss : List Record). data_in ss ≡ data_in (r ∷ rs)) (λ d q k. rw k.bytes) (λ p. rw (data_marked rs))

  patches_marked : (rs : List Record) → patches_in (marked_in n rs) ≡ patches_in rs
  unfolding patches_in
  patches_marked [] = ap patches_in marked_none
  patches_marked (r ∷ rs) =
      marked_by r rs (λ (ss : List Record). patches_in ss ≡ patches_in (r ∷ rs))
      (λ d q k. rw (k.bytes, k.edits))
      (λ p. rw (data_marked rs, patches_marked rs))

  dumps_marked : (rs : List Record) → dumps_in (marked_in n rs) ≡ dumps_in rs
  unfolding dumps_in dump_of
  dumps_marked [] = ap dumps_in marked_none
  dumps_marked (r ∷ rs) =
      marked_by r rs (λ (ss : List Record). dumps_in ss ≡ dumps_in (r ∷ rs))
      (λ d q k. rw (k.wholes, k.deltas))
      (λ p. rw (data_marked rs, patches_marked rs, dumps_marked rs))

  form_marked : (f : Follow) (rs : List Record) → well_formed f (marked_in n rs) ≡ well_formed f rs
  unfolding well_formed follows_by allowed_by
  form_marked f [] = ap (well_formed f) marked_none
  form_marked f (r ∷ rs) =
      marked_by r rs (λ (ss : List Record). well_formed f ss ≡ well_formed f (r ∷ rs))
      (λ d q k. rw (k.wholes, k.deltas, k.edits, k.bytes, k.size))
      (λ p. rw (form_marked (follows f r) rs))

  marked_again : (rs : List Record) → marked_in n (marked_in n rs) ≡ marked_in n rs
  marked_again [] = ap (marked_in n) marked_none
  marked_again (r ∷ rs) =
      marked_by r rs (λ (ss : List Record). marked_in n ss ≡ ss)
      (λ d q k. marked_here (marked_record r) rs (rw (k.wholes, k.deltas, d, eq-eqb (record_number r) n q))
      ∙ ap (λ (kind : ℕ). record { kind = kind; body = r.body } ∷ rs) k.again)
      (λ p. marked_past r (marked_in n rs) p ∙ ap (λ (ss : List Record). r ∷ ss) (marked_again rs))

-- ---- the wanted dumps

-- what is taken out, and what is not
taken_out : (w b e : Bool) → (b ≡ true → e ≡ false) → e ≡ (((w && b) || e) && not b)
taken_out true true e h = h refl
taken_out true false true h = refl
taken_out true false false h = refl
taken_out false true true h = h refl
taken_out false true false h = refl
taken_out false false true h = refl
taken_out false false false h = refl

left_in : (a b e : Bool) → (a ≡ true → b ≡ false) → (a || (e && not b)) ≡ ((a || e) && not b)
left_in true b e h = rw (h refl)
left_in false b e h = refl

-- the dump marked is not wanted, each other is if it was
wanted_marked : (n m : ℕ) (rs : List Record) → twice (numbers_of (dumps_in rs)) ≡ false
    → elem m (wanted_in (marked_in n rs)) ≡ (elem m (wanted_in rs) && not (eqb m n))
unfolding wanted_in
wanted_marked n m [] once = ap (λ (ss : List Record). elem m (wanted_in ss)) (marked_none n)
wanted_marked n m (r ∷ rs) once =
    let o = or_false (is_dump r.kind && elem (record_number r) (numbers_of (dumps_in rs))) (twice (numbers_of (dumps_in rs))) (sym (number-twice r rs) ∙ once) in
    let more = wanted_marked n m rs o.1 in
    marked_by n r rs (λ (ss : List Record). elem m (wanted_in ss) ≡ (elem m (wanted_in (r ∷ rs)) && not (eqb m n)))
    (λ d q k. rw (wanted_elem r rs m, wanted_elem (marked_record r) rs m, k.unwanted, q)
    (taken_out (is_wanted r.kind) (eqb m n) (elem m (wanted_in rs)) (λ h. gone (elem m (wanted_in rs)) refl (rw (d, q, ← eqb-true m n h) at o.0))))
    (λ p. rw (wanted_elem r rs m, wanted_elem r (marked_in n rs) m, more)
    (left_in (is_wanted r.kind && eqb m (record_number r)) (eqb m n) (elem m (wanted_in rs)) (λ h. other p (and-true (is_wanted r.kind) (eqb m (record_number r)) h))))
  where
    gone : (b : Bool) → elem m (wanted_in rs) ≡ b → elem m (numbers_of (dumps_in rs)) ≡ false → b ≡ false
    gone true e h = not_both (wanted_held m rs e) h
    gone false e h = refl

    other : is_dump_of n r ≡ false → (is_wanted r.kind ≡ true) × (eqb m (record_number r) ≡ true) → eqb m n ≡ false
    other p h = rw (eqb-true m (record_number r) h.1) (rw (wanted_dump r.kind h.0) at p)

-- ---- one byte is another

-- where the dump of this number begins
record Found (n : ℕ) (rs : List Record) : Type 0 where
  before : List Record
  here : Record
  behind : List Record
  is : before ++ here ∷ behind ≡ rs
  marks : before ++ marked_record here ∷ behind ≡ marked_in n rs
  dump : is_dump here.kind ≡ true
  number : record_number here ≡ n
  complete : Complete before
  body : length here.body ≡ body_size here.kind

found : (n : ℕ) (rs : List Record) → Complete rs → elem n (numbers_of (dumps_in rs)) ≡ true → Found n rs
unfolding dumps_in
found n [] c e = not_both e refl
found n (r ∷ rs) c e = go (found n rs c.1) (is_dump_of n r) refl (sym (number_elem r rs n) ∙ e)
  where
    go : (elem n (numbers_of (dumps_in rs)) ≡ true → Found n rs) → (b : Bool) → is_dump_of n r ≡ b
        → ((is_dump r.kind && eqb n (record_number r)) || elem n (numbers_of (dumps_in rs))) ≡ true → Found n (r ∷ rs)
    go more true p h =
        let a = and-true (is_dump r.kind) (eqb (record_number r) n) p in
        record {
          before = [];
          here = r;
          behind = rs;
          is = refl;
          marks = sym (marked_here n r rs p);
          dump = a.0;
          number = eqb-true (record_number r) n a.1;
          complete = tt;
          body = c.0;
        }
    go more false p h =
        let m = more (rw (eqb_sym n (record_number r), p) at h) in
        record {
          before = r ∷ m.before;
          here = m.here;
          behind = m.behind;
          is = ap (λ (ss : List Record). r ∷ ss) m.is;
          marks = ap (λ (ss : List Record). r ∷ ss) m.marks ∙ sym (marked_past n r rs p);
          dump = m.dump;
          number = m.number;
          complete = (c.0, m.complete);
          body = m.body;
        }

module _ (before : List Record) (here : Record) (behind : List Record) where
  abbrev head : List ℕ
  head = bytes_in before

  abbrev rest : List ℕ
  rest = here.body ++ bytes_in behind

  abbrev all : List ℕ
  all = head ++ here.kind ∷ rest

  byte_here : (i : ℕ) → i < length here.body → get_or all (length head + suc i) 0 ≡ get_or here.body i 0
  byte_here i h = get_or-append-add head (here.kind ∷ rest) (suc i) 0 ∙ get_or-append here.body (bytes_in behind) 0 i h

  marks_split : {n : ℕ} → is_dump here.kind ≡ true → record_number here ≡ n → Complete before → length here.body ≡ body_size here.kind
      → MarksOne all n (head ++ marked_kind here.kind ∷ rest)
  unfolding bytes_in
  marks_split d q c l =
      let four : length here.body ≡ 4 = l ∙ body_other here.kind (dump_only here.kind d).0 in
      let kind : get_or all (length head) 0 ≡ here.kind = get_or-append_seam head here.kind rest 0 in
      record {
        at = length head;
        record_here = rw (take-append_seam head (here.kind ∷ rest), drop-append_seam head (here.kind ∷ rest))
            (records_bytes before (here.kind ∷ rest) c ∙ ap (λ (rs : List Record). rs ++ records_of (here.kind ∷ rest)) (sym (records_complete before c)));
        dump_here = (omega (arith, length-append head (here.kind ∷ rest)), rw kind d);
        number =
            let two : length head + 1 + 1 ≡ length head + 2 = omega arith in
            rw (two, byte_here 0 (omega (arith, four)), byte_here 1 (omega (arith, four))) q;
        is = rw kind (sym (set-append_seam head here.kind rest (marked_kind here.kind)));
      }

-- ---- the store

module _ (store : List ℕ) (n : ℕ) (f : well_formed at_start (records_of store) ≡ true) where
  marked_records : records_of (marked store n) ≡ marked_in n (records_of store)
  marked_records = records_back at_start (marked_in n (records_of store)) (form_marked n at_start (records_of store) ∙ f)

  marked_dumps : dumps_of (marked store n) ≡ dumps_of store
  marked_dumps = ap dumps_in marked_records ∙ dumps_marked n (records_of store)

  marked_sound : sound (marked store n) ≡ sound store
  unfolding sound
  marked_sound = rw (marked_records, dumps_marked n (records_of store), form_marked n at_start (records_of store))

  marked_one : elem n (numbers_of (dumps_of store)) ≡ true → MarksOne store n (marked store n)
  unfolding bytes_in
  marked_one e =
      let m = found n (records_of store) (formed_complete at_start (records_of store) f) e in
      let old = sym (bytes_append m.before (m.here ∷ m.behind)) ∙ ap bytes_in m.is ∙ bytes_records store in
      let new = sym (bytes_append m.before (marked_record m.here ∷ m.behind)) ∙ ap bytes_in m.marks in
      rw (old, new) at (marks_split m.before m.here m.behind m.dump m.number m.complete m.body)

-- ---- the call

-- the check, a restore and a description look at the dumps alone, and whether the store is good
module _ (store other : List ℕ) (s : sound other ≡ sound store) (d : dumps_of other ≡ dumps_of store) where
  same_check : check_store other ≡ check_store store
  same_check = rw (s, d)

  same-restore : (m : ℕ) (words : List ℕ) → restore other m words ≡ restore store m words
  unfolding restore
  same-restore m words = rw (s, d)

  same-describe : (m : ℕ) → describe other m ≡ describe store m
  unfolding describe
  same-describe m = rw (s, d)

parts : {v w : Verdict} {l m : List ℕ} → ◌≡◌ {A = Verdict × List ℕ} (v, l) (w, m) → (v ≡ w) × (l ≡ m)
parts h = (ap (λ (o : Verdict × List ℕ). o.0) h, ap (λ (o : Verdict × List ℕ). o.1) h)

module _ (store : List ℕ) (n : ℕ) {verdict : Verdict} {left : List ℕ} (e : (verdict, left) ≡ mark store n) where
  -- what holds of both outcomes
  mark_by : (P : Verdict → List ℕ → Type 0) → ((number place : ℕ) → P (refused number place) store)
      → (sound store ≡ pass → elem n (numbers_of (dumps_of store)) ≡ true → P pass (marked store n)) → P verdict left
  unfolding mark
  mark_by P refuses marks = go (sound store) (elem n (numbers_of (dumps_of store))) refl refl e
    where
      go : (v : Verdict) (b : Bool) → sound store ≡ v → elem n (numbers_of (dumps_of store)) ≡ b
          → (verdict, left) ≡ writes (v ▷ guard (not b) 24 0) store tt (marked store n) → P verdict left
      go (refused number place) b p q h = rw ((parts h).0, (parts h).1) (refuses number place)
      go (gives u) true p q h = rw ((parts h).0, (parts h).1) (marks p q)
      go (gives u) false p q h = rw ((parts h).0, (parts h).1) (refuses 24 0)

  pub mark_keeps : {number place : ℕ} → verdict ≡ refused number place → left ≡ store
  mark_keeps {number} {place} = mark_by (λ v l. v ≡ refused number place → l ≡ store) (λ a b h. refl) (λ s h r. never_both r)

  -- what is accepted
  mark_accepted : verdict ≡ pass → (sound store ≡ pass) × (elem n (numbers_of (dumps_of store)) ≡ true) × (left ≡ marked store n)
  mark_accepted =
      mark_by (λ v l. v ≡ pass → (sound store ≡ pass) × (elem n (numbers_of (dumps_of store)) ≡ true) × (l ≡ marked store n))
      (λ a b h. never_refused h) (λ s h r. (s, h, refl))

  -- accepted or not
  mark-same : (sound left ≡ sound store) × (dumps_of left ≡ dumps_of store)
  mark-same =
      mark_by (λ v l. (sound l ≡ sound store) × (dumps_of l ≡ dumps_of store)) (λ a b. (refl, refl))
      (λ s h. let f = (sound_good store s).formed in (marked_sound store n f, marked_dumps store n f))

  pub mark_checked : check_store left ≡ check_store store
  mark_checked = same_check store left mark-same.0 mark-same.1

  pub mark-restored : (m : ℕ) (words : List ℕ) → restore left m words ≡ restore store m words
  mark-restored = same-restore store left mark-same.0 mark-same.1

  pub mark_described : (m : ℕ) → describe left m ≡ describe store m
  mark_described = same-describe store left mark-same.0 mark-same.1

module _ (store : List ℕ) (n : ℕ) {left : List ℕ} (e : (pass, left) ≡ mark store n) where
  pub mark-one : MarksOne store n left
  mark-one = let a = mark_accepted store n e refl in rw a.2 (marked_one store n (sound_good store a.0).formed a.1)

  pub mark_wanted : (m : ℕ) → elem m (wanted_of left) ≡ (elem m (wanted_of store) && not (eqb m n))
  mark_wanted m =
      let a = mark_accepted store n e refl in
      let g = sound_good store a.0 in
      rw (a.2, marked_records store n g.formed) (wanted_marked n m (records_of store) g.once)

  pub mark_again : {verdict : Verdict} {after : List ℕ} → (verdict, after) ≡ mark left n → (verdict ≡ pass) × (after ≡ left)
  unfolding mark
  mark_again h =
      let a = mark_accepted store n e refl in
      let same = mark-same store n e in
      let stays =
      ap (λ (l : List ℕ). marked l n) a.2
      ∙ ap (λ (rs : List Record). bytes_in (marked_in n rs)) (marked_records store n (sound_good store a.0).formed)
      ∙ ap bytes_in (marked_again n (records_of store)) ∙ sym a.2 in
      parts (h ∙ rw (same.0, same.1, a.0, a.1, stays) refl)
