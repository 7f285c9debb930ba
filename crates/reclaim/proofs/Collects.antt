-- What collecting keeps and what it frees; collecting again changes nothing further (02, T-13). Assumes nothing.
use Rattle.std.specs.Prelude.{Some}
use mathlib.Core.Path.{◌≡◌, refl, sym, ap, ◌∙◌}
use mathlib.Core.Logic.{◌↔◌}
use mathlib.Core.Bool.{Bool, true, false}
use mathlib.Core.List.{List, [], ◌∷◌, ◌++◌, append-nil}
use Prim.Native.Nat.{ℕ, suc, ◌-◌, ◌≤◌}
use native.Mathlib.Omega.{arith}
use lib.ListN.{length, take, replicate}
use lib.Seq.{take_at}
use Rattle.refusal.specs.Answer.{Answer, gives, refused, Verdict, pass, writes}
use Rattle.refusal.proofs.Laws.{never_refused, writes_given}
use Rattle.ump.specs.Limits.{most_words}
use Rattle.ump.specs.Edits.{elem}
use Rattle.store.specs.Store.{records_of, at_start, well_formed, Dump, dump_number, dumps_of, held, numbers_of, sound, check_store}
use Rattle.store.proofs.Records.{and-true}
use Rattle.store.proofs.Checks.{sound_good}
use Rattle.chain.specs.Walk.{comes, IsMissing}
use Rattle.chain.specs.Restore.{exceeds, unlimited, answered, restore, describe}
use Rattle.chain.proofs.Walks.{never_none, missing_start}
use Rattle.chain.proofs.Describing.{described_refused, describe_is}
use Rattle.restore.proofs.Groups.{restore_is}
use Rattle.reclaim.specs.Reclaim.{bytes_in, wanted_in, wanted_of, stays, kept_in, mark, collected, lent_after, collect}
use Rattle.reclaim.specs.Reclaimed.{Needed}
use Rattle.reclaim.proofs.Bytes.{bytes_records}
use Rattle.reclaim.proofs.Again.{again_before, again_after, again_held}
use Rattle.reclaim.proofs.Reaching.{stays_needed, needed_stays, freed_goes, wanted_needed}
use Rattle.reclaim.proofs.Kept.{elem_kept, held-freed, kept_all, wanted_kept, kept_length, kept_records, kept-dumps, kept_sound}
use Rattle.reclaim.proofs.Staying.{staying, staying_held, freed-held, staying_comes, staying_begun, staying_told}

-- ---- the store that is left

-- what is known of it
pub record Collection (store : List ℕ) : Type 0 where
  pub records : records_of (collected store) ≡ kept_in (stays store) false (records_of store)
  pub dumps : dumps_of (collected store) ≡ staying store
  pub wanted : wanted_of (collected store) ≡ wanted_of store
  pub passes : sound (collected store) ≡ pass

pub collection : (store : List ℕ) → sound store ≡ pass → Collection store
unfolding collected
collection store s =
    record {
      records = kept_records (stays store) store s;
      dumps = kept-dumps (stays store) store s;
      wanted = ap wanted_in (kept_records (stays store) store s)
          ∙ wanted_kept (stays store) false (records_of store) (λ n e. needed_stays store n (wanted_needed store n e));
      passes = kept_sound (stays store) store s;
    }

module _ (store : List ℕ) (s : sound store ≡ pass) where
  abbrev new : List ℕ
  new = collected store

  c : Collection store
  c = collection store s

  -- it holds exactly the dumps that stay
  pub left_held : (n : ℕ) (d : Dump) → (held (dumps_of new) n ≡ Some d) ↔ ((held (dumps_of store) n ≡ Some d) × Needed store n)
  left_held n d = rw c.dumps (
    (λ e. go (stays store n) refl e),
    (λ p. sym (staying_held store n p.1) ∙ p.0),
  )
    where
      go : (b : Bool) → stays store n ≡ b → held (staying store) n ≡ Some d → (held (dumps_of store) n ≡ Some d) × Needed store n
      go true q e = let k = stays_needed store n q in (staying_held store n k ∙ e, k)
      go false q e = never_none (sym (held-freed (stays store) n q (dumps_of store)) ∙ e)

  -- each of them is restored and described as before
  pub left_restored : (n : ℕ) (words : List ℕ) → Needed store n → restore store n words ≡ restore new n words
  unfolding restore
  left_restored n words k = rw (s, c.passes, c.dumps, staying_begun store (exceeds (length words)) n k)

  pub left_described : (n : ℕ) → Needed store n → describe store n ≡ describe new n
  unfolding describe
  left_described n k = rw (s, c.passes, c.dumps) (staying_told store n k)

  -- any other number is Missing
  left_gone : (n : ℕ) → (Needed store n → ⊥) → IsMissing (dumps_of new) n
  unfolding comes
  left_gone n h =
      record { steps = 0; number = n; come = refl; none-held = ap (λ (ds : List Dump). held ds n) c.dumps ∙ freed-held store n h }

  pub left_missing : (n : ℕ) (words : List ℕ) → (Needed store n → ⊥) → length words ≤ most_words
      → ◌≡◌ {A = Answer ℕ × List ℕ} (refused 24 0, words) (restore new n words)
  left_missing n words h short =
      ap (answered words) (sym (missing_start (exceeds (length words)) (dumps_of new) n (left_gone n h))) ∙ restore_is new n words short c.passes

  pub left_undescribed : (n : ℕ) → (Needed store n → ⊥) → describe new n ≡ refused 24 0
  left_undescribed n h =
      sym (describe_is new n c.passes) ∙ sym (described_refused (dumps_of new) (suc (length (dumps_of new))) n (missing_start unlimited (dumps_of new) n (left_gone n h)))

  pub left_unmarked : (n : ℕ) → (Needed store n → ⊥) → mark new n ≡ (refused 24 0, new)
  unfolding mark
  left_unmarked n h = rw (c.passes, c.dumps, elem_kept (stays store) n (dumps_of store), freed_goes store n h)

  -- and may be used again, where it was Twice before
  pub left_free : (more : List ℕ) {d : Dump} → well_formed at_start (records_of more) ≡ true → dumps_of more ≡ d ∷ []
      → elem (dump_number d) (numbers_of (dumps_of store)) ≡ true → (Needed store (dump_number d) → ⊥)
      → (check_store (store ++ more) ≡ refused 22 0) × (check_store (new ++ more) ≡ gives (suc (length (dumps_of new))))
      × (held (dumps_of (new ++ more)) (dump_number d) ≡ Some d)
  unfolding collected
  left_free more {d} f one e h =
      let k = freed_goes store (dump_number d) h in (
        again_before store more s f one e,
        again_after store more s f one e (stays store) k,
        again_held store more s f one e (stays store) k,
      )

  -- the walks of the wanted dumps are the same
  left_needed : (n : ℕ) → Needed store n → Needed new n
  left_needed n k =
      record {
        wanted = k.wanted;
        is-wanted = ap (elem k.wanted) c.wanted ∙ k.is-wanted;
        steps = k.steps;
        come = ap (λ (ds : List Dump). comes ds k.steps k.wanted) c.dumps
            ∙ sym (staying_comes store k.steps k.wanted (wanted_needed store k.wanted k.is-wanted))
            ∙ k.come;
      }

  left_again : collected new ≡ new
  unfolding collected
  left_again =
      ap bytes_in (kept_all (stays new) (records_of new) (sound_good new c.passes).formed (λ n e.
      let in_both = sym (elem_kept (stays store) n (dumps_of store)) ∙ ap (λ (ds : List Dump). elem n (numbers_of ds)) (sym c.dumps) ∙ e in
      let stayed = (and-true (stays store n) (elem n (numbers_of (dumps_of store))) in_both).0 in
      needed_stays new n (left_needed n (stays_needed store n stayed))))
      ∙ bytes_records new

  pub collect_again : collect new ≡ (gives (length new), new)
  unfolding collect
  collect_again =
      let none_more : length new - length new ≡ 0 = omega arith in
      rw (c.passes, left_again, none_more) (ap (λ (l : List ℕ). (gives (length new), l)) (append-nil new))

-- ---- the call

-- a refusal leaves the store as it was
pub collect_keeps : (store : List ℕ) {number place : ℕ} {left : List ℕ}
    → ◌≡◌ {A = Answer ℕ × List ℕ} (refused number place, left) (collect store) → left ≡ store
unfolding collect
collect_keeps store {number} {place} {left} e = go (sound store) e
  where
    go : (v : Verdict)
        → ◌≡◌ {A = Answer ℕ × List ℕ} (refused number place, left) (writes v store (length (collected store)) (lent_after store))
        → left ≡ store
    go (gives u) h = never_refused (ap (λ (o : Answer ℕ × List ℕ). o.0) h)
    go (refused k l) h = ap (λ (o : Answer ℕ × List ℕ). o.1) h

-- a collection that is accepted
pub record Accepted (store : List ℕ) (len : ℕ) (left : List ℕ) : Type 0 where
  pub is_sound : sound store ≡ pass
  pub length_is : length (collected store) ≡ len
  pub left_is : lent_after store ≡ left
  pub used : take len left ≡ collected store

pub accepted : (store : List ℕ) {len : ℕ} {left : List ℕ} → ◌≡◌ {A = Answer ℕ × List ℕ} (gives len, left) (collect store)
    → Accepted store len left
unfolding collect
accepted store {len} {left} e =
    let w = writes_given (sound store) store (lent_after store) (length (collected store)) (sym e) in
    record {
      is_sound = w.0;
      length_is = w.1;
      left_is = w.2;
      used = ap (take len) (sym w.2) ∙ take_at (collected store) (replicate (length store - length (collected store)) 0) len w.1;
    }

pub grows_never : (store : List ℕ) {len : ℕ} {left : List ℕ} → Accepted store len left
    → (len ≤ length store) × (left ≡ take len left ++ replicate (length store - len) 0)
unfolding collected
grows_never store a = (
  omega (arith, kept_length (stays store) store, a.length_is),
  sym a.left_is ∙ rw (a.used, a.length_is),
)
