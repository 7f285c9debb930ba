-- What is promised of marking and collecting holds of any calls that promise the definitions. Assumes nothing.
use mathlib.Core.Path.{◌≡◌, refl, sym, ap, ◌∙◌}
use mathlib.Core.List.{List}
use Prim.Native.Nat.{ℕ}
use lib.ListN.{length, take}
use Rattle.refusal.specs.Answer.{Answer, gives, refused, Verdict}
use Rattle.store.specs.Store.{check_store}
use Rattle.chain.specs.Restore.{restore, describe}
use Rattle.chain.specs.Chained.{Restorer, Describer}
use Rattle.restore.proofs.Chains.{alike}
use Rattle.reclaim.specs.Reclaim.{mark, collected, collect}
use Rattle.reclaim.specs.Reclaimed.{Checker, Marker, Collector, Reclaimed, PromisedStore}
use Rattle.reclaim.proofs.Marks.{mark_keeps, mark-one, mark_wanted, mark_checked, mark-restored, mark_described, mark_again}
use Rattle.reclaim.proofs.Reaching.{stays_needed, needed_stays}
use Rattle.reclaim.proofs.Collects.{Collection, collection, left_held, left_restored, left_described, left_missing, left_undescribed, left_unmarked, left_free, collect_again, collect_keeps, Accepted, accepted, grows_never}
use Rattle.reclaim.proofs.Fewest.{fewest_held}

module _ {Checks : Checker} {Restores : Restorer} {Describes : Describer} {Marks : Marker} {Collects : Collector}
    (promised : PromisedStore Checks Restores Describes Marks Collects) where
  -- a collection that is accepted
  module _ {store : List ℕ} {len : ℕ} {left : List ℕ} (c : Collects store (gives len) left) where
    done : Accepted store len left
    done = accepted store (promised.collects c)

    kept : Collection store
    kept = collection store done.is_sound

    again : {answer : Answer ℕ} {after : List ℕ} → Collects (take len left) answer after → (answer ≡ gives len) × (after ≡ take len left)
    again {answer} {after} d =
        let same : ◌≡◌ {A = Answer ℕ × List ℕ} (answer, after) (gives (length (collected store)), collected store) =
        promised.collects d ∙ ap collect done.used ∙ collect_again store done.is_sound in (
          ap (λ (o : Answer ℕ × List ℕ). o.0) same ∙ ap (λ (k : ℕ). gives k) done.length_is,
          ap (λ (o : Answer ℕ × List ℕ). o.1) same ∙ sym done.used,
        )

  pub reclaimed : Reclaimed Checks Restores Describes Marks Collects
  reclaimed =
      record {
        answers = λ store. (
          record { answer = check_store store; left = tt; call = promised.can_check refl },
          λ n. record { answer = (mark store n).0; left = (mark store n).1; call = promised.can_mark refl },
          record { answer = (collect store).0; left = (collect store).1; call = promised.can_collect refl },
        );
        mark_refused = λ {store} {n} c. mark_keeps store n (promised.marks c) refl;
        collect_refused = λ {store} c. collect_keeps store (promised.collects c);
        marks_one = λ {store} {n} c. mark-one store n (promised.marks c);
        marks_wanted = λ {store} {n} c. mark_wanted store n (promised.marks c);
        marks_checked = λ {store} {n} c a b. promised.checks a ∙ sym (mark_checked store n (promised.marks c)) ∙ sym (promised.checks b);
        marks_restored = λ {store} {n} c {m} {words} a b.
            alike promised.dumps a b (sym (mark-restored store n (promised.marks c) m words));
        marks_described = λ {store} {n} c {m} a b.
            promised.dumps.describes a ∙ sym (mark_described store n (promised.marks c) m) ∙ sym (promised.dumps.describes b);
        marks_again = λ {store} {n} c d. mark_again store n (promised.marks c) (promised.marks d);
        stays_exactly = λ store n. (stays_needed store n, needed_stays store n);
        never_grows = λ {store} c. grows_never store (done c);
        good = λ {store} c. rw (done c).used ((kept c).passes, (kept c).records);
        kept_exactly = λ {store} c n d. rw (done c).used (left_held store (done c).is_sound n d);
        same_wanted = λ c. rw (done c).used (kept c).wanted;
        same-restored = λ {store} c {n} k {words} a b.
            alike promised.dumps a b
            (left_restored store (done c).is_sound n words k ∙ ap (λ (s : List ℕ). restore s n words) (sym (done c).used));
        same_described = λ {store} c {n} k a b.
            promised.dumps.describes a
            ∙ left_described store (done c).is_sound n k
            ∙ ap (λ (s : List ℕ). describe s n) (sym (done c).used)
            ∙ sym (promised.dumps.describes b);
        freed_missing = λ {store} c {n} h {words} {answer} {new} short r.
            let same : ◌≡◌ {A = Answer ℕ × List ℕ} (answer, new) (refused 24 0, words) =
            promised.dumps.restores r
            ∙ ap (λ (s : List ℕ). restore s n words) (done c).used
            ∙ sym (left_missing store (done c).is_sound n words h short) in
            (ap (λ (o : Answer ℕ × List ℕ). o.0) same, ap (λ (o : Answer ℕ × List ℕ). o.1) same);
        freed_described = λ {store} c {n} h d.
            promised.dumps.describes d ∙ ap (λ (s : List ℕ). describe s n) (done c).used ∙ left_undescribed store (done c).is_sound n h;
        freed_unmarked = λ {store} c {n} h {verdict} {after} m.
            ap (λ (o : Verdict × List ℕ). o.0)
            (promised.marks m ∙ ap (λ (s : List ℕ). mark s n) (done c).used ∙ left_unmarked store (done c).is_sound n h);
        used_again = λ {store} c more f one e h a b.
            let free = left_free store (done c).is_sound more f one e h in (
              promised.checks a ∙ free.0,
              rw (done c).used (rw (done c).used at (promised.checks b) ∙ free.1),
              rw (done c).used free.2,
            );
        collects_again = λ c d. again c d;
        fewest = λ store other more s t part formed a b w n steps wanted come e {words} short found r q.
            fewest_held store other more s t part formed a b w n steps come e words short found (promised.dumps.restores q);
      }
