-- What is said of marking and collecting, over the promises of the library's calls. Assumes nothing.
use mathlib.Core.Path.{refl, sym, ap, ◌∙◌}
use mathlib.Core.List.{List, []}
use Prim.Native.Nat.{ℕ}
use Rattle.refusal.specs.Answer.{Answer, Verdict}
use Rattle.refusal.specs.Tight.{lent, lent_mut}
use Rattle.store.proofs.Checks.{check_named}
use Rattle.restore.proofs.Calls.{Restores, Describes}
use Rattle.restore.proofs.Promises as chain
use Rattle.reclaim.specs.Reclaimed.{Reclaimed, PromisedStore}
use Rattle.reclaim.proofs.Unique.{mark_named, collect_named}
use Rattle.reclaim.proofs.Calls.{Checks, Marks, Collects}
use Rattle.reclaim.proofs.Reclaims as laws
use Rattle.refusal.proofs.Laws.{answer_back, answer_meant}

promised : PromisedStore Checks Restores Describes Marks Collects
promised =
    record {
      checks = λ c. sym c.answer_is ∙ (rw c.given at c.promise);
      dumps = chain.promised;
      marks = λ m. let g = m.given in rw (g.0, g.1, m.left, m.answer_is) at m.promise;
      collects = λ c. rw (c.given, c.left, c.answer_is) at c.promise;
      can_check = λ {store = store} {answer} e.
          let meant = answer_meant answer (rw e at (check_named store)) in
          record {
            lifetimes = ([], tt);
            arguments = (lent store, tt);
            said = answer_back answer;
            exit = (lent store, tt);
            promise = meant ∙ sym e;
            given = refl;
            answer_is = meant;
            left = tt;
          };
      can_mark = λ {store = store} {n} {verdict} {left} e.
          let meant = answer_meant verdict (rw (ap (λ (o : Verdict × List ℕ). o.0) e) at (mark_named store n)) in
          record {
            lifetimes = ([], tt);
            arguments = (lent_mut store, (n, tt));
            said = answer_back verdict;
            exit = (lent_mut left, (n, tt));
            promise = ap (λ (a : Verdict). (a, left)) meant ∙ sym e;
            given = (refl, refl);
            answer_is = meant;
            left = refl;
          };
      can_collect = λ {store = store} {answer} {left} e.
          let meant = answer_meant answer (rw (ap (λ (o : Answer ℕ × List ℕ). o.0) e) at (collect_named store)) in
          record {
            lifetimes = ([], tt);
            arguments = (lent_mut store, tt);
            said = answer_back answer;
            exit = (lent_mut left, tt);
            promise = ap (λ (a : Answer ℕ). (a, left)) meant ∙ sym e;
            given = refl;
            answer_is = meant;
            left = refl;
          };
    }

pub reclaimed : Reclaimed Checks Restores Describes Marks Collects
reclaimed = laws.reclaimed promised
