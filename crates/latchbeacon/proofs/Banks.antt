-- What is said of a store of dumps, over the promises of the exported calls. Assumes nothing.
use Rattle.std.specs.Prelude.{Option, None, Some}
use mathlib.Core.Path.{◌≡◌, refl, sym, ap, ◌∙◌}
use mathlib.Core.List.{List, []}
use Prim.Native.Nat.{ℕ}
use Rattle.refusal.specs.Answer.{Answer, gives, refused, Verdict}
use Rattle.refusal.specs.Number.{Named, named}
use Rattle.refusal.specs.Tight.{lent, lent_mut}
use Rattle.store.specs.Store.{check_store}
use Rattle.store.proofs.Checks.{check_named}
use Rattle.chain.specs.Restore.{restore, Description, describe}
use Rattle.chain.specs.Chained.{Chained, PromisedChain}
use Rattle.chain.specs.Audit.{AuditedDump}
use Rattle.chain.proofs.Named.{restore_named, describe_named}
use Rattle.restore.proofs.Chains as laws
use Rattle.restore.proofs.Splices as splices
use Rattle.reclaim.specs.Reclaim.{mark, collect}
use Rattle.reclaim.specs.Reclaimed.{Reclaimed, PromisedStore}
use Rattle.reclaim.proofs.Unique.{mark_named, collect_named}
use Rattle.reclaim.proofs.Reclaims as reclaims
use Rattle.answers.specs.Answers.{leaving, number_answer, done_answer, dump_answer}
use Rattle.answers.specs.Read.{number_read, done_read, dump_read}
use Rattle.latchbeacon.proofs.Worker.{family}
use Rattle.latchbeacon.proofs.Demand as demand
use Rattle.latchbeacon.proofs.Demand.{read_refused, number_read_lem, done-read, read_leaving}
use Rattle.latchbeacon.proofs.Restorer.{Restores, Describes, Checks, Marks, Collects}

-- each answer is read back from its struct
dump-given : (d : Description) (base : Option ℕ) → d.base ≡ base → dump_read (dump_answer (gives d)) ≡ gives d
dump-given d None e = rw e
dump-given d (Some base) e = rw e

dump-read : (answer : Answer Description) → Named answer → dump_read (dump_answer answer) ≡ answer
dump-read (gives d) h = dump-given d d.base refl
dump-read (refused number place) (named r) = read_refused r place _

pub promised : PromisedChain Restores Describes
promised =
    record {
      restores = λ {store = store} {n} {words} r.
          let g = r.given in
          read_leaving number_answer number_read (restore store n words) (rw (g.0, g.1, g.2, r.left) at r.promise) r.answer_is
          (number_read_lem _ (restore_named store n words));
      describes = λ {store = store} {n} d.
          let g = d.given in
          sym d.answer_is ∙ ap dump_read (rw (g.0, g.1) at d.promise) ∙ dump-read (describe store n) (describe_named store n);
      can_restore = λ {store = store} {n} {words} {answer} {left} e. record {
        lifetimes = ([], ([], tt));
        arguments = (lent store, (n, (lent_mut words, tt)));
        said = number_answer answer;
        exit = (lent store, (n, (lent_mut left, tt)));
        promise = sym (ap (leaving number_answer) e);
        given = (refl, refl, refl);
        answer_is = number_read_lem answer (rw (ap (λ (o : Answer ℕ × List ℕ). o.0) e) at (restore_named store n words));
        left = refl;
      };
      can_describe = λ {store = store} {n} {answer} e. record {
        lifetimes = ([], tt);
        arguments = (lent store, (n, tt));
        said = dump_answer answer;
        exit = (lent store, (n, tt));
        promise = sym (ap dump_answer e);
        given = (refl, refl);
        answer_is = dump-read answer (rw e at (describe_named store n));
        left = tt;
      };
    }

pub chained : Chained Restores Describes
chained = laws.chained promised

-- the calls that edit a message are the exported ones
pub audited : AuditedDump Restores family.calls
audited = splices.audited promised (λ words len patches fits. (demand.audited).demand3 fits)

-- ---- marking and collecting

changed : PromisedStore Checks Restores Describes Marks Collects
changed =
    record {
      checks = λ {store = store} c.
          sym c.answer_is ∙ ap number_read (rw c.given at c.promise) ∙ number_read_lem (check_store store) (check_named store);
      dumps = promised;
      marks = λ {store = store} {n} m.
          let g = m.given in
          read_leaving done_answer done_read (mark store n) (rw (g.0, g.1, m.left) at m.promise) m.answer_is
          (done-read _ (mark_named store n));
      collects = λ {store = store} c.
          read_leaving number_answer number_read (collect store) (rw (c.given, c.left) at c.promise) c.answer_is
          (number_read_lem _ (collect_named store));
      can_check = λ {store = store} {answer} e. record {
        lifetimes = ([], tt);
        arguments = (lent store, tt);
        said = number_answer answer;
        exit = (lent store, tt);
        promise = sym (ap number_answer e);
        given = refl;
        answer_is = number_read_lem answer (rw e at (check_named store));
        left = tt;
      };
      can_mark = λ {store = store} {n} {verdict} {left} e. record {
        lifetimes = ([], tt);
        arguments = (lent_mut store, (n, tt));
        said = done_answer verdict;
        exit = (lent_mut left, (n, tt));
        promise = sym (ap (leaving done_answer) e);
        given = (refl, refl);
        answer_is = done-read verdict (rw (ap (λ (o : Verdict × List ℕ). o.0) e) at (mark_named store n));
        left = refl;
      };
      can_collect = λ {store = store} {answer} {left} e. record {
        lifetimes = ([], tt);
        arguments = (lent_mut store, tt);
        said = number_answer answer;
        exit = (lent_mut left, tt);
        promise = sym (ap (leaving number_answer) e);
        given = refl;
        answer_is = number_read_lem answer (rw (ap (λ (o : Answer ℕ × List ℕ). o.0) e) at (collect_named store));
        left = refl;
      };
    }

pub reclaimed : Reclaimed Checks Restores Describes Marks Collects
reclaimed = reclaims.reclaimed changed
