-- What is said of restoring and describing a dump, over the promises of the library's calls. Assumes nothing.
use mathlib.Core.Path.{refl, sym, ap, ◌∙◌}
use mathlib.Core.List.{List, []}
use Prim.Native.Nat.{ℕ}
use Rattle.refusal.specs.Answer.{Answer}
use Rattle.refusal.specs.Tight.{lent, lent_mut}
use Rattle.chain.specs.Chained.{Chained, PromisedChain}
use Rattle.chain.specs.Audit.{AuditedDump}
use Rattle.chain.proofs.Named.{restore_named, describe_named}
use Rattle.chain.proofs.Unique.{described_back, described_meant}
use Rattle.edit.proofs.Worker.{family}
use Rattle.edit.proofs.Demand as edit
use Rattle.restore.proofs.Calls.{Restores, Describes}
use Rattle.restore.proofs.Chains as laws
use Rattle.restore.proofs.Splices as splices
use Rattle.refusal.proofs.Laws.{answer_back, answer_meant}

pub promised : PromisedChain Restores Describes
promised =
    record {
      restores = λ r. let g = r.given in rw (g.0, g.1, g.2, r.left, r.answer_is) at r.promise;
      describes = λ d. let g = d.given in sym d.answer_is ∙ (rw (g.0, g.1) at d.promise);
      can_restore = λ {store = store} {n} {words} {answer} {left} e.
          let meant = answer_meant answer (rw (ap (λ (o : Answer ℕ × List ℕ). o.0) e) at (restore_named store n words)) in
          record {
            lifetimes = ([], ([], tt));
            arguments = (lent store, (n, (lent_mut words, tt)));
            said = answer_back answer;
            exit = (lent store, (n, (lent_mut left, tt)));
            promise = ap (λ (a : Answer ℕ). (a, left)) meant ∙ sym e;
            given = (refl, refl, refl);
            answer_is = meant;
            left = refl;
          };
      can_describe = λ {store = store} {n} {answer} e.
          let meant = described_meant answer (rw e at (describe_named store n)) in
          record {
            lifetimes = ([], tt);
            arguments = (lent store, (n, tt));
            said = described_back answer;
            exit = (lent store, (n, tt));
            promise = meant ∙ sym e;
            given = (refl, refl);
            answer_is = meant;
            left = tt;
          };
    }

pub chained : Chained Restores Describes
chained = laws.chained promised

-- the calls that edit a message are the library's
pub audited : AuditedDump Restores family.calls
audited = splices.audited promised (λ words len patches fits. (edit.audited).demand3 fits)
