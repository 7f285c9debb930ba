-- What is said of looking for a byte of a dump, over the promises of the library's calls. Assumes nothing.
use mathlib.Core.Path.{refl, sym, ◌∙◌}
use mathlib.Core.List.{[]}
use Rattle.refusal.specs.Tight.{lent}
use Rattle.restore.proofs.Calls.{Restores, Describes}
use Rattle.restore.proofs.Promises as chain
use Rattle.look.proofs.Calls.{Reads}
use Rattle.look.proofs.Named.{said_of, said_meant}
use Rattle.look_store.specs.Looked.{Looked, PromisedLook}
use Rattle.look_store.proofs.Unique.{byte_named}
use Rattle.look_store.proofs.Calls.{LooksAt}
use Rattle.look_store.proofs.Comparing as laws

promised : PromisedLook Restores Describes Reads LooksAt
promised =
    record {
      dumps = chain.promised;
      reads = λ r. let g = r.given in sym r.answer_is ∙ (rw (g.0, g.1, g.2) at r.promise);
      looks = λ l. let g = l.given in sym l.answer_is ∙ (rw (g.0, g.1, g.2) at l.promise);
      can_read = λ {words = words} {len} {i} {answer} e h.
          record {
            lifetimes = ([], tt);
            arguments = (lent words, (len, (i, tt)));
            said = said_of h;
            exit = (lent words, (len, (i, tt)));
            promise = said_meant h ∙ sym e;
            given = (refl, refl, refl);
            answer_is = said_meant h;
            left = tt;
          };
      can_look = λ {store = store} {n} {i} {answer} e.
          let h = rw e at (byte_named store n i) in
          record {
            lifetimes = ([], tt);
            arguments = (lent store, (n, (i, tt)));
            said = said_of h;
            exit = (lent store, (n, (i, tt)));
            promise = said_meant h ∙ sym e;
            given = (refl, refl, refl);
            answer_is = said_meant h;
            left = tt;
          };
    }

pub looked : Looked Restores Describes Reads LooksAt
looked = laws.looked promised
