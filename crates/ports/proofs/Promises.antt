-- What is said of interleaved streams, over the promises of the library's calls. Assumes nothing.
use mathlib.Core.Path.{refl, sym, ap, ◌∙◌}
use mathlib.Core.List.{[]}
use Rattle.refusal.specs.Answer.{Answer}
use Rattle.refusal.specs.Tight.{lent, lent_mut}
use Rattle.ports.specs.Streams.{Reply}
use Rattle.ports.specs.Table.{empty_table, receive}
use Rattle.ports.specs.Interleaved.{Interleaved, PromisedPorts}
use Rattle.ports.proofs.Named.{receive_named, received_back, received_meant}
use Rattle.ports.proofs.Calls.{Clears, Receives}
use Rattle.ports.proofs.Interleaving as laws

promised : PromisedPorts Receives Clears
promised =
    record {
      receives = λ c. let g = c.given in rw (g.0, g.1, g.2, g.3, g.4, c.left, c.answer_is) at c.promise;
      can_receive = λ table words port packet output whole.
          let outcome = receive table words port packet output in
          let meant = received_meant outcome.0 (receive_named table words port packet output) in
          record {
            lifetimes = ([], ([], ([], ([], tt))));
            arguments = (lent_mut table, (lent_mut words, (port, (lent packet, (lent_mut output, tt)))));
            said = received_back outcome.0;
            exit = (lent_mut outcome.1.0, (lent_mut outcome.1.1, (port, (lent packet, (lent_mut outcome.1.2, tt)))));
            promise = ap (λ (a : Answer Reply). (a, outcome.1)) meant;
            given = (refl, refl, refl, refl, refl);
            answer_is = meant;
            left = refl;
          };
      clears = λ c. sym c.left ∙ c.promise;
      can_clear = λ table whole.
          record {
            lifetimes = ([], tt);
            arguments = (lent_mut table, tt);
            said = tt;
            exit = (lent_mut empty_table, tt);
            promise = refl;
            given = refl;
            answer_is = refl;
            left = refl;
          };
    }

pub interleaved : Interleaved Receives Clears
interleaved = laws.interleaved promised
