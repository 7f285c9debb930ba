-- What is said of real-time bytes, over the promise of the library's call. Assumes nothing.
use Rattle.std.specs.Prelude.{Ok}
use mathlib.Core.Path.{refl, sym}
use mathlib.Core.List.{[]}
use Rattle.refusal.specs.Tight.{lent, lent_mut}
use Rattle.ump.specs.RealTime.{PassesOver, PromisedWriter}
use Rattle.ump.proofs.RealTime as laws
use Rattle.stream.proofs.Writer.{Writes}

promised : PromisedWriter Writes
promised =
    record {
      says = λ bytes group words answer left w.
          let g = w.given in
          rw (g.0, g.1, g.2, w.answer_is, w.left) at w.promise;
      can_answer = λ bytes group words n left e. record {
        lifetimes = ([], ([], tt));
        arguments = (lent bytes, (group, (lent_mut words, tt)));
        said = Ok n;
        exit = (lent bytes, (group, (lent_mut left, tt)));
        promise = sym e;
        given = (refl, refl, refl);
        answer_is = refl;
        left = refl;
      };
    }

pub passes_over : PassesOver Writes
passes_over = laws.passes_over promised
