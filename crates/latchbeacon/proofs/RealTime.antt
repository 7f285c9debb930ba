-- What is said of real-time bytes, over the promise of the exported call. Assumes nothing.
use mathlib.Core.Path.{refl, sym, ap}
use mathlib.Core.List.{[]}
use Rattle.refusal.specs.Answer.{gives}
use Rattle.refusal.specs.Tight.{lent, lent_mut}
use Rattle.ump.specs.Stream.{to_sysex7}
use Rattle.ump.specs.RealTime.{PassesOver, PromisedWriter}
use Rattle.ump.proofs.Named.{stream_named}
use Rattle.ump.proofs.RealTime as laws
use Rattle.answers.specs.Answers.{leaving, number_answer}
use Rattle.answers.specs.Read.{number_read}
use Rattle.latchbeacon.proofs.Demand.{number_read_lem, read_leaving}
use Rattle.latchbeacon.proofs.Writer.{Writes}

promised : PromisedWriter Writes
promised =
    record {
      says = λ bytes group words answer left w.
          let g = w.given in
          read_leaving number_answer number_read (to_sysex7 bytes group words) (rw (g.0, g.1, g.2, w.left) at w.promise) w.answer_is
          (number_read_lem _ (stream_named bytes group words));
      can_answer = λ bytes group words n left e. record {
        lifetimes = ([], ([], tt));
        arguments = (lent bytes, (group, (lent_mut words, tt)));
        said = number_answer (gives n);
        exit = (lent bytes, (group, (lent_mut left, tt)));
        promise = sym (ap (leaving number_answer) e);
        given = (refl, refl, refl);
        answer_is = refl;
        left = refl;
      };
    }

pub passes_over : PassesOver Writes
passes_over = laws.passes_over promised
