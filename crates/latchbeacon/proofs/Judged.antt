-- What is said of checking what other senders write, over the promise of the exported call. Assumes nothing.
use mathlib.Core.Path.{◌≡◌, refl, sym, ap, ◌∙◌}
use mathlib.Core.List.{List, [], ◌∷◌}
use Prim.Native.Nat.{ℕ}
use native.Mathlib.Omega.{arith}
use lib.ListN.{length}
use Rattle.refusal.specs.Tight.{lent}
use Rattle.ump.specs.Packet.{sysex8}
use Rattle.carries.specs.Carries.{carries}
use Rattle.carries.specs.Senders.{Judged, PromisedCarrier}
use Rattle.carries.proofs.Named.{carries_named}
use Rattle.carries.proofs.Judging as judging
use Rattle.answers.specs.Answers.{done_answer}
use Rattle.answers.specs.Read.{done_read}
use Rattle.latchbeacon.proofs.Demand.{done-read}
use Rattle.latchbeacon.proofs.Asker.{Asks}

can_ask : (words : List ℕ) (len : ℕ) (bytes : List ℕ) (group : ℕ) (id : List ℕ) → length id ≡ 1 → Asks words len bytes group id (carries sysex8 words len bytes group id)
can_ask words len bytes group [] h = absurd (omega arith)
can_ask words len bytes group (x ∷ y ∷ id) h = absurd (omega arith)
can_ask words len bytes group (x ∷ []) h =
    record {
      lifetimes = ([], ([], tt));
      arguments = (lent words, (len, (lent bytes, (group, (x, tt)))));
      said = done_answer (carries sysex8 words len bytes group (x ∷ []));
      exit = (lent words, (len, (lent bytes, (group, (x, tt)))));
      promise = refl;
      given = (refl, refl, refl, refl, refl);
      answer_is = done-read (carries sysex8 words len bytes group (x ∷ [])) (carries_named sysex8 words len bytes group (x ∷ []));
      left = tt;
    }

promised : PromisedCarrier sysex8 Asks
promised =
    record {
      asks = λ {words = words} {len} {bytes} {group} {id} c.
          let g = c.given in
          sym c.answer_is
          ∙ ap done_read (rw (g.0, g.1, g.2, g.3, g.4) at c.promise)
          ∙ done-read (carries sysex8 words len bytes group id) (carries_named sysex8 words len bytes group id);
      can_ask = can_ask;
    }

pub judged : Judged sysex8 Asks
judged = judging.judged sysex8 refl promised
