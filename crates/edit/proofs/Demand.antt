-- Demand 3, and all that an auditor asks, over the promises of the library's calls. Assumes nothing.
use Rattle.std.specs.Prelude.{Ok}
use mathlib.Core.Path.{◌≡◌, refl, sym, ap, ◌∙◌}
use mathlib.Core.Bool.{Bool}
use mathlib.Core.List.{[], ◌∷◌}
use lib.Dec.{lit<}
use Rattle.refusal.specs.Answer.{Answer, gives, refused, map_answer}
use Rattle.refusal.specs.Tight.{lent, lent_mut}
use Rattle.refusal.proofs.Laws.{never_refused}
use Rattle.ump.specs.Packet.{sysex8}
use Rattle.ump.specs.Edits.{Edit, Range, move_edit}
use Rattle.ump.specs.Origin.{Origin, header_octet, carried, dump_byte, edit_byte, filler, zeroed, untouched}
use Rattle.ump.specs.Worker.{with_range, Finishes, bytes_of, start}
use Rattle.ump.specs.Demand.{Audited}
use Rattle.ump.specs.Samples.{message5, patches8}
use Rattle.ump.specs.Meets.{PlainAnswers, PromisedFamily}
use Rattle.ump.specs.Orders.{BehindDiffers}
use Rattle.ump.proofs.Limits.{dense8}
use Rattle.ump.proofs.NotEmpty.{fits8}
use Rattle.ump.proofs.Orders as orders
use Rattle.edit.specs.Meaning.{origin_meaning}
use Rattle.edit.proofs.AnswersFixed.{origin_back}
use Rattle.edit.proofs.Worker.{struct, Moves, family}
use Rattle.edit.proofs.Audit as audit

-- ---- a call for each outcome that the definitions give

answers : PlainAnswers sysex8 family.calls
answers =
    record {
      can_splice = λ {words = words} {left} {len} {edit} {bytes} {change} b e. record {
        lifetimes = ([], ([], tt));
        arguments = (lent_mut words, (len, (edit.from, (edit.to, (lent bytes, tt)))));
        said = Ok (record { length = change.length; growth = change.growth });
        exit = (lent_mut left, (len, (edit.from, (edit.to, (lent bytes, tt)))));
        promise = sym e;
        given = (refl, refl, refl, refl, refl);
        answer_is = refl;
        left = refl;
      };
      can_move = λ {done = done} {pending} {done_first = done_first} e. can done pending done_first (move_edit done pending done_first) refl e;
    }
  where
    can : (done pending : Edit) (done_first : Bool) (answer : Answer Range) {edit : Edit} → move_edit done pending done_first ≡ answer
        → map_answer (with_range pending) answer ≡ gives edit → Moves done pending done_first (gives edit)
    can done pending done_first (gives range) e f =
        record {
          lifetimes = tt;
          arguments = (struct done, (struct pending, (done_first, tt)));
          said = Ok (record { from = range.from; to = range.to });
          exit = (struct done, (struct pending, (done_first, tt)));
          promise = sym e;
          given = refl;
          answer_is = f;
          left = tt;
        }
    can done pending done_first (refused number place) e f = never_refused f

-- each origin is the meaning of an answer
origin-back : (o : Origin) → origin_meaning (origin_back (gives o)) ≡ gives o
origin-back (header_octet packet octet) = refl
origin-back (carried (dump_byte byte)) = refl
origin-back (carried (edit_byte edit byte)) = refl
origin-back filler = refl
origin-back zeroed = refl
origin-back untouched = refl

-- ---- each promise as an equation over plain values

pub promised : PromisedFamily sysex8 family
promised =
    record {
      splices = λ b s. let g = s.given in rw (g.0, g.1, g.2, g.3, g.4, s.left, s.answer_is) at s.promise;
      moves = λ {pending = pending} m. sym m.answer_is ∙ ap (map_answer (with_range pending)) (rw m.given at m.promise);
      repacks = λ r. let g = r.given in rw (g.0, g.1, r.left, r.answer_is) at r.promise;
      at_once = λ b a. let g = a.given in rw (g.0, g.1, g.2, g.3, a.left, a.answer_is) at a.promise;
      asks = λ b a. let g = a.given in sym a.answer_is ∙ (rw (g.0, g.1, g.2, g.3, g.4) at a.promise);
      answers = answers;
      can_repack = λ {words = words} {left} {len} {new} e. record {
        lifetimes = ([], tt);
        arguments = (lent_mut words, (len, tt));
        said = Ok new;
        exit = (lent_mut left, (len, tt));
        promise = sym e;
        given = (refl, refl);
        answer_is = refl;
        left = refl;
      };
      can_at_once = λ {words = words} {left} {len} {numbers} {bytes} {change} b e. record {
        lifetimes = ([], ([], ([], tt)));
        arguments = (lent_mut words, (len, (lent numbers, (lent bytes, tt))));
        said = Ok (record { length = change.length; growth = change.growth });
        exit = (lent_mut left, (len, (lent numbers, (lent bytes, tt))));
        promise = sym e;
        given = (refl, refl, refl, refl);
        answer_is = refl;
        left = refl;
      };
      can_ask = λ {words = words} {len} {numbers} {bytes} {q} {o} b e. record {
        lifetimes = ([], ([], ([], tt)));
        arguments = (lent words, (len, (lent numbers, (lent bytes, (q, tt)))));
        said = origin_back (gives o);
        exit = (lent words, (len, (lent numbers, (lent bytes, (q, tt)))));
        promise = origin-back o ∙ sym e;
        given = (refl, refl, refl, refl, refl);
        answer_is = origin-back o;
        left = tt;
      };
    }

-- ---- the theorem

pub audited : Audited sysex8 family
audited = audit.audited dense8 promised

-- P8's message and edits are such as demand 3 asks for, and have a worker that finishes, in either order.
pub finishes_up : Finishes family.calls (bytes_of patches8) (start message5 12 patches8) (0 ∷ 1 ∷ [])
finishes_up = (audited.demand3 fits8).finishes (0 ∷ 1 ∷ []) (lit< tt, tt, (lit< tt, tt, tt))

pub finishes_down : Finishes family.calls (bytes_of patches8) (start message5 12 patches8) (1 ∷ 0 ∷ [])
finishes_down = (audited.demand3 fits8).finishes (1 ∷ 0 ∷ []) (lit< tt, tt, (lit< tt, tt, tt))

-- Two orders of the same edits leave other words behind the same message.
pub behind_differs : BehindDiffers family.calls
behind_differs = orders.behind_differs answers
