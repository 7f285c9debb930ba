-- Demand 3, and all that an auditor asks, over the promises of the exported calls that a service links. Assumes nothing.
use mathlib.Core.Path.{◌≡◌, refl, sym, ap, ◌∙◌}
use mathlib.Core.List.{List, [], ◌∷◌}
use Prim.Native.Nat.{ℕ, ◌<◌}
use native.Mathlib.Omega.{arith}
use lib.Dec.{lit<}
use borrow.Author.Tests.{ne_eqb}
use Rattle.refusal.specs.Answer.{Answer, gives, refused, Verdict, map_answer}
use Rattle.refusal.specs.Number.{number_of, Named, accepted, named}
use Rattle.refusal.specs.Tight.{lent, lent_mut}
use Rattle.refusal.specs.declared.Refusal.{Refusal}
use Rattle.refusal.proofs.Laws.{number_some}
use Rattle.ump.specs.Packet.{sysex8}
use Rattle.ump.specs.Splice.{Spliced, splice, repack}
use Rattle.ump.specs.Edits.{Range, move_edit, splice_all}
use Rattle.ump.specs.Worker.{with_range, Finishes, bytes_of, start}
use Rattle.ump.specs.Demand.{Audited}
use Rattle.ump.specs.Origin.{Origin, header_octet, carried, dump_byte, edit_byte, filler, zeroed, untouched, origin}
use Rattle.ump.specs.Samples.{message5, patches8}
use Rattle.ump.specs.Meets.{PlainAnswers, PromisedFamily}
use Rattle.ump.specs.Orders.{BehindDiffers}
use Rattle.ump.proofs.Named.{repack_named, splice_named, all_named, origin_named, move_named}
use Rattle.ump.proofs.Limits.{dense8}
use Rattle.ump.proofs.NotEmpty.{fits8}
use Rattle.ump.proofs.Orders as orders
use Rattle.edit.proofs.Audit as audit
use Rattle.answers.specs.Answers.{leaving, number_answer, done_answer, change_answer, range_answer, origin_answer}
use Rattle.answers.specs.Read.{read_as, number_read, done_read, change_read, range_read, origin_read}
use Rattle.latchbeacon.proofs.Worker.{family}

-- ---- reading a struct gives back the answer, as no refusal has the number 0

pub read_refused : {A : Type 0} (r : Refusal) (place : ℕ) (value : A) → read_as (number_of r) place value ≡ refused (number_of r) place
read_refused r place value = rw (ne_eqb (number_of r) 0 (λ q. omega (arith, number_some r)))

pub number_read_lem : (answer : Answer ℕ) → Named answer → number_read (number_answer answer) ≡ answer
number_read_lem (gives value) h = refl
number_read_lem (refused number place) (named r) = read_refused r place _

pub done-read : (verdict : Verdict) → Named verdict → done_read (done_answer verdict) ≡ verdict
done-read (gives u) h = refl
done-read (refused number place) (named r) = read_refused r place _

change-read : (answer : Answer Spliced) → Named answer → change_read (change_answer answer) ≡ answer
change-read (gives change) h = refl
change-read (refused number place) (named r) = read_refused r place _

range-read : (answer : Answer Range) → Named answer → range_read (range_answer answer) ≡ answer
range-read (gives range) h = refl
range-read (refused number place) (named r) = read_refused r place _

origin-read : (answer : Answer Origin) → Named answer → origin_read (origin_answer answer) ≡ answer
origin-read (gives (header_octet p j)) h = refl
origin-read (gives (carried (dump_byte i))) h = refl
origin-read (gives (carried (edit_byte k j))) h = refl
origin-read (gives filler) h = refl
origin-read (gives zeroed) h = refl
origin-read (gives untouched) h = refl
origin-read (refused number place) (named r) = read_refused r place _

-- and so with what is lent after a call
pub read_leaving : {A B : Type 0} (struct : A → B) (read : B → A) {said : B} {answer : A} {left : List ℕ} (outcome : A × List ℕ)
    → (said, left) ≡ leaving struct outcome → read said ≡ answer → read (struct outcome.0) ≡ outcome.0 → (answer, left) ≡ outcome
read_leaving {A} {B} struct read {said} {answer} {left} outcome p a e =
    ap (λ (x : A). (x, left)) (sym a) ∙ ap (λ (o : B × List ℕ). (read o.0, o.1)) p ∙ ap (λ (x : A). (x, outcome.1)) e

-- ---- a call for each outcome that the definitions give

answers : PlainAnswers sysex8 family.calls
answers =
    record {
      can_splice = λ {words = words} {left} {len} {edit} {bytes} {change} b e. record {
        lifetimes = ([], ([], tt));
        arguments = (lent_mut words, (len, (edit.from, (edit.to, (lent bytes, tt)))));
        said = change_answer (gives change);
        exit = (lent_mut left, (len, (edit.from, (edit.to, (lent bytes, tt)))));
        promise = sym (ap (leaving change_answer) e);
        given = (refl, refl, refl, refl, refl);
        answer_is = refl;
        left = refl;
      };
      can_move = λ {done = done} {pending} {done_first = done_first} e. record {
        lifetimes = tt;
        arguments = (done.from, (done.to, (done.length, (pending.from, (pending.to, (pending.length, (done_first, tt)))))));
        said = range_answer (move_edit done pending done_first);
        exit = (done.from, (done.to, (done.length, (pending.from, (pending.to, (pending.length, (done_first, tt)))))));
        promise = refl;
        given = refl;
        answer_is = ap (map_answer (with_range pending)) (range-read (move_edit done pending done_first) (move_named done pending done_first)) ∙ e;
        left = tt;
      };
    }

-- ---- each promise as an equation over plain values

pub promised : PromisedFamily sysex8 family
promised =
    record {
      splices = λ {words = words} {len = len} {edit = edit} {bytes = bytes} b s.
          let g = s.given in
          read_leaving change_answer change_read (splice sysex8 words len edit.from edit.to bytes)
          (rw (g.0, g.1, g.2, g.3, g.4, s.left) at s.promise) s.answer_is
          (change-read _ (splice_named sysex8 words len edit.from edit.to bytes));
      moves = λ {done = done} {pending} {done_first} m.
          sym m.answer_is
          ∙ ap (map_answer (with_range pending))
          (ap range_read (rw m.given at m.promise) ∙ range-read (move_edit done pending done_first) (move_named done pending done_first));
      repacks = λ {words = words} {len = len} r.
          let g = r.given in
          read_leaving number_answer number_read (repack sysex8 words len) (rw (g.0, g.1, r.left) at r.promise) r.answer_is
          (number_read_lem _ (repack_named sysex8 words len));
      at_once = λ {words = words} {len = len} {numbers = numbers} {bytes = bytes} b a.
          let g = a.given in
          read_leaving change_answer change_read (splice_all sysex8 words len numbers bytes)
          (rw (g.0, g.1, g.2, g.3, a.left) at a.promise) a.answer_is (change-read _ (all_named sysex8 words len numbers bytes));
      asks = λ {words = words} {len} {numbers} {bytes} {q} b a.
          let g = a.given in
          sym a.answer_is
          ∙ ap origin_read (rw (g.0, g.1, g.2, g.3, g.4) at a.promise)
          ∙ origin-read (origin sysex8 words len numbers bytes q) (origin_named sysex8 words len numbers bytes q);
      answers = answers;
      can_repack = λ {words = words} {left} {len} {new} e. record {
        lifetimes = ([], tt);
        arguments = (lent_mut words, (len, tt));
        said = number_answer (gives new);
        exit = (lent_mut left, (len, tt));
        promise = sym (ap (leaving number_answer) e);
        given = (refl, refl);
        answer_is = refl;
        left = refl;
      };
      can_at_once = λ {words = words} {left} {len} {numbers} {bytes} {change} b e. record {
        lifetimes = ([], ([], ([], tt)));
        arguments = (lent_mut words, (len, (lent numbers, (lent bytes, tt))));
        said = change_answer (gives change);
        exit = (lent_mut left, (len, (lent numbers, (lent bytes, tt))));
        promise = sym (ap (leaving change_answer) e);
        given = (refl, refl, refl, refl);
        answer_is = refl;
        left = refl;
      };
      can_ask = λ {words = words} {len} {numbers} {bytes} {q} {o} b e. record {
        lifetimes = ([], ([], ([], tt)));
        arguments = (lent words, (len, (lent numbers, (lent bytes, (q, tt)))));
        said = origin_answer (gives o);
        exit = (lent words, (len, (lent numbers, (lent bytes, (q, tt)))));
        promise = sym (ap origin_answer e);
        given = (refl, refl, refl, refl, refl);
        answer_is = origin-read (gives o) accepted;
        left = tt;
      };
    }

-- ---- the theorem

pub audited : Audited sysex8 family
audited = audit.audited dense8 promised

-- P8's message and edits are such as demand 3 asks for, and have a worker that finishes, in either order.
pub finishes_up : Finishes family.calls (bytes_of patches8) (start message5 12 patches8) (0 ∷ 1 ∷ [])
finishes_up = (audited.demand3 fits8).finishes (0 ∷ 1 ∷ []) (lit< tt, tt, (lit< tt, tt, tt))

pub finishes_down : Finishes family.calls (bytes_of patches8) (start message5 12 patches8) (1 ∷ 0 ∷ [])
finishes_down = (audited.demand3 fits8).finishes (1 ∷ 0 ∷ []) (lit< tt, tt, (lit< tt, tt, tt))

-- Two orders of the same edits leave other words behind the same message.
pub behind_differs : BehindDiffers family.calls
behind_differs = orders.behind_differs answers
