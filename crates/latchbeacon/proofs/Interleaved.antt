-- What is said of interleaved streams, over the promises of the exported calls; and that the exported check takes what is handed out.
-- Assumes nothing.
use mathlib.Core.Path.{◌≡◌, refl, sym, ap, ◌∙◌}
use mathlib.Core.List.{List, []}
use Prim.Native.Nat.{ℕ, ◌+◌, ◌≤◌, ◌<◌}
use lib.ListN.{length}
use Rattle.refusal.specs.Answer.{Answer, gives, refused}
use Rattle.refusal.specs.Number.{Named, named}
use Rattle.refusal.specs.Tight.{Called, lent, lent_mut}
use Rattle.ump.specs.Word.{Below}
use Rattle.ump.specs.Packet.{sysex8}
use Rattle.ump.specs.Packing.{words_for}
use Rattle.ump.specs.Check.{payload_of}
use Rattle.ump.specs.Edits.{Patch, Apart, patch_at, all_bytes}
use Rattle.ump.specs.Worker.{start}
use Rattle.ump.specs.Demand.{Demand3}
use Rattle.ump.proofs.Message.{checked_valid}
use Rattle.ports.specs.Streams.{Reply, kept, dropped, handed_out}
use Rattle.ports.specs.Table.{Lent, empty_table, receive}
use Rattle.ports.specs.History.{Call, Event, State}
use Rattle.ports.specs.Interleaved.{Reached, Interleaved, PromisedPorts}
use Rattle.ports.proofs.Named.{receive_named}
use Rattle.ports.proofs.Interleaving as laws
use Rattle.answers.specs.declared.MessageAnswer.{MessageAnswer}
use Rattle.answers.specs.declared.ReceivedAnswer.{ReceivedAnswer}
use Rattle.answers.specs.Answers.{leaving, message_answer, received_answer}
use Rattle.answers.specs.Read.{received_read}
use Rattle.latchbeacon.proofs.Worker.{family}
use Rattle.latchbeacon.proofs.Demand.{read_refused, audited}
use Rattle.latchbeacon.proofs.Receiver.{Clears, Receives}
use Rattle.latchbeacon.proofs.messages.latchbeacon_sysex8_check.Kinds as check-kinds
use Rattle.latchbeacon.proofs.messages.latchbeacon_sysex8_check.Reads as exported-check

received-read : (answer : Answer Reply) → Named answer → received_read (received_answer answer) ≡ answer
received-read (gives kept) h = refl
received-read (gives dropped) h = refl
received-read (gives (handed_out words)) h = refl
received-read (refused number place) (named r) = read_refused r place _

-- the struct of an outcome, read, is the outcome
outcome_read : (outcome : Answer Reply × Lent) → Named outcome.0 → (received_read (leaving received_answer outcome).0, (leaving received_answer outcome).1) ≡ outcome
outcome_read (answer, left) h = ap (λ (a : Answer Reply). (a, left)) (received-read answer h)

promised : PromisedPorts Receives Clears
promised =
    record {
      receives = λ {table} {words} {packet} {output} {port} {outcome} c.
          let g = c.given in
          let e = rw (g.0, g.1, g.2, g.3, g.4, c.left) at c.promise in
          let n = receive_named table words port packet output in
          ap (λ (a : Answer Reply). (a, outcome.1)) (sym c.answer_is)
          ∙ ap (λ (o : ReceivedAnswer × Lent). (received_read o.0, o.1)) e
          ∙ outcome_read (receive table words port packet output) n;
      can_receive = λ table words port packet output whole.
          let outcome = receive table words port packet output in
          record {
            lifetimes = ([], ([], ([], ([], tt))));
            arguments = (lent_mut table, (lent_mut words, (port, (lent packet, (lent_mut output, tt)))));
            said = received_answer outcome.0;
            exit = (lent_mut outcome.1.0, (lent_mut outcome.1.1, (port, (lent packet, (lent_mut outcome.1.2, tt)))));
            promise = refl;
            given = (refl, refl, refl, refl, refl);
            answer_is = received-read outcome.0 (receive_named table words port packet output);
            left = refl;
          };
      clears = λ c. sym c.left ∙ c.promise;
      can_clear = λ table whole.
          record {
            lifetimes = ([], tt);
            arguments = (lent_mut table, tt);
            said = tt;
            exit = (lent_mut empty_table, tt);
            promise = refl;
            given = refl;
            answer_is = refl;
            left = refl;
          };
    }

pub interleaved : Interleaved Receives Clears
interleaved = laws.interleaved promised

-- ---- what is handed out is taken

-- The check that every call on a message begins with accepts it.
pub handed_checks : {events : List Event} {t : State} {c : Call} {n number : ℕ} {table words output : List ℕ}
    → Reached Receives events t c (gives (handed_out n), (table, words, output))
    → Called 1 check-kinds.ps check-kinds.r exported-check.Post (λ κs a. (a.0.now ≡ output) × (a.1.0 ≡ n)) (λ κs said. gives said.refusal) (λ κs exit. Unit {0}) (gives number)
    → number ≡ 0
handed_checks {n = n} {output = output} r k =
    let g = k.given in
    let e = rw (g.0, g.1) at k.promise in
    let z : k.said.refusal ≡ 0 = ap (λ (m : MessageAnswer). m.refusal) (e ∙ ap message_answer (checked_valid sysex8 output n (interleaved.passes r).0)) in
    let q = k.answer_is in
    sym (cc) ∙ z

-- Demand 3 holds of it, with edits of its payload that demand 3 allows.
pub handed_demand3 : {events : List Event} {t : State} {c : Call} {n : ℕ} {table words output : List ℕ} {patches : List Patch}
    → Reached Receives events t c (gives (handed_out n), (table, words, output)) → Apart patches (length (payload_of sysex8 output n))
    → ((i : ℕ) → i < length patches → Below sysex8.limit (patch_at patches i).bytes)
    → words_for sysex8 (length (payload_of sysex8 output n) + all_bytes patches) ≤ length output → 0 < length patches
    → Demand3 sysex8 (λ words. words) (λ edit. edit) family.calls patches (start output n patches)
handed_demand3 r apart bytes room some =
    audited.demand3 (record { passes = (interleaved.passes r).1; apart = apart; bytes = bytes; room = room; some = some })
