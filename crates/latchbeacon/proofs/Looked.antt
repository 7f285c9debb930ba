-- What is said of looking at an edited dump, and at one of a store, over the promises of the exported calls. Assumes nothing.
use mathlib.Core.Path.{◌≡◌, refl, sym, ap, ◌∙◌}
use mathlib.Core.List.{[]}
use Prim.Native.Nat.{ℕ}
use Rattle.refusal.specs.Tight.{lent}
use Rattle.ump.specs.Packet.{sysex8}
use Rattle.ump.specs.Setters.{get_byte}
use Rattle.ump.specs.Edits.{Edit}
use Rattle.look.specs.Look.{find, byte_of, byte_of_message}
use Rattle.look.specs.Looked.{FoundRuns, LookedAt, PromisedLooks}
use Rattle.look.proofs.Named.{byte_named, message_named, read_named}
use Rattle.look.proofs.Finding.{find_cases}
use Rattle.look.proofs.Looking as laws
use Rattle.look_store.specs.Byte.{byte_of_dump}
use Rattle.look_store.specs.Looked.{Looked, PromisedLook}
use Rattle.look_store.proofs.Unique as dump
use Rattle.look_store.proofs.Comparing as dumps
use Rattle.answers.specs.Answers.{number_answer, run_answer}
use Rattle.answers.specs.Read.{number_read, run_read}
use Rattle.latchbeacon.proofs.Worker.{family}
use Rattle.latchbeacon.proofs.Demand as demand
use Rattle.latchbeacon.proofs.Demand.{number_read_lem}
use Rattle.latchbeacon.proofs.Banks as banks
use Rattle.latchbeacon.proofs.Restorer.{Restores, Describes}
use Rattle.latchbeacon.proofs.Looker.{Finds, Looks, LooksIn, Reads, LooksAt}

-- a run of one edit is read back from its struct
run-read : (n : ℕ) (e : Edit) (i : ℕ) → run_read (run_answer (find n e i)) ≡ find n e i
run-read = find_cases (λ answer. run_read (run_answer answer) ≡ answer) refl (λ start end. refl) (λ start end. refl) (λ start end. refl)

promised : PromisedLooks sysex8 Finds Looks LooksIn Reads
promised =
    record {
      finds = λ {n = n} {edit} {i} c. sym c.answer_is ∙ ap run_read (rw c.given at c.promise) ∙ run-read n edit i;
      looks = λ {dump = dump} {numbers} {bytes} {i} c.
          let g = c.given in
          sym c.answer_is ∙ ap number_read (rw (g.0, g.1, g.2, g.3) at c.promise) ∙ number_read_lem (byte_of dump numbers bytes i) (byte_named dump numbers bytes i);
      looks_in = λ {words = words} {len} {numbers} {bytes} {i} c.
          let g = c.given in
          sym c.answer_is
          ∙ ap number_read (rw (g.0, g.1, g.2, g.3, g.4) at c.promise)
          ∙ number_read_lem (byte_of_message sysex8 words len numbers bytes i) (message_named sysex8 words len numbers bytes i);
      reads = λ {words = words} {len} {i} c.
          let g = c.given in
          sym c.answer_is ∙ ap number_read (rw (g.0, g.1, g.2) at c.promise) ∙ number_read_lem (get_byte sysex8 words len i) (read_named sysex8 words len i);
      can_find = λ n edit i. record {
        lifetimes = tt;
        arguments = (n, (edit.from, (edit.to, (edit.length, (i, tt)))));
        said = run_answer (find n edit i);
        exit = (n, (edit.from, (edit.to, (edit.length, (i, tt)))));
        promise = refl;
        given = refl;
        answer_is = run-read n edit i;
        left = tt;
      };
      can_look = λ dump numbers bytes i. record {
        lifetimes = ([], ([], ([], tt)));
        arguments = (lent dump, (lent numbers, (lent bytes, (i, tt))));
        said = number_answer (byte_of dump numbers bytes i);
        exit = (lent dump, (lent numbers, (lent bytes, (i, tt))));
        promise = refl;
        given = (refl, refl, refl, refl);
        answer_is = number_read_lem (byte_of dump numbers bytes i) (byte_named dump numbers bytes i);
        left = tt;
      };
      can_look_in = λ words len numbers bytes i. record {
        lifetimes = ([], ([], ([], tt)));
        arguments = (lent words, (len, (lent numbers, (lent bytes, (i, tt)))));
        said = number_answer (byte_of_message sysex8 words len numbers bytes i);
        exit = (lent words, (len, (lent numbers, (lent bytes, (i, tt)))));
        promise = refl;
        given = (refl, refl, refl, refl, refl);
        answer_is = number_read_lem (byte_of_message sysex8 words len numbers bytes i) (message_named sysex8 words len numbers bytes i);
        left = tt;
      };
      can_read = λ words len i. record {
        lifetimes = ([], tt);
        arguments = (lent words, (len, (i, tt)));
        said = number_answer (get_byte sysex8 words len i);
        exit = (lent words, (len, (i, tt)));
        promise = refl;
        given = (refl, refl, refl);
        answer_is = number_read_lem (get_byte sysex8 words len i) (read_named sysex8 words len i);
        left = tt;
      };
    }

-- the calls that edit a message are the exported ones
pub found_runs : FoundRuns sysex8 family Finds Reads
found_runs = laws.found_runs demand.promised promised

pub looked_at : LookedAt sysex8 family Finds Looks LooksIn Reads
looked_at = laws.looked_at demand.promised promised

-- ---- a dump of a store

dump_promised : PromisedLook Restores Describes Reads LooksAt
dump_promised =
    record {
      dumps = banks.promised;
      reads = promised.reads;
      looks = λ {store = store} {n} {i} l.
          let g = l.given in
          sym l.answer_is ∙ ap number_read (rw (g.0, g.1, g.2) at l.promise) ∙ number_read_lem (byte_of_dump store n i) (dump.byte_named store n i);
      can_read = λ {words = words} {len} {i} {answer} e h. record {
        lifetimes = ([], tt);
        arguments = (lent words, (len, (i, tt)));
        said = number_answer answer;
        exit = (lent words, (len, (i, tt)));
        promise = sym (ap number_answer e);
        given = (refl, refl, refl);
        answer_is = number_read_lem answer h;
        left = tt;
      };
      can_look = λ {store = store} {n} {i} {answer} e. record {
        lifetimes = ([], tt);
        arguments = (lent store, (n, (i, tt)));
        said = number_answer answer;
        exit = (lent store, (n, (i, tt)));
        promise = sym (ap number_answer e);
        given = (refl, refl, refl);
        answer_is = number_read_lem answer (rw e at (dump.byte_named store n i));
        left = tt;
      };
    }

pub looked : Looked Restores Describes Reads LooksAt
looked = dumps.looked dump_promised
