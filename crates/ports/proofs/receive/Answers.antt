-- `ports::receive`: too long, the reader's refusal, no port, or the packet is accepted or refused by its kind. Assumes nothing.
use Rattle.std.proofs.Common.{rules, sym, ◌∙◌}
use Rattle.std.proofs.lemmas.Result.{err_from_is_err_and}
use Rattle.ports.proofs.Reading.{read_facts}
use Rattle.ports.proofs.Steps.{long_words, long_output, read_refused, port_refused, port_taken}
use Rattle.ports.proofs.receive.Goals as goal
use Rattle.ports.proofs.receive.Goals.{then-words-gt-MOST_WORDS-via-then-words-gt-MOST_WORDS, then-words-gt-MOST_WORDS-via-else-words-gt-MOST_WORDS+then-output-gt-MOST_WORDS}

pub returns-then-words-gt-MOST_WORDS : goal.returns-then-words-gt-MOST_WORDS
returns-then-words-gt-MOST_WORDS c =
    rw c.into.ensures
    (elim c.then-words-gt-MOST_WORDS.branch [
      | then-words-gt-MOST_WORDS-via-then-words-gt-MOST_WORDS w ↦ long_words _ _ _ _ _ w.if-words-gt-MOST_WORDS.true
      | then-words-gt-MOST_WORDS-via-else-words-gt-MOST_WORDS+then-output-gt-MOST_WORDS w ↦
          long_output _ _ _ _ _ w.if-words-gt-MOST_WORDS.false w.if-output-gt-MOST_WORDS.true
    ])

pub returns-in_err-read : goal.returns-in_err-read
returns-in_err-read c =
    let p = err_from_is_err_and c.from_residual.result c.from_residual.ensures.1 in
    rw (p.1, p.2) (read_refused _ _ _ _ _ c.if-words-gt-MOST_WORDS.false c.if-output-gt-MOST_WORDS.false c.in_err-read.ensures)

pub returns-then-port-gt1 : goal.returns-then-port-gt1
returns-then-port-gt1 c =
    rw c.into-then-port-gt1.ensures
    (port_refused _ _ _ _ _ c.if-words-gt-MOST_WORDS.false c.if-output-gt-MOST_WORDS.false c.in_ok-read.ensures c.if-port-gt1.true)

pub new-requires : goal.new-requires
new-requires c = (read_facts _ _ (sym c.in_ok-read.ensures)).long

pub returns : goal.returns
returns c =
    let new = c.new.ensures in
    let long = (read_facts _ _ (sym c.in_ok-read.ensures)).long in
    let taken = port_taken _ _ _ _ _ c.if-words-gt-MOST_WORDS.false c.if-output-gt-MOST_WORDS.false c.in_ok-read.ensures c.if-port-gt1.false long in
    let done = rw (new.0, new.1, new.2) at c.accept.ensures in
    let q = done.0 ∙ taken in
    search (rules, q, sym done.1, sym done.2)
