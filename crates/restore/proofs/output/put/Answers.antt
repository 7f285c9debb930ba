-- `restore::output::put`. Assumes nothing.
use Rattle.std.proofs.Common.{arith, length}
use Rattle.restore.proofs.LayingOut.{words_four, put_is, put_given}
use Rattle.restore.proofs.output.put.Goals as goal

pub bounds-words-0 : goal.bounds-words-0
bounds-words-0 c = omega (arith, c.fill.auto.self, c.requires.1.1, words_four (length c.args.bytes.now))

pub unwrap-requires : goal.unwrap-requires
unwrap-requires c =
    let x = c.args in
    put_given x.group x.id c.requires.0 (omega arith) x.words.now x.bytes.now c.requires.1.0 c.requires.1.1 c.set_payload.result (c.fill.ensures.after (λ y h. h)) c.first_word.ensures c.set_payload.ensures

pub returns : goal.returns
returns c =
    let x = c.args in
    (c.words_needed.ensures, put_is x.group x.id c.requires.0 (omega arith) x.words.now x.bytes.now c.requires.1.0 c.requires.1.1 (c.fill.ensures.after (λ y h. h)) c.first_word.ensures c.set_payload.ensures)
