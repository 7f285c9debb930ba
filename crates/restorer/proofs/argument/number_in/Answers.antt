-- `restorer::argument::number_in`: digit after digit. Assumes nothing.
use Rattle.std.proofs.Common.{◌≡◌, sym, ◌∙◌, true, get_or, arith, rules}
use Rattle.restorer.specs.Argument.{is_digit}
use Rattle.restorer.proofs.Digits.{none_in, some_in, from_end, from_digit, from_other}
use Rattle.restorer.proofs.argument.number_in.Goals as goal

pub returns-then-is_empty : goal.returns-then-is_empty
returns-then-is_empty c = none_in _ (search rules)

pub returns-then-not-is_ascii_digit : goal.returns-then-not-is_ascii_digit
returns-then-not-is_ascii_digit c =
    let l = c.loop-byte in
    let x = c.args.digits.now in
    sym (from_other x l.number l.byte-index c.loop-byte-test.true (sym c.is_ascii_digit.ensures.value ∙ c.if-not-is_ascii_digit.true))
    ∙ sym l.invariant.1 ∙ some_in x (search rules)

pub loop-byte-preserved : goal.loop-byte-preserved
loop-byte-preserved c =
    let l = c.loop-byte in
    let x = c.args.digits.now in
    let digit : is_digit (get_or x l.byte-index 0) ≡ true = sym c.is_ascii_digit.ensures.value ∙ c.if-not-is_ascii_digit.false in (
      omega (arith, c.with_digit-number.ensures),
      l.invariant.1 ∙ from_digit x l.number l.byte-index c.loop-byte-test.true digit ∙ rw (sym c.with_digit-number.ensures),
    )

pub returns : goal.returns
returns c =
    let l = c.loop-byte in
    let x = c.args.digits.now in
    sym (from_end x l.number l.byte-index c.loop-byte-test.false) ∙ sym l.invariant.1 ∙ some_in x (search rules)
