-- `listing::line::put_fault`: the number and the place of the refusal. Assumes nothing.
use Rattle.std.proofs.Common.{arith}
use Rattle.listing.specs.Listing.{ascii, refusal_line}
use Rattle.listing.proofs.Lines.{length_two}
use Rattle.listing.proofs.line.put_fault.Goals as goal

pub put_numbers-requires : goal.put_numbers-requires
put_numbers-requires g c =
    omega (arith, length_two (ascii "refused ") (ascii "at ") c.number-number.result c.args.fault.place (omega arith) (omega arith), c.requires)

pub returns : goal.returns
unfolding refusal_line
returns g c = rw c.number-number.ensures at c.put_numbers.ensures
