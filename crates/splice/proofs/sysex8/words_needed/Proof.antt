-- `splice::sysex8::words_needed`: four words to a packet, which fit for every size. Assumes nothing.
use borrow.Author.Rules.{rules}
use native.Mathlib.Omega.{arith}
use Rattle.ump.specs.Packet.{sysex8}
use Rattle.ump.proofs.Sizes.{packets_are}
use Rattle.splice.proofs.sysex8.words_needed.Statement.{statement}
use Rattle.splice.proofs.sysex8.words_needed.Tie as tie

mul-result : tie.Need-overflow_mul-result
mul-result c = omega (arith, c.packets_for.ensures, packets_are sysex8 c.args.size, c.ranges.size)

pub words_needed_spec : {M : Type 1} → statement M
words_needed_spec = tie.close (tie.spec (λ c κs. search rules) mul-result (λ c. search rules))
