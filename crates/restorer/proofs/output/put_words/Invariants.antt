-- `restorer::output::put_words`: word after word. Assumes nothing.
use Rattle.std.proofs.Common.{◌≡◌, ◌++◌, take, drop, ◌*◌}
use Rattle.ump.specs.Word.{octets}
use Rattle.restorer.proofs.output.put_words.Given as goal

abbrev pub invariant-loop-index : goal.invariant-loop-index
invariant-loop-index l = l.text ≡ octets (take l.index l.words) ++ drop (4 * l.index) l.fn.text
