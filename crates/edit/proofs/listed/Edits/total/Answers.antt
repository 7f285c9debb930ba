-- `edit::listed::Edits::total`: no more bytes are taken out than there are. Assumes nothing.
use Rattle.std.proofs.Common.{ap, arith}
use Rattle.refusal.specs.Answer.{gives}
use Rattle.ump.specs.Edits.{edits_of}
use Rattle.edit.proofs.Lists.{list_passes}
use Rattle.edit.proofs.Apart.{widths_fit}
use Rattle.edit.proofs.listed.Edits.total.Goals as goal

pub overflow_sub-result : goal.overflow_sub-result
overflow_sub-result c =
    let l = list_passes _ _ _ c.args.self.now.passed in omega (arith, c.args.self.now.counted, widths_fit c.args.self.now.size (edits_of c.args.self.now.numbers.now) l.good l.apart)

pub returns : goal.returns
returns c =
    let l = list_passes _ _ _ c.args.self.now.passed in
    rw c.args.self.now.passed (ap gives (omega (arith, c.args.self.now.counted, widths_fit c.args.self.now.size (edits_of c.args.self.now.numbers.now) l.good l.apart, l.all-bytes)))
