-- `packet::sysex8::blank_end`: the count is one of the two keys, or the packet is no unexpected end. Assumes nothing.
use Rattle.std.proofs.Common.{◌∙◌, true, arith}
use borrow.Author.Tests.{ne_eqb}
use Rattle.ump.specs.Packet.{size_of}
use Rattle.packet.specs.Steps.{decide8}
use Rattle.packet.proofs.Laws.{decide_plain}
use Rattle.packet.proofs.sysex8.blank_end.Goals as goal

pub returns-in-1-clause-decision : goal.returns-in-1-clause-decision
unfolding decide8 size_of
returns-in-1-clause-decision c = rw c.in-1.is

pub returns-in-15-clause-decision : goal.returns-in-15-clause-decision
unfolding decide8 size_of
returns-in-15-clause-decision c = rw c.in-15.is

pub returns-in_default-clause-decision : goal.returns-in_default-clause-decision
returns-in_default-clause-decision c =
    c.counted.ensures.decision
    ∙ decide_plain 3 c.args.count true (omega arith) (simp (ne_eqb c.args.count 1 (λ e. omega arith), ne_eqb c.args.count 15 (λ e. omega arith)))
