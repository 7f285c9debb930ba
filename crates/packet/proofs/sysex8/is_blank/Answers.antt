-- `packet::sysex8::is_blank`: words 1 to 3 are tested, and then the octet. Assumes nothing.
use Rattle.std.proofs.Common.{arith}
use Rattle.packet.proofs.Laws.{all_blank, octet_set, word1_set, word2_set, word3_set}
use Rattle.packet.proofs.sysex8.is_blank.Goals as goal

pub returns-in-0 : goal.returns-in-0
returns-in-0 c = all_blank _ c.requires c.type_inv.words (omega (arith, c.octet_of.ensures)) (omega arith) (omega arith) (omega arith)

pub returns-in_default-2 : goal.returns-in_default-2
returns-in_default-2 c = octet_set _ c.requires c.type_inv.words (λ e. omega (arith, c.octet_of.ensures))

pub returns-in_default-3 : goal.returns-in_default-3
returns-in_default-3 c = word3_set _ c.requires c.type_inv.words (λ e. omega arith)

pub returns-in_default-4 : goal.returns-in_default-4
returns-in_default-4 c = word2_set _ c.requires c.type_inv.words (λ e. omega arith)

pub returns-in_default-5 : goal.returns-in_default-5
returns-in_default-5 c = word1_set _ c.requires c.type_inv.words (λ e. omega arith)
