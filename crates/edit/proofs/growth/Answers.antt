-- `edit::growth`: a bad edit is refused, a sound one has its growth. Assumes nothing.
use Rattle.std.proofs.Common.{sym, ◌∙◌}
use Rattle.edit.proofs.Laws.{sound_has, growth_bad, growth_given}
use Rattle.edit.proofs.growth.Goals as goal

pub returns-then-is_bad : goal.returns-then-is_bad
returns-then-is_bad c = rw c.into.ensures (growth_bad _ (sym c.is_bad.ensures ∙ c.if-is_bad.true))

pub growth_of-requires : goal.growth_of-requires
growth_of-requires c = sound_has _ (sym c.is_bad.ensures ∙ c.if-is_bad.false)

pub returns : goal.returns
returns c = growth_given _ (sym c.is_bad.ensures ∙ c.if-is_bad.false) c.growth_of.ensures
