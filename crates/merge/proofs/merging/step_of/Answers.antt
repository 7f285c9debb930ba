-- `step_of` meets its contract. Assumes nothing.
use Rattle.std.proofs.Common.{sym, ap, arith}
use Rattle.merge.specs.Pass.{is_before, step_of}
use Rattle.merge.proofs.merging.step_of.Goals as goal

pub returns-then-is_due : goal.returns-then-is_due
unfolding step_of
returns-then-is_due c = rw (sym c.if-is_due.ensures)

pub overflow_add-result : goal.overflow_add-result
unfolding step_of
overflow_add-result c = omega (arith, rw (sym c.if-is_due.ensures, ap is_before c.in-Now.is) at c.requires.1.1.1)

pub overflow_add-result-in-Before : goal.overflow_add-result-in-Before
unfolding step_of
overflow_add-result-in-Before c = omega (arith, rw (sym c.if-is_due.ensures, ap is_before c.in-Before.is) at c.requires.1.1.1)

pub returns-in-Now : goal.returns-in-Now
unfolding step_of
returns-in-Now c = rw (sym c.if-is_due.ensures, ap is_before c.in-Now.is)

pub returns-in-Before : goal.returns-in-Before
unfolding step_of
returns-in-Before c = rw (sym c.if-is_due.ensures, ap is_before c.in-Before.is)
