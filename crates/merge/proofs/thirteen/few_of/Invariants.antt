-- Assumes nothing.
use Rattle.std.proofs.Common.{◌≡◌, take}
use Rattle.flow.specs.Digits.{val}
use Rattle.merge.specs.Thirteens.{number}
use Rattle.merge.proofs.thirteen.few_of.Given as goal

abbrev pub invariant-loop-index : goal.invariant-loop-index
invariant-loop-index l = number l.t ≡ val 13 (take l.index l.bytes)
