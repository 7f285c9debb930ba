-- `restorer::argument::number_in`: digit after digit. Assumes nothing.
use Rattle.std.proofs.Common.{◌≡◌, drop, ◌≤◌}
use Rattle.restorer.specs.Argument.{number_from}
use Rattle.restorer.proofs.argument.number_in.Given as goal

abbrev pub invariant-loop-byte : goal.invariant-loop-byte
invariant-loop-byte l = (l.number ≤ 65536) × (number_from 0 l.digits ≡ number_from l.number (drop l.byte-index l.digits))
