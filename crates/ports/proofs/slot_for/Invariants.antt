-- `ports::slot_for`: the slots passed have another key, the first free one is known, and the port's are counted.
use Rattle.std.proofs.Common.{◌≡◌, ◌≤◌, get_or}
use Rattle.ump.proofs.First.{Passed}
use Rattle.ports.specs.Streams.{is_of}
use Rattle.ports.specs.Table.{has_key, count}
use Rattle.ports.specs.Steps.{found_below}
use Rattle.ports.proofs.slot_for.Given as goal

abbrev pub invariant-loop-slot : goal.invariant-loop-slot
invariant-loop-slot l =
    record {
      passed : Passed (has_key l.table l.key) 16 l.slot;
      free_is : l.free ≡ found_below (has_key l.table 0) l.slot;
      held_is : l.held ≡ count (λ k. is_of l.port (get_or l.table k 0)) l.slot;
      small : l.held ≤ l.slot;
    }
