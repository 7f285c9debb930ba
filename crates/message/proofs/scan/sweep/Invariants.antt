-- `message::scan::sweep`: no packet passed was judged to be at fault. Assumes nothing.
use Rattle.std.proofs.Common.{◌≡◌, ℕ, ◌*◌, ◌<◌, get_or}
use Rattle.std.specs.Prelude.{Ok, None}
use Rattle.message.proofs.scan.sweep.Given as goal

abbrev pub invariant-packets : goal.invariant-packets
invariant-packets g l = (l.fault ≡ Ok tt) × ((k : ℕ) → k < l.packet → goal.J-post g l.judge (get_or l.words (g.F.Format.shape.words * k) 0) k None)
