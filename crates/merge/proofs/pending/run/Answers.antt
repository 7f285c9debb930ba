-- `run` meets its contract: the packets that stand in their places are taken at once. Assumes nothing.
use Rattle.std.proofs.Common.{◌≡◌, ◌+◌, ◌-◌, ◌*◌, subst, arith}
use Rattle.merge.specs.Pieces.{taken, Runs, Kept}
use Rattle.merge.specs.declared.held.Pending.{Pending}
use Rattle.merge.proofs.Running.{flows_none, goes_as, ran_there}
use Rattle.merge.proofs.pending.run.Goals as goal

pub run_even-requires : goal.run_even-requires
run_even-requires c =
    let x = c.args in (
      c.requires.0,
      (
        c.requires.1.0,
        subst (λ (q : Pending). Runs (Kept x.head x.lag (13 * x.first) (13 * x.last) 0 (taken q)) x.words.now x.head q (13 * (x.last - x.first)))
            (flows_none x.pending c.requires.1.1.flows c.if-pending-ne0.false) c.requires.1.1,
      ),
    )

pub returns-then-packet-first : goal.returns-then-packet-first
returns-then-packet-first c =
    rw c.nothing.ensures (goes_as (flows_none c.args.pending c.requires.1.1.flows c.if-pending-ne0.false) c.run_even.ensures)

pub returns : goal.returns
returns c =
    let x = c.args in
    let in_place : x.pending.packet ≡ x.first + x.lag = omega arith in
    rw c.nothing-2.ensures (ran_there x.head x.lag x.first x.last x.pending x.words.now c.if-pending-ne0.false c.requires.0 in_place)
