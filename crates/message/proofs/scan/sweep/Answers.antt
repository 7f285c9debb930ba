-- `message::scan::sweep`: the first packet that is judged to be at fault, or none. Assumes nothing.
use Rattle.std.proofs.Common.{◌≡◌, ◌∙◌, arith}
use Rattle.message.proofs.Walks.{walk_passed, walk_refused}
use Rattle.message.proofs.scan.sweep.Goals as goal
use Rattle.message.proofs.scan.sweep.Goals.{else-packets-test, then-packets-test+in-Some}

pub returns : goal.returns
returns g c number bad j =
    elim c.packets-test.branch [
      | else-packets-test w ↦
          rw (w.fault-is, c.packets.invariant.0) (walk_passed j (λ p l. c.packets.invariant.1 p (omega (arith, w.packets-test.false))))
      | then-packets-test+in-Some w ↦
          let stride : w.WORDS.result ≡ g.F.Format.shape.words = w.WORDS.ensures ∙ g.F.Format.numbers.words_are in
          rw (w.fault-is, stride)
          (walk_refused j c.packets.packet c.packets.invariant.1 w.packets-test.true (rw (stride, w.in-Some.is) at w.judge.ensures))
    ]
