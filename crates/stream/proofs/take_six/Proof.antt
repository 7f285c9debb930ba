-- `stream::take_six`: six in a row, or one byte after the other, with zeros behind. Assumes nothing.
use borrow.Author.Rules.{rules}
use Prim.Native.Nat.{ℕ, ◌+◌, ◌≤◌, ◌<◌}
use native.Mathlib.Omega.{arith}
use lib.Bits.{and_le_r}
use lib.ListN.{length, get_or}
use Rattle.stream.proofs.Laws.{six_stand, took_row, took_six, onward_below}
use Rattle.stream.proofs.take_six.Statement.{statement}
use Rattle.stream.proofs.take_six.Tie as tie

byte : (c : tie.After-shared_slice_known-1) (i : ℕ) → get_or c.args.inner.now i 0 < 256
byte c i = omega (arith, c.shared_slice_known-1.given i)

long : (c : tie.Then-count-eq6) → let a = c.args in a.at + 6 ≤ length a.inner.now
long c =
    six_stand c.args.inner.now c.args.at (omega (arith, c.requires, c.if-count-eq6.true))

returns : tie.Need-returns-then-high-low-eq0
returns c =
    rw (c.two_at-high.ensures.0, c.four_at-low.ensures)
    (took_row _ (byte c.before.before.before.before) c.args.at (long c.before.before.before) (rw (c.two_at-high.ensures.0, c.four_at-low.ensures) at c.if-high-low-eq0.true))

returns_2 : tie.Need-returns
returns_2 c =
    let a = c.args in
    rw c.filled.ensures.1
    (took_six a.count (onward_below a.inner.now a.at (byte c.before.before.before)) c.requires c.take_bytes.ensures c.filled.ensures.0)

pub take_six_spec : {M : Type 1} → statement M
take_six_spec =
    tie.close
    (tie.spec
    (λ c κs. omega (arith, long c))
    (λ c. omega (arith, long c.before))
    (λ c κs. omega (arith, long c.before))
    (λ c. omega (arith, and_le_r c.two_at-high.result 0x8080, and_le_r c.four_at-low.result 0x80808080))
    (λ c. omega (arith, long c.before.before.before))
    returns
    (λ c κs. search rules)
    (λ c κs. search rules)
    returns_2)
