-- What stands between F0 and F7. Assumes nothing.
use mathlib.Core.Path.{◌≡◌}
use mathlib.Core.Bool.{false}
use mathlib.Core.List.{List}
use Prim.Native.Nat.{ℕ, ◌-◌, ◌≤◌}
use native.Mathlib.Omega.{arith}
use lib.ListN.{length, take, drop}
use borrow.Author.Tests.{ltb-false}
use Rattle.ump.specs.Stream.{bad_frame, between}
use Rattle.ump.proofs.Checks.{or_left}

pub framed_long : (bytes : List ℕ) → bad_frame bytes ≡ false → 2 ≤ length bytes
framed_long bytes e = ltb-false _ _ (or_left _ _ e)

pub cut : (bytes : List ℕ) → take (length bytes - 1 - 1) (drop 1 bytes) ≡ between bytes
cut bytes =
    let e : length bytes - 1 - 1 ≡ length bytes - 2 = omega arith in
    rw e
