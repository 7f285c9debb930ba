-- `append` meets its contract, case by case. Assumes nothing.
use mathlib.Core.Path.{◌≡◌, refl, sym}
use Prim.Native.Nat.{◌^◌}
use native.Mathlib.Nat.{mul-mod_left}
use native.Mathlib.Omega.{arith}
use Rattle.merge.specs.Thirteens.{number}
use Rattle.merge.proofs.Sums.{sums}
use Rattle.merge.proofs.pending.append.Goals as goal

pub overflow_add-high : goal.overflow_add-high
overflow_add-high c =
    omega (arith, c.later-moved.result.small, c.args.pending.fits)

pub overflow_add-low : goal.overflow_add-low
overflow_add-low c =
    let moved = c.later-moved in
    omega (arith, (sums c.args.pending c.args.piece moved.result c.requires.1.padded (omega arith) (omega arith) (omega arith) moved.ensures).0)

pub invariant_of-result : goal.invariant_of-result
invariant_of-result c =
    record { fits = (sums c.args.pending c.args.piece c.later-moved.result c.requires.1.padded (omega arith) (omega arith) (omega arith) c.later-moved.ensures).1.0 }

pub returns-then-count-some-lt13 : goal.returns-then-count-some-lt13
returns-then-count-some-lt13 c =
    let moved = c.later-moved in
    let s = sums c.args.pending c.args.piece moved.result c.requires.1.padded (omega arith) (omega arith) (omega arith) moved.ensures in
    record { appended = record { fewer = λ l. (refl, (s.1.1, (refl, refl))); enough = λ l. absurd (omega arith) } }

pub store-requires : goal.store-requires
store-requires c =
    let moved = c.later-moved in
    let r = c.requires.1 in
    (omega (arith, r.fits, r.small), (omega (arith, r.fits), ((sums c.args.pending c.args.piece moved.result r.padded (omega arith) (omega arith) (omega arith) moved.ensures).1.0, r.free)))

pub returns-then-count-eq0 : goal.returns-then-count-eq0
returns-then-count-eq0 c =
    let moved = c.later-moved in
    let z : c.args.pending.count ≡ 0 = c.if-count-eq0.true in
    let s = sums c.args.pending c.args.piece moved.result c.requires.1.padded (omega arith) (omega arith) (omega arith) moved.ensures in
    record {
      appended = record {
        fewer = λ l. absurd (omega arith);
        enough = λ l. (rw s.1.1 at c.store.ensures, (rw z (sym (mul-mod_left (number c.args.piece) (2 ^ 104))), (omega arith, refl)));
      };
    }

pub returns : goal.returns
returns c =
    let moved = c.later-moved in
    let s = sums c.args.pending c.args.piece moved.result c.requires.1.padded (omega arith) (omega arith) (omega arith) moved.ensures in
    record {
      appended = record {
        fewer = λ l. absurd (omega arith);
        enough = λ l. (rw s.1.1 at c.store.ensures, (c.earlier-rest.ensures, (omega arith, refl)));
      };
    }
