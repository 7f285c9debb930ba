-- `stream::data_size`: all bytes, or those counted; else the first that is bad. Assumes nothing.
use Rattle.std.proofs.Common.{◌≡◌, length, sym, arith}
use Rattle.ump.specs.Stream.{without_real_time}
use Rattle.ump.proofs.Without.{length_without}
use Rattle.stream.proofs.Counting.{sorted, size_fits, size_none, size_some}
use Rattle.stream.proofs.data_size.Goals as goal

pub returns-then-septets-inner : goal.returns-then-septets-inner
returns-then-septets-inner c =
    let s = c.args.inner.now in
    let e : c.count_below-septets.result ≡ length (without_real_time s) = omega (arith, c.count_below-septets.ensures, c.if-septets-inner.true, (sorted s).fewer, length_without s) in
    rw e (sym (size_fits s (omega (arith, e, c.count_below-septets.ensures))))

pub returns-then-septets-size : goal.returns-then-septets-size
returns-then-septets-size c =
    let s = c.args.inner.now in
    rw (c.count_below-size.ensures, (sorted s).are_data)
    (sym (size_fits s (omega (arith, c.if-septets-size.true, c.count_below-septets.ensures, c.count_below-size.ensures, (sorted s).are_data))))

pub returns-in-Some : goal.returns-in-Some
returns-in-Some c = sym (size_some c.args.inner.now c.in-Some.index (sym c.in-Some.ensures))

pub returns-in-None : goal.returns-in-None
returns-in-None c = let s = c.args.inner.now in rw (c.count_below-size.ensures, (sorted s).are_data) (sym (size_none s (sym c.in-None.ensures)))
