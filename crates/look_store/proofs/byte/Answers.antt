-- `look_store::byte`. Assumes nothing.
use Rattle.std.proofs.Common.{sym, ◌∙◌, arith}
use Rattle.std.proofs.lemmas.Result.{err_from_is_err_and}
use Rattle.store.proofs.Checks.{index_given, index_refused}
use Rattle.look_store.proofs.Answering.{byte_unsound, byte_is}
use Rattle.look_store.proofs.byte.Goals as goal

pub returns-in_err-count : goal.returns-in_err-count
returns-in_err-count c =
    let x = c.args in
    let p = err_from_is_err_and c.from_residual.result c.from_residual.ensures.1 in
    rw (p.1, p.2) (byte_unsound x.store.now x.number x.position (index_refused c.index.ensures c.in_err-count.was))

pub slice_bounds-places-end : goal.slice_bounds-places-end
slice_bounds-places-end c = (index_given c.index.ensures (omega (arith, c.index.auto.places)) c.in_ok-count.was).inside

pub slice_bounds-byte_noted-end : goal.slice_bounds-byte_noted-end
slice_bounds-byte_noted-end c = sym (index_given c.index.ensures (omega (arith, c.index.auto.places)) c.in_ok-count.was).long

pub byte_noted-requires : goal.byte_noted-requires
byte_noted-requires c =
    let f = index_given c.index.ensures (omega (arith, c.index.auto.places)) c.in_ok-count.was in
    record { noted = f.noted; good = f.passes; few = omega (arith, f.long, f.few) }

pub returns : goal.returns
returns c =
    let x = c.args in
    let f = index_given c.index.ensures (omega (arith, c.index.auto.places)) c.in_ok-count.was in
    c.byte_noted.ensures ∙ byte_is x.store.now x.number x.position f.passes
