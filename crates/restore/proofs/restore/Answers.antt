-- `restore::restore`: too many words, what the check refuses, or what is restored from a good store. Assumes nothing.
use Rattle.std.proofs.Common.{sym, arith}
use Rattle.std.proofs.lemmas.Result.{err_from_is_err_and}
use Rattle.store.proofs.Checks.{index_given, index_refused}
use Rattle.restore.proofs.Groups.{restore_long, restore_unsound}
use Rattle.restore.proofs.restore.Goals as goal

pub returns-then-words-gt-MOST_WORDS : goal.returns-then-words-gt-MOST_WORDS
returns-then-words-gt-MOST_WORDS c = rw c.into.ensures (restore_long c.args.store.now c.args.number c.args.words.now c.if-words-gt-MOST_WORDS.true)

pub returns-in_err-count : goal.returns-in_err-count
returns-in_err-count c =
    let x = c.args in
    let p = err_from_is_err_and c.from_residual.result c.from_residual.ensures.1 in
    rw (p.1, p.2) (restore_unsound x.store.now x.number x.words.now c.if-words-gt-MOST_WORDS.false (index_refused c.index.ensures c.in_err-count.was))

pub slice_bounds-places-end : goal.slice_bounds-places-end
slice_bounds-places-end c = (index_given c.index.ensures (omega (arith, c.index.auto.places)) c.in_ok-count.was).inside

pub slice_bounds-restore_noted-end : goal.slice_bounds-restore_noted-end
slice_bounds-restore_noted-end c = sym (index_given c.index.ensures (omega (arith, c.index.auto.places)) c.in_ok-count.was).long

pub restore_noted-requires : goal.restore_noted-requires
restore_noted-requires c =
    let f = index_given c.index.ensures (omega (arith, c.index.auto.places)) c.in_ok-count.was in
    record { noted = f.noted; good = f.passes; few = omega (arith, f.long, f.few); lent = c.if-words-gt-MOST_WORDS.false }
