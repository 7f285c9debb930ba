-- `restore::restoring::lay_whole`. Assumes nothing.
use Rattle.std.proofs.Common.{◌∙◌, get_or}
use Rattle.std.proofs.lemmas.Result.{err_from_is_err_and}
use Rattle.store.proofs.Checks.{ok_or_err}
use Rattle.chain.specs.Laying.{whole_at}
use Rattle.chain.proofs.Steps.{whole_dump, group_here, id_here}
use Rattle.restore.proofs.Rooms.{data_behind, room_over, room_short, room_is}
use Rattle.restore.proofs.restoring.lay_whole.Goals as goal

pub returns-in_err-reached : goal.returns-in_err-reached
returns-in_err-reached c =
    let x = c.args in
    let p = err_from_is_err_and c.from_residual.result c.from_residual.ensures.1 in
    let none = c.in_err-reached.ensures.ok_part in
    rw (p.1, p.2, ok_or_err none c.in_err-reached.ensures.value)
    (room_over x.lent (whole_at x.store.now x.at) x.to.now c.requires.1.1
    ((data_behind x.store.now x.at (c.next.ensures.is c.requires.0) c.copy_data.ensures).over none))

pub returns-then-lent-words_needed : goal.returns-then-lent-words_needed
returns-then-lent-words_needed c =
    let x = c.args in
    let f = (data_behind x.store.now x.at (c.next.ensures.is c.requires.0) c.copy_data.ensures).done _ c.in_ok-reached.ensures.ok_part in
    room_short x.lent (whole_at x.store.now x.at) _ (f.fits, f.laid) c.words_needed.ensures c.if-lent-words_needed.true

pub returns : goal.returns
returns c =
    let x = c.args in
    let whole = whole_dump (get_or x.store.now x.at 0) c.requires.1.0 in
    let f = (data_behind x.store.now x.at (c.next.ensures.is c.requires.0) c.copy_data.ensures).done _ c.in_ok-reached.ensures.ok_part in
    room_is x.lent (whole_at x.store.now x.at) _ (f.fits, f.laid) c.words_needed.ensures c.if-lent-words_needed.false
    (c.byte.ensures ∙ group_here x.store.now x.at whole)
    (c.byte-2.ensures ∙ id_here x.store.now x.at whole)
