-- `restore::restoring::lay_delta`. Assumes nothing.
use Rattle.std.proofs.Common.{refl, sym, ◌∙◌, take}
use Rattle.std.proofs.lemmas.Result.{err_from_is_err_and}
use Rattle.store.proofs.Checks.{ok_or_err}
use Rattle.chain.specs.Restore.{exceeds}
use Rattle.restore.specs.Laying.{base_in}
use Rattle.restore.proofs.Rooms.{outside_here, edits_behind, room_over, room_short, room_is, rebuilt_range, rebuilt-roomed}
use Rattle.restore.proofs.restoring.lay_delta.Goals as goal

pub returns-then-some_outside : goal.returns-then-some_outside
returns-then-some_outside c =
    let x = c.args in
    rebuilt_range (exceeds x.lent) _ (base_in x.held x.base.now)
    (outside_here x.store.now x.at x.held.size x.base.now c.requires.1.0 (c.next-place.ensures.is c.requires.0) (sym c.some_outside.ensures ∙ c.if-some_outside.true))

pub copy_edits-requires : goal.copy_edits-requires
copy_edits-requires c = (c.requires.1.0, sym c.some_outside.ensures ∙ c.if-some_outside.false)

pub returns-in_err-size : goal.returns-in_err-size
returns-in_err-size c =
    let x = c.args in
    let p = err_from_is_err_and c.from_residual.result c.from_residual.ensures.1 in
    let none = c.in_err-size.ensures.ok_part in
    rw (p.1, p.2, ok_or_err none c.in_err-size.ensures.value)
    (rebuilt-roomed (exceeds x.lent) _ (base_in x.held x.base.now)
    (outside_here x.store.now x.at x.held.size x.base.now c.requires.1.0 (c.next-place.ensures.is c.requires.0) (sym c.some_outside.ensures ∙ c.if-some_outside.false))
    (room_over x.lent _ x.to.now c.requires.1.1
    ((edits_behind x.store.now x.at (take x.held.size x.base.now) (c.next-place.ensures.is c.requires.0) c.copy_edits.ensures).over none)))

pub returns-then-lent-words_needed : goal.returns-then-lent-words_needed
returns-then-lent-words_needed c =
    let x = c.args in
    let f = (edits_behind x.store.now x.at (take x.held.size x.base.now) (c.next-place.ensures.is c.requires.0) c.copy_edits.ensures).sized _ c.in_ok-size.ensures.ok_part in
    rebuilt-roomed (exceeds x.lent) _ (base_in x.held x.base.now)
    (outside_here x.store.now x.at x.held.size x.base.now c.requires.1.0 (c.next-place.ensures.is c.requires.0) (sym c.some_outside.ensures ∙ c.if-some_outside.false))
    (room_short x.lent _ _ f c.words_needed.ensures c.if-lent-words_needed.true)

pub returns : goal.returns
returns c =
    let x = c.args in
    let f = (edits_behind x.store.now x.at (take x.held.size x.base.now) (c.next-place.ensures.is c.requires.0) c.copy_edits.ensures).sized _ c.in_ok-size.ensures.ok_part in
    rebuilt-roomed (exceeds x.lent) _ (base_in x.held x.base.now)
    (outside_here x.store.now x.at x.held.size x.base.now c.requires.1.0 (c.next-place.ensures.is c.requires.0) (sym c.some_outside.ensures ∙ c.if-some_outside.false))
    (room_is x.lent _ _ f c.words_needed.ensures c.if-lent-words_needed.false refl refl)
