-- `restore::restore_in`: what is laid out is packed into the words. Assumes nothing.
use Rattle.std.proofs.Common.{◌≡◌, ◌∙◌, ap, ℕ, suc, ◌+◌, length, arith}
use Rattle.std.proofs.lemmas.Result.{err_from_is_err_and}
use Rattle.store.specs.Store.{dumps_of}
use Rattle.store.proofs.Checks.{sound_good, noted_count}
use Rattle.chain.specs.Restore.{exceeds, answered, restored}
use Rattle.restore.proofs.Groups.{answer_good, answer_refused, answer_given, restore_is}
use Rattle.restore.proofs.restore_in.Goals as goal

pub put-requires : goal.put-requires
put-requires c =
    let ready = c.requires.0 in
    let good = answer_good (length c.args.words.now) (length c.args.places.now + 1) c.args.store.now c.args.number c.lay.ensures
    (sound_good c.args.store.now ready.good).formed c.in_ok-held.was in
    (good.group, (ready.lent, good.room))

pub returns-in_err-held : goal.returns-in_err-held
returns-in_err-held c =
    let p = err_from_is_err_and c.from_residual.result c.from_residual.ensures.1 in
    let store = c.args.store.now in
    let places = c.args.places.now in
    let words = c.args.words.now in
    let ready = c.requires.0 in
    let count : length places + 1 ≡ suc (length (dumps_of store)) = omega (arith, noted_count store places ready.noted) in
    rw (p.1, p.2)
    (answer_refused (length words) (length places + 1) store c.args.number c.lay.ensures words c.in_err-held.was
    ∙ ap (λ (k : ℕ). answered words (restored (exceeds (length words)) (dumps_of store) k c.args.number)) count
    ∙ restore_is store c.args.number words ready.lent ready.good)

pub returns : goal.returns
returns c =
    let store = c.args.store.now in
    let places = c.args.places.now in
    let words = c.args.words.now in
    let ready = c.requires.0 in
    let count : length places + 1 ≡ suc (length (dumps_of store)) = omega (arith, noted_count store places ready.noted) in
    answer_given (length words) (length places + 1) store c.args.number c.lay.ensures words c.in_ok-held.was c.put.ensures.0 c.put.ensures.1
    ∙ ap (λ (k : ℕ). answered words (restored (exceeds (length words)) (dumps_of store) k c.args.number)) count
    ∙ restore_is store c.args.number words ready.lent ready.good
