-- `chain::describe_noted`: what measuring says, with a base. Assumes nothing.
use Rattle.std.proofs.Common.{◌≡◌, ◌∙◌, ap, ℕ, suc, ◌+◌, length, arith}
use Rattle.std.proofs.lemmas.Result.{err_from_is_err_and}
use Rattle.store.specs.Store.{dumps_of}
use Rattle.store.proofs.Checks.{noted_count}
use Rattle.chain.specs.Restore.{described}
use Rattle.chain.proofs.Describing.{described_refused, described_given}
use Rattle.chain.proofs.describe_noted.Goals as goal

pub returns-in_err-extent : goal.returns-in_err-extent
returns-in_err-extent c =
    let p = err_from_is_err_and c.from_residual.result c.from_residual.ensures.1 in
    let store = c.args.store.now in
    let places = c.args.places.now in
    let count : length places + 1 ≡ suc (length (dumps_of store)) = omega (arith, noted_count store places c.requires.0) in
    rw (p.1, p.2)
    (described_refused (dumps_of store) (length places + 1) c.args.number (c.measure.ensures.refuses _ c.in_err-extent.was)
    ∙ ap (λ (i : ℕ). described (dumps_of store) i c.args.number) count)

pub returns : goal.returns
returns c =
    let store = c.args.store.now in
    let places = c.args.places.now in
    let count : length places + 1 ≡ suc (length (dumps_of store)) = omega (arith, noted_count store places c.requires.0) in
    described_given (dumps_of store) (length places + 1) c.args.number _ (c.measure.ensures.dump _ c.in_ok-extent.was)
    (c.basis_of.ensures.is c.requires.0) c.words_needed.ensures
    ∙ ap (λ (i : ℕ). described (dumps_of store) i c.args.number) count
