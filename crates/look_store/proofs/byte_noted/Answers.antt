-- `look_store::byte_noted`: what measuring says, then the byte. Assumes nothing.
use Rattle.std.proofs.Common.{◌≡◌, ◌∙◌, ap, List, ℕ, suc, ◌+◌, length, arith}
use Rattle.std.proofs.lemmas.Result.{err_from_is_err_and}
use Rattle.store.specs.Store.{dumps_of}
use Rattle.store.specs.Places.{Noted}
use Rattle.store.proofs.Checks.{noted_count}
use Rattle.chain.specs.Restore.{restored, unlimited}
use Rattle.look_store.specs.Byte.{byte_found}
use Rattle.look_store.proofs.Answering.{found_refused, found_past, found_given}
use Rattle.look_store.proofs.byte_noted.Goals as goal

-- one more than there are places is one more than there are dumps
counted : (store places : List ℕ) → Noted store places → (n i : ℕ)
    → byte_found (restored unlimited (dumps_of store) (length places + 1) n) i
    ≡ byte_found (restored unlimited (dumps_of store) (suc (length (dumps_of store))) n) i
counted store places noted n i =
    let same : length places + 1 ≡ suc (length (dumps_of store)) = omega (arith, noted_count store places noted) in
    ap (λ (k : ℕ). byte_found (restored unlimited (dumps_of store) k n) i) same

pub returns-in_err-extent : goal.returns-in_err-extent
returns-in_err-extent c =
    let p = err_from_is_err_and c.from_residual.result c.from_residual.ensures.1 in
    rw (p.1, p.2)
    (found_refused c.args.position (c.measure.ensures.refuses _ c.in_err-extent.was)
    ∙ counted c.args.store.now c.args.places.now c.requires.noted c.args.number c.args.position)

pub returns-then-extent-position : goal.returns-then-extent-position
returns-then-extent-position c =
    let below = c.measure.ensures.dump _ c.in_ok-extent.was in
    rw c.into.ensures
    (found_past c.args.position below.is (omega (arith, c.if-extent-position.true, below.size))
    ∙ counted c.args.store.now c.args.places.now c.requires.noted c.args.number c.args.position)

pub locate-requires : goal.locate-requires
locate-requires c =
    let below = c.measure.ensures.dump _ c.in_ok-extent.was in
    record {
      noted = c.requires.noted;
      good = c.requires.good;
      payload = below.payload;
      is = below.is;
      inside = omega (arith, c.if-extent-position.false, below.size);
    }

pub returns : goal.returns
returns c =
    let below = c.measure.ensures.dump _ c.in_ok-extent.was in
    found_given c.args.position below.is (omega (arith, c.if-extent-position.false, below.size)) (c.locate.ensures.is below.payload below.is)
    ∙ counted c.args.store.now c.args.places.now c.requires.noted c.args.number c.args.position
