-- `chain::basis_of`. Assumes nothing.
use Rattle.std.specs.Prelude.{Some}
use Rattle.std.proofs.Common.{sym, ap, ◌∙◌}
use Rattle.store.specs.Store.{is_whole}
use Rattle.store.specs.Meaning.{found_meaning}
use Rattle.store.proofs.Parts.{test_is}
use Rattle.chain.specs.Walk.{base_of}
use Rattle.chain.proofs.Steps.{found_at, whole_base, delta_base}
use Rattle.chain.proofs.basis_of.Goals as goal

pub returns-then-is_whole : goal.returns-then-is_whole
returns-then-is_whole c =
    let x = c.args in
    record {
      small = tt;
      is = λ noted.
          let stands = found_at x.store.now (c.find.ensures.stands noted) c.in-Some.is in
          sym (whole_base x.store.now c.in-Some.at stands.1 (test_is is_whole c.is_whole.ensures c.byte.ensures c.if-is_whole.true))
          ∙ ap base_of (ap (found_meaning x.store.now) (sym c.in-Some.is) ∙ c.find.ensures.is noted);
    }

pub returns-else-is_whole : goal.returns-else-is_whole
returns-else-is_whole c =
    let x = c.args in
    record {
      small = c.number_at.ensures.1;
      is = λ noted.
          let stands = found_at x.store.now (c.find.ensures.stands noted) c.in-Some.is in
          ap Some c.number_at.ensures.0
          ∙ sym (delta_base x.store.now c.in-Some.at stands.1 (test_is is_whole c.is_whole.ensures c.byte.ensures c.if-is_whole.false))
          ∙ ap base_of (ap (found_meaning x.store.now) (sym c.in-Some.is) ∙ c.find.ensures.is noted);
    }
