-- `chain::measuring::measure_whole`. Assumes nothing.
use borrow.Author.Rules.{rules}
use mathlib.Core.Path.{refl, ◌∙◌}
use lib.ListN.{get_or}
use Rattle.chain.specs.Laying.{DataSized}
use Rattle.chain.proofs.Steps.{whole_dump, group_here, id_here}
use Rattle.chain.proofs.measuring.measure_whole.Statement.{statement}
use Rattle.chain.proofs.measuring.measure_whole.Tie as tie

returns : tie.Need-returns
returns c =
    let x = c.args in
    let dump = whole_dump (get_or x.store.now x.at 0) c.requires.1 in
    let r : DataSized _ _ _ = rw (c.next.ensures.is c.requires.0) at c.measure_data-reached.ensures in
    record {
      group = c.byte.ensures ∙ group_here x.store.now x.at dump;
      id = c.byte-2.ensures ∙ id_here x.store.now x.at dump;
      size = r.size;
      largest_is = refl;
      steps = refl;
    }

pub measure_whole_spec : {M : Type 1} → statement M
measure_whole_spec =
    tie.close
    (tie.spec
    (λ c κs. search rules)
    (λ c κs. search rules)
    (λ c. search rules)
    (λ c κs. search rules)
    (λ c. search rules)
    (λ c κs. search rules)
    returns)
