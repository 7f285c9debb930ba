-- What the answers mean: a refusal's number and place, or the values.
-- Assumes nothing.
use Rattle.refusal.specs.declared.Fault.{Fault}
use Rattle.std.specs.Prelude.{Option, None, Some, Result, Ok, Err, ◌≡◌, List, ℕ, ◌<◌}
use Rattle.refusal.specs.Answer.{Answer, gives}
use Rattle.refusal.specs.Meaning.{fault_of}
use Rattle.store.specs.Store.{dumps_of, held}
use Rattle.store.specs.Places.{Noted}
use Rattle.chain.specs.Walk.{base_of}
use Rattle.chain.specs.Restore as paper
use Rattle.chain.specs.declared.Basis.{Basis}
use Rattle.chain.specs.declared.Basis.TheVariants as basis
use Rattle.chain.specs.declared.Description.{Description}

abbrev pub basis_meaning : Basis → Option ℕ
basis_meaning basis.Whole = None
basis_meaning (basis.Delta base) = Some base

-- a base is a number of two bytes
abbrev pub Small : Basis → Type 0
Small basis.Whole = Unit {0}
Small (basis.Delta base) = base < 65536

-- what the dump of a number is, among the places of all dumps
pub record Bases (store places : List ℕ) (number : ℕ) (r : Basis) : Type 0 where
  pub small : Small r
  pub is : Noted store places → basis_meaning r ≡ base_of (held (dumps_of store) number)

abbrev pub description_meaning : Description → paper.Description
description_meaning d =
    record { base = basis_meaning d.basis; group = d.group; id = d.id; size = d.size; words = d.words; steps = d.steps }

abbrev pub described_meaning : (Result Description Fault) → Answer paper.Description
described_meaning (Ok d) = gives (description_meaning d)
described_meaning (Err fault) = fault_of fault
