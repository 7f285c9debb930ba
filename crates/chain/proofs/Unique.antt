-- Any two outcomes that the promise of `describe` allows are equal. Assumes nothing.
use Rattle.std.specs.Prelude.{Option, None, Some, Result, Ok, Err}
use Rattle.refusal.specs.declared.Fault.{Fault}
use mathlib.Core.Path.{◌≡◌, refl, sym, ap, ◌∙◌}
use Prim.Native.Nat.{ℕ}
use Rattle.refusal.specs.Answer.{Answer, gives, refused}
use Rattle.refusal.specs.Tight.{FixesResult}
use Rattle.refusal.specs.Number.{number_of, Named, named}
use Rattle.refusal.specs.declared.Refusal.{Refusal}
use Rattle.refusal.proofs.Laws.{fault_back, fault-back, name_of_number}
use Rattle.refusal.proofs.Tight.{once}
use Rattle.chain.specs.Restore as paper
use Rattle.chain.specs.Meaning.{basis_meaning, description_meaning, described_meaning}
use Rattle.chain.specs.declared.Basis.{Basis}
use Rattle.chain.specs.declared.Basis.TheVariants as basis
use Rattle.chain.specs.declared.Description.{Description}
use Rattle.chain.proofs.describe.Kinds as describe-kinds
use Rattle.chain.proofs.describe.Reads as describe

abbrev basis_back : Option ℕ → Basis
basis_back None = basis.Whole
basis_back (Some base) = basis.Delta base

basis-back : (b : Basis) → basis_back (basis_meaning b) ≡ b
basis-back basis.Whole = refl
basis-back (basis.Delta base) = refl

-- the struct of a description, and the answer of its meaning
abbrev struct_of : paper.Description → Basis → Description
struct_of d b = record { basis = b; group = d.group; id = d.id; size = d.size; words = d.words; steps = d.steps }

abbrev pub described_back : Answer paper.Description → (Result Description Fault)
described_back (gives d) = Ok (struct_of d (basis_back d.base))
described_back (refused number place) = Err (fault_back number place)

described-back : (x : (Result Description Fault)) → described_back (described_meaning x) ≡ x
described-back (Ok d) = ap (λ (b : Basis). Ok (struct_of (description_meaning d) b)) (basis-back d.basis)
described-back (Err fault) = ap Err (fault-back fault)

describe_unique : FixesResult 1 describe-kinds.ps describe-kinds.r describe.Post
describe_unique κs a x y s t p q = once described_meaning described_back described-back x y (p ∙ sym q)

-- each outcome whose refusals have names is the meaning of an answer
basis_meant : (o : Option ℕ) → basis_meaning (basis_back o) ≡ o
basis_meant None = refl
basis_meant (Some base) = refl

pub described_meant : (answer : Answer paper.Description) → Named answer → described_meaning (described_back answer) ≡ answer
described_meant (gives d) h =
    ap (λ (o : Option ℕ). gives (record { base = o; group = d.group; id = d.id; size = d.size; words = d.words; steps = d.steps })) (basis_meant d.base)
described_meant (refused number place) (named r) = ap (λ (n : Refusal). refused (number_of n) place) (name_of_number r)
