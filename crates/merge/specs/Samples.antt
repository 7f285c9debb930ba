-- The definitions of this crate at small inputs, computed: the edits of document 01's P8, on the payload of P5, in one pass and in two.
-- Assumes nothing.
use Rattle.std.specs.Prelude.{◌≡◌, refl, Bool, true, false, List, [], ◌∷◌, ℕ}
use Rattle.std.proofs.Common.{lit≤}
use Rattle.ump.specs.Word.{octets}
use Rattle.ump.specs.Edits.{Edit, edits_from, edits_of}
use Rattle.merge.specs.Thirteens.{body, front_of, middle_of}
use Rattle.merge.specs.Pass.{Step, step_of, merged, begin_of, Turns}

abbrev numbers8 : List ℕ
numbers8 = 0 ∷ 1 ∷ 2 ∷ 2 ∷ 3 ∷ 0 ∷ []

abbrev edits8 : List Edit
edits8 = edits_of numbers8

abbrev step : ℕ → ℕ → ℕ → Step
step kept out put = record { kept = kept; out = out; put = put }

-- a pass over a payload with P8's replacement bytes
abbrev pass8 : Bool → Bool → List ℕ → List ℕ
pass8 shrunk grow source = merged shrunk grow 0 edits8 source (0xB0 ∷ 0xB1 ∷ [])

pub record Samples : Type 0 where
  pub numbers : (begin_of numbers8 3 ≡ 0) × (begin_of [] 3 ≡ 3)
  pub steps : (step_of false true 0 (record { from = 0; to = 1; length = 2 }) ≡ step 0 1 2)
      × (step_of false false 0 (record { from = 0; to = 1; length = 2 }) ≡ step 1 0 0)
      × (step_of true true 1 (record { from = 2; to = 3; length = 0 }) ≡ step 1 0 0)
  pub one_pass : pass8 false true (0xA0 ∷ 0xA1 ∷ 0xA2 ∷ []) ≡ 0xB0 ∷ 0xB1 ∷ 0xA1 ∷ []
  pub two_passes : (pass8 false false (0xA0 ∷ 0xA1 ∷ 0xA2 ∷ []) ≡ 0xA0 ∷ 0xA1 ∷ []) × (pass8 true true (0xA0 ∷ 0xA1 ∷ []) ≡ 0xB0 ∷ 0xB1 ∷ 0xA1 ∷ [])
  pub goes : Turns false true 3 0 3 2 0 0 0 0 edits8
  pub parts : (front_of 0x0102030405060708090A0B0C0D 2 ≡ 0x01020000000000000000000000)
      × (middle_of 0x0102030405060708090A0B0C0D 1 2 ≡ 0x02030000000000000000000000)
      × (body (0x5233071C ∷ 0x42000000 ∷ 0 ∷ 0 ∷ []) 0 ≡ 0x1C ∷ 0x42 ∷ 0 ∷ 0 ∷ 0 ∷ 0 ∷ 0 ∷ 0 ∷ 0 ∷ 0 ∷ 0 ∷ 0 ∷ 0 ∷ [])

pub samples : Samples
unfolding begin_of step_of merged Turns edits_from octets
samples = record {
  numbers = (refl, refl);
  steps = (refl, refl, refl);
  one_pass = refl;
  two_passes = (refl, refl);
  goes = (
    (lit≤ tt, (lit≤ tt, (lit≤ tt, (lit≤ tt, (lit≤ tt, λ l. lit≤ tt))))),
    ((lit≤ tt, (lit≤ tt, (lit≤ tt, (lit≤ tt, (lit≤ tt, λ l. lit≤ tt))))), (lit≤ tt, (refl, λ l. lit≤ tt))),
  );
  parts = (refl, refl, refl);
}
