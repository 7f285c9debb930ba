-- One walk of the check over the packets, by what a judge said of each. Assumes nothing.
use mathlib.Core.Path.{◌≡◌, refl, sym}
use mathlib.Core.Bool.{Bool, true, false}
use mathlib.Core.List.{List}
use Prim.Native.Nat.{ℕ, ◌*◌, ◌<◌}
use native.Mathlib.Omega.{arith}
use lib.ListN.{get_or}
use borrow.Author.Tests.{lt-ltb}
use Rattle.std.specs.Prelude.{Option, Some, None}
use Rattle.refusal.specs.Answer.{refused, pass, guard}
use Rattle.refusal.specs.Number.{number_of}
use Rattle.refusal.specs.declared.Refusal.{Refusal}
use Rattle.refusal.proofs.Laws.{guard_passed, never_refused}
use Rattle.ump.specs.Packet.{Shape}
use Rattle.ump.specs.Check.{first_where, sweep}
use Rattle.ump.proofs.First.{first_is}
use Rattle.ump.proofs.Checks.{sweep_pass}
use Rattle.message.specs.Scan.{Judges}

module _ {s : Shape} {says : ℕ → ℕ → Option Refusal → Type 0} {number : ℕ → ℕ} {bad : ℕ → Bool} {ws : List ℕ} {n : ℕ} (j : Judges s says number bad ws n) where
  clear : {p : ℕ} → p < n → says (get_or ws (s.words * p) 0) p None → bad p ≡ false
  clear {p} l t = guard_passed (bad p) (number p) 0 (sym (j.agrees p None l t))

  pub walk_passed : ((p : ℕ) → p < n → says (get_or ws (s.words * p) 0) p None) → pass ≡ sweep s number bad n
  walk_passed none = sym (sweep_pass s number bad n (λ p l. clear l (none p l)))

  pub walk_refused : (p : ℕ) {refusal : Refusal} → ((k : ℕ) → k < p → says (get_or ws (s.words * k) 0) k None) → p < n
      → says (get_or ws (s.words * p) 0) p (Some refusal) → refused (number_of refusal) (s.words * p) ≡ sweep s number bad n
  walk_refused p {refusal} none l t = go (bad p) refl (j.agrees p (Some refusal) l t)
    where
      go : (b : Bool) → bad p ≡ b → refused (number_of refusal) 0 ≡ guard b (number p) 0 → refused (number_of refusal) (s.words * p) ≡ sweep s number bad n
      go true e r =
          let first : first_where bad n ≡ p = first_is bad n p (omega arith) (λ k h. clear (omega arith) (none k h)) (λ h. e) in
          let same : number_of refusal ≡ number p = cc in
          rw (first, lt-ltb p n l, same)
      go false e r = never_refused r
