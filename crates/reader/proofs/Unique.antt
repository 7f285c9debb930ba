-- Any two outcomes that a promise allows are equal; each theorem cites the promise itself. Assumes nothing.
use Rattle.std.specs.Prelude.{ℕ, Option}
use mathlib.Core.Path.{◌≡◌, sym, ap, ◌∙◌}
use seplogic.Ra.Ura.{Ura}
use base.Logic.{SProp, ent, emp, via}
use prog.Memory.{Memory}
use prog.Routine.{Routine}
use types.Logic.{Logic}
use contract.Conj.{conj, conj_r}
use contract.Lifetimes.{Lfts}
use contract.Monad.{Fun, fact, fact_mono, guard-conj}
use denote.Triple.Clauses.{Ended, AtExit, Clauses}
use denote.Triple.Entry.{Args, Res}
use Rattle.refusal.specs.Tight.{FixesResult}
use Rattle.ump.specs.Reader as paper
use Rattle.reader.specs.Meaning.{step_meaning}
use Rattle.reader.specs.declared.PayloadReader.{PayloadReader}
use Rattle.reader.proofs.Laws.{step_once, read_once, open_once}
use Rattle.reader.proofs.next.Kinds as next-kinds
use Rattle.reader.proofs.next.Reads as next
use Rattle.reader.proofs.nth.Kinds as nth-kinds
use Rattle.reader.proofs.nth.Reads as nth
use Rattle.reader.proofs.remaining.Kinds as remaining-kinds
use Rattle.reader.proofs.remaining.Reads as remaining
use Rattle.reader.proofs.payload_byte.Kinds as byte-kinds
use Rattle.reader.proofs.payload_byte.Reads as byte
use Rattle.reader.proofs.open.Kinds as open-kinds
use Rattle.reader.proofs.open.Reads as opening
use Rattle.reader.specs.contracts.PayloadReader.new as held_new
use Rattle.reader.specs.contracts.PayloadReader.nth as held-nth
use Rattle.reader.specs.contracts.PayloadReader.next as held_next
use Rattle.reader.specs.contracts.PayloadReader.remaining as held-remaining

next_unique : FixesResult 1 next-kinds.ps next-kinds.r next.Post
next_unique κs a x y s t p q = read_once x y (p ∙ sym q)

nth_unique : FixesResult 1 nth-kinds.ps nth-kinds.r nth.Post
nth_unique κs a x y s t p q = read_once x y (p ∙ sym q)

remaining_unique : FixesResult 1 remaining-kinds.ps remaining-kinds.r remaining.Post
remaining_unique κs a x y s t p q = p ∙ sym q

open_unique : FixesResult 1 open-kinds.ps open-kinds.r opening.Post
open_unique κs a x y s t p q = open_once x y (p ∙ sym q)

byte_unique : FixesResult 1 byte-kinds.ps byte-kinds.r byte.Post
byte_unique κs a x y s t p q = step_once x y (p ∙ sym q)

-- The methods over the held reader have no such `Post`: their promises are assertions, of which two say that their outcomes are equal.
module _ {M : Type 1} {𝓤 : Ura M} (𝓛 : Logic 𝓤) (mem : Memory → SProp 𝓤) (run : Routine → Fun 𝓤) where
  abbrev Fixes : (T : Ended) → Clauses 𝓤 T → ((κs : Lfts T.signature.lifetimes) (x y : Res T.signature κs) (s t : AtExit T κs) → Type 0) → Type 1
  Fixes T c Same =
      (κs : Lfts T.signature.lifetimes) (a : Args T.signature κs) (g : (c κs a).ghost) (x y : Res T.signature κs) (s t : AtExit T κs)
      → ent 𝓤 (conj 𝓤 ((c κs a).ensures g x s) ((c κs a).ensures g y t)) (fact 𝓤 (Same κs x y s t))

  both : (P Q R : Type 0) → (P → Q → R) → ent 𝓤 (conj 𝓤 (fact 𝓤 P) (fact 𝓤 Q)) (fact 𝓤 R)
  both P Q R f =
      guard-conj 𝓤 P (emp 𝓤) (fact 𝓤 Q) (λ p. via 𝓤 (fact 𝓤 Q) (conj_r 𝓤 (emp 𝓤) (fact 𝓤 Q)) (fact_mono 𝓤 Q R (f p)))

  -- the step and the reader after it
  same_read : (x y : (Option ℕ)) (h k : PayloadReader) (o : paper.Step × PayloadReader) → (step_meaning x, h) ≡ o → (step_meaning y, k) ≡ o → (x ≡ y) × (h ≡ k)
  same_read x y h k o p q =
      let e = p ∙ sym q in
      (step_once x y (ap (λ (r : paper.Step × PayloadReader). r.0) e), ap (λ (r : paper.Step × PayloadReader). r.1) e)

  held_new_unique : Fixes held_new.ended (held_new.clauses 𝓛 mem run) (λ κs x y s t. x ≡ y)
  held_new_unique κs a g x y s t = both _ _ _ (λ p q. p ∙ sym q)

  held_nth_unique : Fixes held-nth.ended (held-nth.clauses 𝓛 mem run) (λ κs x y s t. (x ≡ y) × (s.0.now ≡ t.0.now))
  held_nth_unique κs a g x y s t = both _ _ _ (λ p q. same_read x y s.0.now t.0.now _ p q)

  held_next_unique : Fixes held_next.ended (held_next.clauses 𝓛 mem run) (λ κs x y s t. (x ≡ y) × (s.0.now ≡ t.0.now))
  held_next_unique κs a g x y s t = both _ _ _ (λ p q. same_read x y s.0.now t.0.now _ p q)

  held_remaining_unique : Fixes held-remaining.ended (held-remaining.clauses 𝓛 mem run) (λ κs x y s t. x ≡ y)
  held_remaining_unique κs a g x y s t = both _ _ _ (λ p q. p ∙ sym q)
