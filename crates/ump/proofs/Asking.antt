-- The origin of an octet as a call, case by case: refused as all edits are, past the words lent, or answered. Assumes nothing.
use mathlib.Core.Path.{◌≡◌, refl}
use mathlib.Core.Bool.{Bool, true, false, not}
use mathlib.Core.List.{List}
use Prim.Native.Nat.{ℕ, ◌*◌, ◌≤◌, ◌<◌}
use lib.Dec.{ltb}
use lib.ListN.{length}
use borrow.Author.Tests.{lt-ltb, le-ltb, ltb-true}
use Rattle.refusal.specs.Answer.{gives, refused, Verdict, pass, ◌▷◌, guard}
use Rattle.refusal.proofs.Laws.{never_refused}
use Rattle.ump.specs.Packet.{Shape}
use Rattle.ump.specs.Packing.{words_for}
use Rattle.ump.specs.Check.{payload_of}
use Rattle.ump.specs.Edits.{edits_of, patches_of, replaced, all_checks}
use Rattle.ump.specs.Origin.{Origin, origin_in, origin}

module _ (shape : Shape) (words : List ℕ) (len : ℕ) (numbers bytes : List ℕ) (q : ℕ) where
  abbrev there : Origin
  there =
      origin_in shape (length (payload_of shape words len)) (edits_of numbers) (words_for shape (length (replaced (payload_of shape words len) (patches_of (edits_of numbers) bytes)))) len q

  pub asked_refused : {number place : ℕ} → all_checks shape words len numbers bytes ≡ refused number place → refused number place ≡ origin shape words len numbers bytes q
  unfolding origin
  asked_refused e = rw e

  module _ (ok : all_checks shape words len numbers bytes ≡ pass) where
    pub asked_past : 4 * length words ≤ q → refused 13 0 ≡ origin shape words len numbers bytes q
    unfolding origin
    asked_past h = rw (ok, le-ltb q (4 * length words) h)

    pub asked-lent : q < 4 * length words
        → gives (origin_in shape (length (payload_of shape words len)) (edits_of numbers) (words_for shape (length (replaced (payload_of shape words len) (patches_of (edits_of numbers) bytes)))) len q)
        ≡ origin shape words len numbers bytes q
    unfolding origin
    asked-lent h = rw (ok, lt-ltb q (4 * length words) h)

  -- an answer that is given
  pub record Given (o : Origin) : Type 0 where
    pub checked : all_checks shape words len numbers bytes ≡ pass
    pub lent : q < 4 * length words
    pub is : origin_in shape (length (payload_of shape words len)) (edits_of numbers) (words_for shape (length (replaced (payload_of shape words len) (patches_of (edits_of numbers) bytes)))) len q ≡ o

  pub asked_given : (o : Origin) → origin shape words len numbers bytes q ≡ gives o → Given o
  unfolding origin
  asked_given o e = go (all_checks shape words len numbers bytes) refl (ltb q (4 * length words)) refl e
    where
      go : (v : Verdict) → all_checks shape words len numbers bytes ≡ v → (b : Bool) → ltb q (4 * length words) ≡ b → v ▷ guard (not b) 13 0 ▷ gives there ≡ gives o → Given o
      go (gives u) c true l e = record { checked = c; lent = ltb-true q (4 * length words) l; is = cc e }
      go (gives u) c false l e = never_refused e
      go (refused number place) c b l e = never_refused e
