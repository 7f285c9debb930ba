-- A store made of dumps of another that restores a wanted dump as well holds each dump of that walk (02, T-13). Assumes nothing.
use Rattle.std.specs.Prelude.{Option, None, Some}
use mathlib.Core.Path.{◌≡◌, refl, sym, ap, ◌∙◌}
use mathlib.Core.Bool.{true, false}
use Rattle.std.specs.Option.{option_or}
use mathlib.Core.List.{List, ◌++◌}
use Prim.Native.Nat.{ℕ, zero, suc, ◌≤◌}
use lib.ListN.{length}
use Rattle.refusal.specs.Answer.{Answer, refused, pass}
use Rattle.ump.specs.Limits.{most_words}
use Rattle.ump.specs.Edits.{elem}
use Rattle.store.specs.Store.{records_of, at_start, well_formed, Dump, whole, delta, dump_number, dumps_of, held, numbers_of, twice, sound}
use Rattle.store.proofs.Records.{not_both}
use Rattle.store.proofs.Checks.{sound_good}
use Rattle.chain.specs.Walk.{base_of, from_base, comes, IsMissing}
use Rattle.chain.specs.Restore.{exceeds, answered, restore}
use Rattle.chain.proofs.Outside.{or_false}
use Rattle.chain.proofs.Walks.{never_none, comes_base, held_by, held_number, missing_start}
use Rattle.restore.proofs.Groups.{restore_is}
use Rattle.reclaim.specs.Reclaimed.{PartOf}
use Rattle.reclaim.proofs.Bytes.{dumps-append}
use Rattle.reclaim.proofs.Again.{held-append}

-- ---- dumps behind others

-- a number that none of them has
held_none : (ds : List Dump) (n : ℕ) → elem n (numbers_of ds) ≡ false → held ds n ≡ None
held_none ds n e = go (held ds n) refl
  where
    go : (o : Option Dump) → held ds n ≡ o → o ≡ None
    go None q = refl
    go (Some d) q = not_both (held_number ds n q) e

-- where no number is used again, none is held behind as well
held_once : (ds es : List Dump) (n : ℕ) {d : Dump} → twice (numbers_of (ds ++ es)) ≡ false → held ds n ≡ Some d → held es n ≡ None
unfolding twice
held_once ds es n {d} o e =
    held_by n d (λ ds. twice (numbers_of (ds ++ es)) ≡ false → held es n ≡ None)
    (λ ds q o.
    let a = (or_false (elem (dump_number d) (numbers_of (ds ++ es))) (twice (numbers_of (ds ++ es))) o).0 in
    behind (held ds n) (sym (held-append ds es n) ∙ held_none (ds ++ es) n (ap (λ (x : ℕ). elem x (numbers_of (ds ++ es))) q ∙ a)))
    (λ c ds more o. more (or_false (elem (dump_number c) (numbers_of (ds ++ es))) (twice (numbers_of (ds ++ es))) o).1)
    ds e o
  where
    behind : (o : Option Dump) → option_or o (held es n) ≡ None → held es n ≡ None
    behind None q = q
    behind (Some c) q = never_none (sym q)

-- ---- a walk that is never missing

module _ (ds es more : List Dump) (part : (n : ℕ) (d : Dump) → held es n ≡ Some d → held ds n ≡ Some d)
    (once : twice (numbers_of (ds ++ more)) ≡ false) where
  held_here : (w : ℕ) {d : Dump} → (IsMissing (es ++ more) w → ⊥) → held ds w ≡ Some d → held es w ≡ Some d
  unfolding comes
  held_here w {d} found e = go (held es w) refl
    where
      go : (o : Option Dump) → held es w ≡ o → o ≡ Some d
      go (Some c) q = sym (part w c q) ∙ e
      go None q =
          let no : held (es ++ more) w ≡ None =
          held-append es more w ∙ ap (λ (o : Option Dump). option_or o (held more w)) q ∙ held_once ds more w once e in
          absurd (found (record { steps = 0; number = w; come = refl; none-held = no }))

  held_on : (i w n : ℕ) {d : Dump} → (IsMissing (es ++ more) w → ⊥) → comes ds i w ≡ Some n → held ds n ≡ Some d → held es n ≡ Some d
  unfolding comes
  held_on zero w n found c e = let same : w ≡ n = cc in rw same at (held_here w found (ap (held ds) same ∙ e))
  held_on (suc i) w n {d} found c e = go (λ b f h. held_on i b n f h e) (held ds w) refl c
    where
      go : ((b : ℕ) → (IsMissing (es ++ more) b → ⊥) → comes ds i b ≡ Some n → held es n ≡ Some d) → (o : Option Dump) → held ds w ≡ o
          → from_base None (λ b. comes ds i b) (base_of o) ≡ Some n → held es n ≡ Some d
      go next None q h = never_none h
      go next (Some (whole number group id bytes)) q h = never_none h
      go next (Some (delta number base patches)) q h =
          let here : held (es ++ more) w ≡ Some (delta number base patches) =
          held-append es more w ∙ ap (λ (o : Option Dump). option_or o (held more w)) (held_here w found q) in
          next base
          (λ m. found (record {
            steps = suc m.steps;
            number = m.number;
            come = comes_base (es ++ more) w m.steps here ∙ m.come;
            none-held = m.none-held;
          }))
          h

-- ---- stores

pub fewest_held : (store other more : List ℕ) → sound store ≡ pass → sound other ≡ pass → PartOf other store
    → well_formed at_start (records_of more) ≡ true → sound (store ++ more) ≡ pass → sound (other ++ more) ≡ pass
    → (w n steps : ℕ) {d : Dump} → comes (dumps_of store) steps w ≡ Some n → held (dumps_of store) n ≡ Some d
    → (words : List ℕ) {answer : Answer ℕ} {new : List ℕ} → length words ≤ most_words → (answer ≡ refused 24 0 → ⊥)
    → ◌≡◌ {A = Answer ℕ × List ℕ} (answer, new) (restore (other ++ more) w words)
    → held (dumps_of other) n ≡ Some d
fewest_held store other more s t part formed a b w n steps come e words short found call =
    held_on (dumps_of store) (dumps_of other) (dumps_of more) part
    (rw (dumps-append at_start store more (sound_good store s).formed formed) at (sound_good (store ++ more) a).once)
    steps w n
    (λ m. found (ap (λ (o : Answer ℕ × List ℕ). o.0) (call ∙ sym (restore_is (other ++ more) w words short b))
    ∙ ap (λ x. (answered words x).0)
    (missing_start (exceeds (length words)) (dumps_of (other ++ more)) w
    (rw (sym (dumps-append at_start other more (sound_good other t).formed formed)) at m))))
    come e
