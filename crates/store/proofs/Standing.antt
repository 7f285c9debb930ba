-- The dump of a number, among the places of all dumps. Assumes nothing.
use Rattle.std.specs.Prelude.{Option, None, Some}
use Rattle.std.specs.Option.{option_map}
use Rattle.std.specs.List.{find}
use mathlib.Core.Path.{◌≡◌, refl, sym, ap, ◌∙◌}
use mathlib.Core.Bool.{Bool, true, false, cond, ◌&&◌}
use mathlib.Core.List.{List, [], ◌∷◌, map}
use Prim.Native.Nat.{ℕ, suc, ◌+◌, ◌<◌}
use native.Mathlib.Omega.{arith}
use lib.ListN.{length, get_or}
use lib.Dec.{eqb, ltb}
use borrow.Author.Tests.{eq-eqb, ne_eqb, eqb-true, eqb-false, lt-ltb, ltb-true}
use Rattle.ump.specs.Word.{pair_at}
use Rattle.store.specs.Store.{Dump, dump_number, held}
use Rattle.store.specs.Places.{dump_at, DumpBegins}
use Rattle.store.specs.Meaning.{found_meaning, FoundDump, FoundInside, Finds}
use Rattle.store.proofs.Records.{and-true}
use Rattle.store.proofs.Dumps.{number_here}

eqb_same : (a b : ℕ) → eqb a b ≡ eqb b a
eqb_same a b = go (eqb b a) refl
  where
    go : (c : Bool) → eqb b a ≡ c → eqb a b ≡ c
    go true e = eq-eqb a b (sym (eqb-true b a e))
    go false e = ne_eqb a b (λ p. eqb-false b a e (sym p))

module _ (store : List ℕ) (n : ℕ) where
  -- the test of the code: a place inside, and this number
  abbrev pub numbered : ℕ → Bool
  numbered at = ltb at (length store) && eqb (pair_at store (at + 1)) n

  numbered_here : (at : ℕ) → DumpBegins store at → numbered at ≡ eqb n (dump_number (dump_at store at))
  numbered_here at b = rw (lt-ltb at (length store) b.0, number_here store at b.0 b.1) (eqb_same (pair_at store (at + 1)) n)

  found : (places : List ℕ) → ((i : ℕ) → i < length places → DumpBegins store (get_or places i 0))
      → found_meaning store (find numbered places) ≡ held (map (dump_at store) places) n
  unfolding held
  found [] b = refl
  found (at ∷ places) b =
      rw (numbered_here at (b 0 (omega arith)), ← found places (λ i h. b (suc i) (omega arith)))
      (go (eqb n (dump_number (dump_at store at))))
    where
      go : (c : Bool) → found_meaning store (cond c (Some at) (find numbered places)) ≡ cond c (Some (dump_at store at)) (found_meaning store (find numbered places))
      go true = refl
      go false = refl

  stands : (places : List ℕ) → ((i : ℕ) → i < length places → DumpBegins store (get_or places i 0)) → FoundDump store (find numbered places)
  stands [] b = tt
  stands (at ∷ places) b = go (stands places (λ i h. b (suc i) (omega arith))) (numbered at)
    where
      go : FoundDump store (find numbered places) → (c : Bool) → FoundDump store (cond c (Some at) (find numbered places))
      go more true = b 0 (omega arith)
      go more false = more

  inside : (places : List ℕ) → FoundInside store (find numbered places)
  inside [] = tt
  inside (at ∷ places) = go (inside places) (numbered at) refl
    where
      go : FoundInside store (find numbered places) → (c : Bool) → numbered at ≡ c → FoundInside store (cond c (Some at) (find numbered places))
      go more true e = ltb-true at (length store) (and-true (ltb at (length store)) (eqb (pair_at store (at + 1)) n) e).0
      go more false e = more

  pub finds : (places : List ℕ) → Finds store places n (find numbered places)
  finds places =
      record {
        inside = inside places;
        is = λ noted. found places noted.begin ∙ ap (λ (ds : List Dump). held ds n) (sym noted.dumps);
        stands = λ noted. stands places noted.begin;
      }

  pub finds_from : {places : List ℕ} {r : Option ℕ} → option_map (λ (at : ℕ). at) r ≡ find numbered places → Finds store places n r
  finds_from {places} {r} e = rw (sym (same r) ∙ e) (finds places)
    where
      same : (r : Option ℕ) → option_map (λ (at : ℕ). at) r ≡ r
      same None = refl
      same (Some at) = refl
