-- Dumps that stay with their bases are restored and described as before, however many others there are (02, T-13). Assumes nothing.
use Rattle.std.specs.Prelude.{Option, None, Some}
use mathlib.Core.Path.{◌≡◌, refl, sym, ap, ◌∙◌}
use mathlib.Core.Bool.{Bool}
use mathlib.Core.List.{List, [], ◌∷◌}
use Prim.Native.Nat.{ℕ, zero, suc, ◌+◌}
use native.Mathlib.Nat.{suc-add}
use native.Mathlib.Omega.{arith}
use lib.ListN.{length}
use Rattle.refusal.specs.Answer.{refused}
use Rattle.store.specs.Store.{Dump, whole, delta, dumps_of, held}
use Rattle.chain.specs.Walk.{base_of, from_base, comes, InRing}
use Rattle.chain.specs.Restore.{restored, unlimited, payload_size, sizes, described}
use Rattle.chain.proofs.Walks.{End, ring, missing, rests, end_of, walk, ring_is, ring_restored, restored_more, begun}
use Rattle.chain.proofs.Orders.{restored_agree, described_agree}
use Rattle.reclaim.specs.Reclaim.{stays}
use Rattle.reclaim.specs.Reclaimed.{Needed}
use Rattle.reclaim.proofs.Kept.{kept_dumps, held_kept, held-freed}
use Rattle.reclaim.proofs.Reaching.{needed_stays, freed_goes, needed_base}

-- ---- the count: as many as the dumps are enough, and any larger

module _ (ds : List Dump) where
  sizes_more : (left n k : ℕ) → (walk ds left n ≡ ring → ⊥) → sizes ds (left + k) n ≡ sizes ds left n
  unfolding walk sizes
  sizes_more zero n k h = absurd (h refl)
  sizes_more (suc left) n k h =
      let same : restored unlimited ds (suc (left + k)) n ≡ restored unlimited ds (suc left) n =
      ap (λ (x : ℕ). restored unlimited ds x n) (sym (suc-add left k)) ∙ restored_more unlimited ds (suc left) n k h in
      rw (suc-add, same) (go (λ b w. sizes_more left b k w) (held ds n) h)
    where
      size : ℕ
      size = payload_size (restored unlimited ds (suc left) n)

      go : ((b : ℕ) → (walk ds left b ≡ ring → ⊥) → sizes ds (left + k) b ≡ sizes ds left b) → (o : Option Dump)
          → (end_of o (λ b. walk ds left b) ≡ ring → ⊥)
          → (size ∷ from_base [] (λ b. sizes ds (left + k) b) (base_of o)) ≡ size ∷ from_base [] (λ b. sizes ds left b) (base_of o)
      go more None w = refl
      go more (Some (whole number group id bytes)) w = refl
      go more (Some (delta number base patches)) w = ap (λ (l : List ℕ). size ∷ l) (more base w)

  described_more : (left n k : ℕ) → (walk ds left n ≡ ring → ⊥) → described ds (left + k) n ≡ described ds left n
  unfolding described
  described_more left n k h = rw (restored_more unlimited ds left n k h, sizes_more left n k h)

  described_ring : (left n : ℕ) → InRing ds n → described ds left n ≡ refused 25 0
  unfolding described
  described_ring left n r = rw (ring_restored unlimited ds left n r)

  -- a walk in a ring, or not, by a count that is enough
  by_walk : {A : Type 0} (f : ℕ → A) (n k : ℕ)
      → ((walk ds (suc (length ds)) n ≡ ring → ⊥) → f (suc (length ds) + k) ≡ f (suc (length ds)))
      → (InRing ds n → f (suc (length ds) + k) ≡ f (suc (length ds)))
      → f (suc (length ds) + k) ≡ f (suc (length ds))
  by_walk f n k ended round = go (walk ds (suc (length ds)) n) refl
    where
      go : (e : End) → walk ds (suc (length ds)) n ≡ e → f (suc (length ds) + k) ≡ f (suc (length ds))
      go ring q = round (ring_is ds n q)
      go missing q = ended (λ e. let z : ◌≡◌ {A = ℕ} 0 1 = cc in absurd (omega arith))
      go rests q = ended (λ e. let z : ◌≡◌ {A = ℕ} 0 1 = cc in absurd (omega arith))

  restored_enough : (too_long : ℕ → Bool) (n k : ℕ) → restored too_long ds (suc (length ds) + k) n ≡ begun too_long ds n
  restored_enough too_long n k =
      by_walk (λ x. restored too_long ds x n) n k (restored_more too_long ds (suc (length ds)) n k)
      (λ r. ring_restored too_long ds (suc (length ds) + k) n r ∙ sym (ring_restored too_long ds (suc (length ds)) n r))

  described_enough : (n k : ℕ) → described ds (suc (length ds) + k) n ≡ described ds (suc (length ds)) n
  described_enough n k =
      by_walk (λ x. described ds x n) n k (described_more (suc (length ds)) n k)
      (λ r. described_ring (suc (length ds) + k) n r ∙ sym (described_ring (suc (length ds)) n r))

-- ---- dumps that agree on numbers closed under bases

module _ (ds es : List Dump) (On : ℕ → Type 0) (agree : (m : ℕ) → On m → held ds m ≡ held es m)
    (closed : (m b : ℕ) → On m → base_of (held ds m) ≡ Some b → On b) where
  comes_agree : (k n : ℕ) → On n → comes ds k n ≡ comes es k n
  unfolding comes
  comes_agree zero n on = refl
  comes_agree (suc k) n on = rw (← (agree n on)) (go (λ b h. comes_agree k b h) (base_of (held ds n)) refl)
    where
      go : ((b : ℕ) → On b → comes ds k b ≡ comes es k b) → (o : Option ℕ) → base_of (held ds n) ≡ o
          → from_base None (λ b. comes ds k b) o ≡ from_base None (λ b. comes es k b) o
      go more None q = refl
      go more (Some b) q = more b (closed n b on q)

  -- by their own counts
  counts : suc (length ds) + suc (length es) ≡ suc (length es) + suc (length ds)
  counts = omega arith

  begun_agree : (too_long : ℕ → Bool) (n : ℕ) → On n → begun too_long ds n ≡ begun too_long es n
  begun_agree too_long n on =
      sym (restored_enough ds too_long n (suc (length es)))
      ∙ restored_agree ds es On agree closed too_long (suc (length ds) + suc (length es)) n on
      ∙ ap (λ (x : ℕ). restored too_long es x n) counts
      ∙ restored_enough es too_long n (suc (length ds))

  told_agree : (n : ℕ) → On n → described ds (suc (length ds)) n ≡ described es (suc (length es)) n
  told_agree n on =
      sym (described_enough ds n (suc (length es)))
      ∙ described_agree ds es On agree closed (suc (length ds) + suc (length es)) n on
      ∙ ap (λ (x : ℕ). described es x n) counts
      ∙ described_enough es n (suc (length ds))

-- ---- the dumps of a store that stay

module _ (store : List ℕ) where
  abbrev pub staying : List Dump
  staying = kept_dumps (stays store) (dumps_of store)

  pub staying_held : (n : ℕ) → Needed store n → held (dumps_of store) n ≡ held staying n
  staying_held n k = sym (held_kept (stays store) n (needed_stays store n k) (dumps_of store))

  pub freed-held : (n : ℕ) → (Needed store n → ⊥) → held staying n ≡ None
  freed-held n h = held-freed (stays store) n (freed_goes store n h) (dumps_of store)

  pub staying_comes : (k n : ℕ) → Needed store n → comes (dumps_of store) k n ≡ comes staying k n
  staying_comes = comes_agree (dumps_of store) staying (Needed store) staying_held (needed_base store)

  pub staying_begun : (too_long : ℕ → Bool) (n : ℕ) → Needed store n → begun too_long (dumps_of store) n ≡ begun too_long staying n
  staying_begun = begun_agree (dumps_of store) staying (Needed store) staying_held (needed_base store)

  pub staying_told : (n : ℕ) → Needed store n
      → described (dumps_of store) (suc (length (dumps_of store))) n ≡ described staying (suc (length staying)) n
  staying_told = told_agree (dumps_of store) staying (Needed store) staying_held (needed_base store)
