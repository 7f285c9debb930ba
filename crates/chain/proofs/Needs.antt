-- What restoring needs: room for the largest payload on the way, and no more; how many bases are followed. Assumes nothing.
use Rattle.std.specs.Prelude.{Option, None, Some}
use mathlib.Core.Path.{◌≡◌, refl, sym, ap, ◌∙◌}
use mathlib.Core.Logic.{◌⊎◌, inl, inr}
use mathlib.Core.Bool.{Bool, true, false}
use mathlib.Core.List.{List, [], ◌∷◌}
use Prim.Native.Nat.{ℕ, zero, suc, ◌-◌, ◌≤◌, ◌<◌, max}
use native.Mathlib.Omega.{arith}
use lib.ListN.{length}
use lib.Dec.{ltb}
use borrow.Author.Tests.{ltb-true, ltb-false, le-ltb}
use Rattle.refusal.specs.Answer.{Answer, gives, refused, ◌▷◌, guard}
use Rattle.refusal.proofs.Laws.{never_refused, never_both}
use Rattle.ump.specs.Packet.{sysex8}
use Rattle.ump.specs.Packing.{words_for}
use Rattle.ump.specs.Edits.{Patch, replaced}
use Rattle.ump.proofs.Sizes.{words_mono}
use Rattle.store.specs.Store.{Dump, whole, delta, held}
use Rattle.chain.specs.Walk.{base_of, from_base, comes, Rests}
use Rattle.chain.specs.Restore.{Payload, exceeds, roomed, outside, rebuilt, restored_by, restored, unlimited, payload_size, sizes, largest}
use Rattle.chain.proofs.Walks.{rests_base, rebuilt_refused}
use Rattle.chain.proofs.Making.{rebuilt_from, Made, of_whole, of_delta, made}

-- ---- a payload that is not too long, and a delta of one

pub roomed_is : (too_long : ℕ → Bool) (p : Payload) → too_long (length p.bytes) ≡ false → roomed too_long p ≡ gives p
unfolding roomed
roomed_is too_long p e = rw e

roomed_either : (too_long : ℕ → Bool) (p : Payload) → (roomed too_long p ≡ gives p) ⊎ (roomed too_long p ≡ refused 14 0)
unfolding roomed
roomed_either too_long p = go (too_long (length p.bytes))
  where
    go : (b : Bool) → (guard b 14 0 ▷ gives p ≡ gives p) ⊎ (guard b 14 0 ▷ gives p ≡ refused 14 0)
    go true = inr refl
    go false = inl refl

rebuilt-roomed : (too_long : ℕ → Bool) (patches : List Patch) (base : Payload) {answer : Answer Payload} → answer ≡ gives base
    → outside (length base.bytes) patches ≡ false → rebuilt too_long patches answer ≡ roomed too_long (rebuilt_from patches base)
unfolding rebuilt
rebuilt-roomed too_long patches base g o = rw (g, o)

rebuilt_is : (too_long : ℕ → Bool) (patches : List Patch) (base : Payload) {answer : Answer Payload} → answer ≡ gives base
    → outside (length base.bytes) patches ≡ false → too_long (length (replaced base.bytes patches)) ≡ false
    → rebuilt too_long patches answer ≡ gives (rebuilt_from patches base)
rebuilt_is too_long patches base g o r = rebuilt-roomed too_long patches base g o ∙ roomed_is too_long (rebuilt_from patches base) r

rebuilt_range : (too_long : ℕ → Bool) (patches : List Patch) (base : Payload) {answer : Answer Payload} → answer ≡ gives base
    → outside (length base.bytes) patches ≡ true → rebuilt too_long patches answer ≡ refused 13 0
unfolding rebuilt
rebuilt_range too_long patches base g o = rw (g, o)

-- ---- with a limit and without one

-- none of these is too long
abbrev pub AllFit : (ℕ → Bool) → List ℕ → Type 0
AllFit too_long [] = Unit {0}
AllFit too_long (n ∷ ns) = (too_long n ≡ false) × AllFit too_long ns

-- this payload, or no room
abbrev pub GivenOr : Payload → Answer Payload → Type 0
GivenOr p answer = (answer ≡ gives p) ⊎ (answer ≡ refused 14 0)

-- this refusal; or it was Range, and a dump that is rested on has no room
abbrev pub RefusedOr : ℕ → ℕ → Answer Payload → Type 0
RefusedOr number place answer = (answer ≡ refused number place) ⊎ ((number ≡ 13) × (answer ≡ refused 14 0))

module _ (too_long : ℕ → Bool) (ds : List Dump) where
  -- what is given with a limit is given without one, and no payload on the way is too long
  pub given_fits : (left n : ℕ) {p : Payload} → restored too_long ds left n ≡ gives p
      → (restored unlimited ds left n ≡ gives p) × AllFit too_long (sizes ds left n)
  unfolding restored sizes
  given_fits zero n e = never_refused e
  given_fits (suc left) n {p} e = go (λ b q h. given_fits left b h) (made too_long ds left n e)
    where
      fits : {a : Answer Payload} → a ≡ gives p → too_long (length p.bytes) ≡ false → (ns : List ℕ) → AllFit too_long ns
          → (a ≡ gives p) × AllFit too_long (payload_size a ∷ ns)
      fits i r ns f = (i, (ap (λ (a : Answer Payload). too_long (payload_size a)) i ∙ r, f))

      go : ((b : ℕ) (q : Payload) → restored too_long ds left b ≡ gives q
          → (restored unlimited ds left b ≡ gives q) × AllFit too_long (sizes ds left b)) → Made too_long ds left n p
          → (restored_by unlimited (λ b. restored unlimited ds left b) (held ds n) ≡ gives p)
          × AllFit too_long
          (payload_size (restored_by unlimited (λ b. restored unlimited ds left b) (held ds n))
          ∷ from_base [] (λ b. sizes ds left b) (base_of (held ds n)))
      go more (of_whole group id bytes t r s) = rw t (fits (roomed_is unlimited _ refl ∙ ap gives s) r [] tt)
      go more (of_delta base patches t b) =
          let m = more base b.old b.is_base in
          let is = rebuilt_is unlimited patches b.old m.0 b.good refl ∙ ap gives b.is in
          rw t (fits is b.room (sizes ds left base) m.1)

  -- and the other way round
  pub fits_given : (left n : ℕ) {p : Payload} → restored unlimited ds left n ≡ gives p → AllFit too_long (sizes ds left n)
      → restored too_long ds left n ≡ gives p
  unfolding restored sizes
  fits_given zero n e f = never_refused e
  fits_given (suc left) n {p} e f =
      go (λ b q h g. fits_given left b h g) (made unlimited ds left n e) (rw e at f.0) f.1
    where
      go : ((b : ℕ) (q : Payload) → restored unlimited ds left b ≡ gives q → AllFit too_long (sizes ds left b)
          → restored too_long ds left b ≡ gives q) → Made unlimited ds left n p → too_long (length p.bytes) ≡ false
          → AllFit too_long (from_base [] (λ b. sizes ds left b) (base_of (held ds n)))
          → restored_by too_long (λ b. restored too_long ds left b) (held ds n) ≡ gives p
      go more (of_whole group id bytes t r s) k g =
          rw t (roomed_is too_long _ (ap (λ (x : Payload). too_long (length x.bytes)) s ∙ k) ∙ ap gives s)
      go more (of_delta base patches t b) k g =
          rw t
          (rebuilt_is too_long patches b.old (more base b.old b.is_base (rw t at g)) b.good
          (ap (λ (x : Payload). too_long (length x.bytes)) b.is ∙ k)
          ∙ ap gives b.is)

  -- what is given without a limit is given with one, or has no room
  pub given_either : (left n : ℕ) {p : Payload} → restored unlimited ds left n ≡ gives p
      → GivenOr p (restored too_long ds left n)
  unfolding restored
  given_either zero n e = never_refused e
  given_either (suc left) n {p} e = go (λ b q h. given_either left b h) (made unlimited ds left n e)
    where
      go : ((b : ℕ) (q : Payload) → restored unlimited ds left b ≡ gives q → GivenOr q (restored too_long ds left b))
          → Made unlimited ds left n p → GivenOr p (restored_by too_long (λ b. restored too_long ds left b) (held ds n))
      go more (of_whole group id bytes t r s) = rw (t, ← s) (roomed_either too_long _)
      go more (of_delta base patches t b) = rw (t, ← b.is) (from (more base b.old b.is_base))
        where
          from : GivenOr b.old (restored too_long ds left base)
              → GivenOr (rebuilt_from patches b.old) (rebuilt too_long patches (restored too_long ds left base))
          from (inl g) = rw (rebuilt-roomed too_long patches b.old g b.good) (roomed_either too_long (rebuilt_from patches b.old))
          from (inr g) = inr (rebuilt_refused too_long patches g)

  -- what is refused without a limit is refused with one
  pub refused_either : (left n : ℕ) {number place : ℕ} → restored unlimited ds left n ≡ refused number place
      → RefusedOr number place (restored too_long ds left n)
  unfolding restored
  refused_either zero n e = inl e
  refused_either (suc left) n {number} {place} e = go (λ b h. refused_either left b h) (held ds n) e
    where
      go : ((b : ℕ) → restored unlimited ds left b ≡ refused number place → RefusedOr number place (restored too_long ds left b))
          → (o : Option Dump) → restored_by unlimited (λ b. restored unlimited ds left b) o ≡ refused number place
          → RefusedOr number place (restored_by too_long (λ b. restored too_long ds left b) o)
      go more None h = inl h
      go more (Some (whole number' group id bytes)) h =
          never_both (sym (roomed_is unlimited (record { group = group; id = id; bytes = bytes }) refl) ∙ h)
      go more (Some (delta number' base patches)) h = by (restored unlimited ds left base) refl
        where
          below : RefusedOr number place (restored too_long ds left base)
              → RefusedOr number place (rebuilt too_long patches (restored too_long ds left base))
          below (inl i) = inl (rebuilt_refused too_long patches i)
          below (inr i) = inr (i.0, rebuilt_refused too_long patches i.1)

          range : (b : Payload) → ◌≡◌ {A = Answer Payload} (refused 13 0) (refused number place)
              → outside (length b.bytes) patches ≡ true
              → GivenOr b (restored too_long ds left base)
              → RefusedOr number place (rebuilt too_long patches (restored too_long ds left base))
          range b s q (inl g) = inl (rebuilt_range too_long patches b g q ∙ s)
          range b s q (inr g) = inr (cc, rebuilt_refused too_long patches g)

          inside : (b : Payload) → restored unlimited ds left base ≡ gives b → (t : Bool) → outside (length b.bytes) patches ≡ t
              → RefusedOr number place (rebuilt too_long patches (restored too_long ds left base))
          inside b g true q = range b (sym (rebuilt_range unlimited patches b g q) ∙ h) q (given_either left base g)
          inside b g false q = never_both (sym (rebuilt_is unlimited patches b g q refl) ∙ h)

          by : (a : Answer Payload) → restored unlimited ds left base ≡ a
              → RefusedOr number place (rebuilt too_long patches (restored too_long ds left base))
          by (gives b) g = inside b g (outside (length b.bytes) patches) refl
          by (refused k l) g = below (more base (g ∙ sym (rebuilt_refused unlimited patches g) ∙ h))

-- ---- the words that describing says

largest_fits : (lent : ℕ) (ns : List ℕ) → words_for sysex8 (largest ns) ≤ lent → AllFit (exceeds lent) ns
largest_fits lent [] h = tt
largest_fits lent (n ∷ ns) h =
    let m = max n (largest ns) in
    let a : n ≤ m = omega arith in
    let b : largest ns ≤ m = omega arith in
    let first : words_for sysex8 n ≤ lent = omega (arith, words_mono sysex8 n m a, h) in
    (le-ltb lent (words_for sysex8 n) first, largest_fits lent ns (omega (arith, words_mono sysex8 (largest ns) m b, h)))

fits_largest : (lent : ℕ) (ns : List ℕ) → words_for sysex8 0 ≤ lent → AllFit (exceeds lent) ns → words_for sysex8 (largest ns) ≤ lent
fits_largest lent [] z f = z
fits_largest lent (n ∷ ns) z f = go (fits_largest lent ns z f.1) (ltb n (largest ns)) refl
  where
    go : words_for sysex8 (largest ns) ≤ lent → (b : Bool) → ltb n (largest ns) ≡ b → words_for sysex8 (max n (largest ns)) ≤ lent
    go more true q =
        let l = ltb-true n (largest ns) q in
        let e : max n (largest ns) ≡ largest ns = omega arith in
        rw e more
    go more false q =
        let l = ltb-false n (largest ns) q in
        let e : max n (largest ns) ≡ n = omega arith in
        rw e (ltb-false lent (words_for sysex8 n) f.0)

-- Restoring with so many words gives what restoring without a limit gives, exactly if they are no fewer than the largest payload on the
-- way needs.
module _ (lent : ℕ) (ds : List Dump) where
  pub needs_enough : (left n : ℕ) {p : Payload} → restored unlimited ds left n ≡ gives p
      → words_for sysex8 (largest (sizes ds left n)) ≤ lent
      → restored (exceeds lent) ds left n ≡ gives p
  needs_enough left n e h = fits_given (exceeds lent) ds left n e (largest_fits lent (sizes ds left n) h)

  pub needs_all : (left n : ℕ) {p : Payload} → restored (exceeds lent) ds left n ≡ gives p
      → (restored unlimited ds left n ≡ gives p) × (words_for sysex8 (largest (sizes ds left n)) ≤ lent)
  unfolding restored sizes
  needs_all zero n e = never_refused e
  needs_all (suc left) n e =
      let f = given_fits (exceeds lent) ds (suc left) n e in
      let size = payload_size (restored unlimited ds (suc left) n) in
      let first = ltb-false lent (words_for sysex8 size) f.1.0 in
      (f.0, fits_largest lent (sizes ds (suc left) n) (omega (arith, first, words_mono sysex8 0 size (omega arith))) f.1)

-- ---- how many bases are followed

-- the walk of a restored dump comes in so many steps to the whole dump whose group and stream id it has
pub record Bottom (ds : List Dump) (n steps : ℕ) (p : Payload) : Type 0 where
  pub resting : Rests ds n
  pub steps_are : resting.steps ≡ steps
  pub group_is : resting.group ≡ p.group
  pub id_is : resting.id ≡ p.id

pub sizes_some : (ds : List Dump) (left n : ℕ) → 0 < left → 0 < length (sizes ds left n)
unfolding sizes
sizes_some ds zero n h = h
sizes_some ds (suc left) n h = omega arith

given_left : (too_long : ℕ → Bool) (ds : List Dump) (left n : ℕ) {p : Payload} → restored too_long ds left n ≡ gives p → 0 < left
unfolding restored
given_left too_long ds zero n e = never_refused e
given_left too_long ds (suc left) n e = omega arith

pub restored_bottom : (too_long : ℕ → Bool) (ds : List Dump) (left n : ℕ) {p : Payload} → restored too_long ds left n ≡ gives p
    → Bottom ds n (length (sizes ds left n) - 1) p
unfolding restored sizes comes
restored_bottom too_long ds zero n e = never_refused e
restored_bottom too_long ds (suc left) n {p} e = go (λ b q h. restored_bottom too_long ds left b h) (made too_long ds left n e)
  where
    go : ((b : ℕ) (q : Payload) → restored too_long ds left b ≡ gives q → Bottom ds b (length (sizes ds left b) - 1) q)
        → Made too_long ds left n p
        → Bottom ds n (suc (length (from_base [] (λ b. sizes ds left b) (base_of (held ds n)))) - 1) p
    go more (of_whole group id bytes t r s) =
        record {
          resting = record { steps = 0; number = n; group = group; id = id; bytes = bytes; come = refl; is_held = t };
          steps_are = rw t (omega arith);
          group_is = ap (λ (x : Payload). x.group) s;
          id_is = ap (λ (x : Payload). x.id) s;
        }
    go more (of_delta base patches t b) =
        let m = more base b.old b.is_base in
        let some_left : 0 < left = given_left too_long ds left base b.is_base in
        record {
          resting = rests_base ds n t m.resting;
          steps_are = rw t (omega (arith, m.steps_are, sizes_some ds left base some_left));
          group_is = m.group_is ∙ ap (λ (x : Payload). x.group) b.is;
          id_is = m.id_is ∙ ap (λ (x : Payload). x.id) b.is;
        }
