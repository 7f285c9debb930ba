-- What a restored dump is made of: a whole dump's data, or the edits of a delta done on its base. Assumes nothing.
use Rattle.std.specs.Prelude.{Option, None, Some}
use mathlib.Core.Path.{◌≡◌, refl}
use mathlib.Core.Bool.{Bool, true, false, ◌||◌}
use mathlib.Core.List.{List, [], ◌∷◌}
use Prim.Native.Nat.{ℕ, zero, suc, ◌≤◌, ◌<◌}
use native.Mathlib.Omega.{arith}
use lib.Dec.{ltb}
use lib.ListN.{length}
use borrow.Author.Tests.{ltb-false}
use Rattle.refusal.specs.Answer.{Answer, gives, refused, ◌▷◌, guard}
use Rattle.refusal.proofs.Laws.{never_refused, given_passes, guard_passed}
use Rattle.ump.specs.Word.{Below}
use Rattle.ump.specs.Edits.{Patch, patch_at, end_before, Apart, replaced}
use Rattle.ump.proofs.Replace.{end_from, end_before_lem, end_next}
use Rattle.ump.proofs.Origins.{below_replaced}
use Rattle.store.specs.Store.{Dump, whole, delta, held}
use Rattle.store.specs.Places.{Ordered}
use Rattle.store.proofs.Forms.{All, Formed, OfBytes, bytes_at}
use Rattle.chain.specs.Restore.{Payload, roomed, outside, rebuilt, restored_by, restored}
use Rattle.chain.proofs.Walks.{held_is, held_all}
use Rattle.chain.proofs.Outside.{or_false}

-- all edits done on a base
abbrev pub rebuilt_from : List Patch → Payload → Payload
rebuilt_from patches base = record { group = base.group; id = base.id; bytes = replaced base.bytes patches }

pub record OfBase (too_long : ℕ → Bool) (base : Answer Payload) (patches : List Patch) (payload : Payload) : Type 0 where
  pub old : Payload
  pub is_base : base ≡ gives old
  pub good : outside (length old.bytes) patches ≡ false
  pub room : too_long (length payload.bytes) ≡ false
  pub is : rebuilt_from patches old ≡ payload

-- its group, id and bytes are such as a message has
pub record Fitting (p : Payload) : Type 0 where
  pub group : p.group < 16
  pub id : p.id < 256
  pub bytes : Below 256 p.bytes

-- a whole dump's data, or a delta's edits done on its base
pub data Made (too_long : ℕ → Bool) (ds : List Dump) (left n : ℕ) (payload : Payload) : Type 0 where
  of_whole : (group id : ℕ) (bytes : List ℕ) → held ds n ≡ Some (whole n group id bytes) → too_long (length payload.bytes) ≡ false
      → record { group = group; id = id; bytes = bytes } ≡ payload → Made too_long ds left n payload
  of_delta : (base : ℕ) (patches : List Patch) → held ds n ≡ Some (delta n base patches)
      → OfBase too_long (restored too_long ds left base) patches payload → Made too_long ds left n payload

module _ (too_long : ℕ → Bool) where
  roomed_given : (p : Payload) {q : Payload} → roomed too_long p ≡ gives q → (too_long (length q.bytes) ≡ false) × (p ≡ q)
  unfolding roomed
  roomed_given p {q} e =
      let g = given_passes (guard (too_long (length p.bytes)) 14 0) e in
      let same : p ≡ q = g.1 in
      (rw same at (guard_passed (too_long (length p.bytes)) 14 0 g.0), same)

  rebuilt_given : (patches : List Patch) (base : Answer Payload) {q : Payload} → rebuilt too_long patches base ≡ gives q
      → OfBase too_long base patches q
  unfolding rebuilt
  rebuilt_given patches (refused number place) e = never_refused e
  rebuilt_given patches (gives base) {q} e = go (outside (length base.bytes) patches) refl e
    where
      go : (b : Bool) → outside (length base.bytes) patches ≡ b → guard b 13 0 ▷ roomed too_long (rebuilt_from patches base) ≡ gives q
          → OfBase too_long (gives base) patches q
      go true o h = never_refused h
      go false o h =
          let r = roomed_given (rebuilt_from patches base) h in
          record { old = base; is_base = refl; good = o; room = r.0; is = r.1 }

  module _ (ds : List Dump) where
    -- the delta held under a number
    pub made_delta : (left n : ℕ) {number base : ℕ} {patches : List Patch} {p : Payload} → held ds n ≡ Some (delta number base patches)
        → restored too_long ds (suc left) n ≡ gives p → OfBase too_long (restored too_long ds left base) patches p
    unfolding restored
    made_delta left n {base = base} {patches = patches} t e = rebuilt_given patches (restored too_long ds left base) (rw t at e)

    pub made : (left n : ℕ) {p : Payload} → restored too_long ds (suc left) n ≡ gives p → Made too_long ds left n p
    unfolding restored
    made left n {p} e = go (held ds n) refl e
      where
        go : (o : Option Dump) → held ds n ≡ o → restored_by too_long (λ b. restored too_long ds left b) o ≡ gives p
            → Made too_long ds left n p
        go None t h = never_refused h
        go (Some (whole number group id bytes)) t h =
            let same : number ≡ n = held_is ds n t in
            let r = roomed_given _ h in
            of_whole group id bytes (rw same at t) r.0 r.1
        go (Some (delta number base patches)) t h =
            let same : number ≡ n = held_is ds n t in
            of_delta base patches (rw same at t) (rebuilt_given patches (restored too_long ds left base) h)

    -- it is not too long
    pub given_room : (left n : ℕ) {p : Payload} → restored too_long ds left n ≡ gives p → too_long (length p.bytes) ≡ false
    unfolding restored
    given_room zero n e = never_refused e
    given_room (suc left) n {p} e = go (made left n e)
      where
        go : Made too_long ds left n p → too_long (length p.bytes) ≡ false
        go (of_whole group id bytes t r s) = r
        go (of_delta base patches t b) = b.room

    -- what holds of whole dumps, and of a delta if of its base, holds of each restored dump
    module _ (P : Payload → Type 0)
        (first : (n group id : ℕ) (bytes : List ℕ) → held ds n ≡ Some (whole n group id bytes)
        → P (record { group = group; id = id; bytes = bytes }))
        (next : (n base : ℕ) (patches : List Patch) → held ds n ≡ Some (delta n base patches) → (old : Payload) → P old
        → P (rebuilt_from patches old)) where
      made_all : (left n : ℕ) {p : Payload} → restored too_long ds left n ≡ gives p → P p
      unfolding restored
      made_all zero n e = never_refused e
      made_all (suc left) n {p} e = go (λ b q h. made_all left b {p = q} h) (made left n e)
        where
          go : ((b : ℕ) (q : Payload) → restored too_long ds left b ≡ gives q → P q) → Made too_long ds left n p → P p
          go more (of_whole group id bytes t r s) = rw s at (first n group id bytes t)
          go more (of_delta base patches t b) = rw b.is at (next n base patches t b.old (more base b.old b.is_base))

    -- ---- a restored dump fits a message

    pub given_group : All Formed ds → (left n : ℕ) {p : Payload} → restored too_long ds left n ≡ gives p → p.group < 16
    given_group a =
        made_all (λ p. p.group < 16) (λ n group id bytes t. held_all Formed ds n a t) (λ n base patches t old h. h)

    given_bytes : All OfBytes ds → (left n : ℕ) {p : Payload} → restored too_long ds left n ≡ gives p → (p.id < 256) × Below 256 p.bytes
    given_bytes a =
        made_all (λ p. (p.id < 256) × Below 256 p.bytes) (λ n group id bytes t. held_all OfBytes ds n a t)
        (λ n base patches t old h.
        (h.0, below_replaced 256 old.bytes patches h.1 (λ k l. bytes_at patches k (held_all OfBytes ds n a t))))

    pub fitting : All Formed ds → All OfBytes ds → (left n : ℕ) {p : Payload} → restored too_long ds left n ≡ gives p → Fitting p
    fitting a b left n e = let c = given_bytes b left n e in record { group = given_group a left n e; id = c.0; bytes = c.1 }

-- ---- edits in order and inside are apart

each_inside : (n : ℕ) (ps : List Patch) → outside n ps ≡ false → (i : ℕ) → i < length ps
    → ((patch_at ps i).from ≤ (patch_at ps i).to) × ((patch_at ps i).to ≤ n)
unfolding outside
each_inside n [] e i h = absurd (omega arith)
each_inside n (p ∷ ps) e zero h =
    let a = (or_false (ltb p.to p.from || ltb n p.to) (outside n ps) e).0 in
    let b = or_false (ltb p.to p.from) (ltb n p.to) a in
    (ltb-false p.to p.from b.0, ltb-false n p.to b.1)
each_inside n (p ∷ ps) e (suc i) h =
    each_inside n ps (or_false (ltb p.to p.from || ltb n p.to) (outside n ps) e).1 i (omega arith)

each_after : (end : ℕ) (ps : List Patch) → Ordered end ps → (i : ℕ) → i < length ps → end_from end ps i ≤ (patch_at ps i).from
each_after end [] o i h = absurd (omega arith)
each_after end (p ∷ ps) o zero h = o.0
each_after end (p ∷ ps) o (suc i) h = rw (end_next p ps i) (each_after p.to ps o.1 i (omega arith))

pub apart : (n : ℕ) (ps : List Patch) → Ordered 0 ps → outside n ps ≡ false → Apart ps n
apart n ps o e =
    record {
      after = λ i h. rw (end_before_lem ps i) (each_after 0 ps o i h);
      forward = λ i h. (each_inside n ps e i h).0;
      inside = last (length ps) (omega arith);
    }
  where
    last : (k : ℕ) → k ≤ length ps → end_before ps k ≤ n
    last zero h = omega arith
    last (suc k) h = (each_inside n ps e k h).1
