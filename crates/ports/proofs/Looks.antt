-- The slot of a key, if one has it, and the stream there. Assumes nothing.
use Rattle.std.specs.Prelude.{Option, None, Some}
use Rattle.std.specs.Option.{option_or}
use Rattle.std.specs.Bool.{then_some}
use Rattle.std.specs.List.{position}
use Rattle.std.proofs.lemmas.List.{get_or-take}
use Rattle.std.proofs.lemmas.List.Sums.{position_or_len_is}
use mathlib.Core.Path.{◌≡◌, refl, ap, ◌∙◌}
use mathlib.Core.Bool.{Bool, true, false, cond}
use mathlib.Core.List.{List}
use Prim.Native.Nat.{ℕ, suc, ◌+◌, ◌≤◌, ◌<◌}
use native.Mathlib.Numerals.{add-one}
use native.Mathlib.Omega.{arith}
use lib.Dec.{eqb, ltb}
use lib.ListN.{length, get_or, take, length-take}
use borrow.Author.Tests.{lt-ltb, le-ltb}
use Rattle.ump.specs.Check.{first_where}
use Rattle.ump.proofs.First.{Side, under, over, side, first_le, first_before, first_at}
use Rattle.ports.specs.Table.{has_key, slot_of, stored_at, stream_at}
use Rattle.ports.specs.Steps.{found_below, found_slot}

pub look_found : (table words : List ℕ) (key : ℕ) → slot_of table key < 16 → stream_at table words key ≡ Some (stored_at table words (slot_of table key))
unfolding stream_at
look_found table words key h = rw (lt-ltb _ _ h)

pub look_none : (table words : List ℕ) (key : ℕ) → 16 ≤ slot_of table key → stream_at table words key ≡ None
unfolding stream_at
look_none table words key h = rw (le-ltb _ _ h)

-- ---- the first index at which a test holds, if there is one

module _ (f : ℕ → Bool) (n : ℕ) where
  found_some : {k : ℕ} → found_below f n ≡ Some k → (first_where f n ≡ k) × (k < n)
  found_some {k} e = go (side (first_where f n) n)
    where
      go : Side (first_where f n) n → (first_where f n ≡ k) × (k < n)
      go (under h t) = let q : first_where f n ≡ k = cc (rw t at e) in (q, rw (← q) h)
      go (over h t) = let q : ◌≡◌ {A = Option ℕ} None (Some k) = rw t at e in cc

  found_none : found_below f n ≡ None → n ≤ first_where f n
  found_none e = go (side (first_where f n) n)
    where
      go : Side (first_where f n) n → n ≤ first_where f n
      go (under h t) = let q : Some (first_where f n) ≡ None = rw t at e in cc
      go (over h t) = h

  -- a walk over them: one more
  pub found_more : found_below f (n + 1) ≡ option_or (found_below f n) (then_some (f n) n)
  unfolding first_where
  found_more = rw add-one (go (side (first_where f n) n))
    where
      go : Side (first_where f n) n → found_below f (suc n) ≡ option_or (found_below f n) (then_some (f n) n)
      go (under h t) = rw (t, lt-ltb (first_where f n) (suc n) (omega arith)) refl
      go (over h t) = rw t (here (f n) refl)
        where
          here : (b : Bool) → f n ≡ b → cond (ltb (cond b n (suc n)) (suc n)) (Some (cond b n (suc n))) None ≡ then_some b n
          here true e = rw (lt-ltb n (suc n) (omega arith)) refl
          here false e = rw (le-ltb (suc n) (suc n) (omega arith)) refl

module _ (table : List ℕ) (key : ℕ) where
  pub slot_some : {k : ℕ} → found_slot table key ≡ Some k → (slot_of table key ≡ k) × (k < 16)
  unfolding slot_of
  slot_some = found_some (has_key table key) 16

  pub no_slot : found_slot table key ≡ None → 16 ≤ slot_of table key
  unfolding slot_of
  no_slot = found_none (has_key table key) 16

-- ---- the keys of a table, its first 16 words

module _ (table : List ℕ) (whole : length table ≡ 32) where
  pub keys_length : length (take 16 table) ≡ 16
  keys_length = simp length-take (omega arith)

  pub found_position : (key : ℕ) → position (λ x. eqb x key) (take 16 table) ≡ found_slot table key
  unfolding slot_of
  found_position key =
      let at : (k : ℕ) → k < 16 → eqb (get_or (take 16 table) k 0) key ≡ has_key table key k = λ k l. ap (λ x. eqb x key) (get_or-take 16 table k 0 l) in
      let first : ℕ = first_where (has_key table key) 16 in
      let le : first ≤ 16 = first_le (has_key table key) 16 in
      let e = position_or_len_is (λ x. eqb x key) (take 16 table) first 0 (rw keys_length le)
      (λ k l. at k (omega arith) ∙ first_before (has_key table key) 16 k l)
      (λ l. let m : first < 16 = rw keys_length at l in at first m ∙ first_at (has_key table key) 16 m) in
      rw (e, keys_length)
