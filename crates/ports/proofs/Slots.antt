-- Slots and parts: where a key stands after a store, how many slots a port holds, what a slot holds. Assumes nothing.
use mathlib.Core.Path.{◌≡◌, refl, sym, ap, ◌∙◌}
use mathlib.Core.Bool.{Bool, true, false, cond}
use mathlib.Core.List.{List}
use Prim.Native.Nat.{ℕ, zero, suc, ◌+◌, ◌≤◌, ◌<◌}
use native.Mathlib.Numerals.{add-one}
use native.Mathlib.Omega.{arith}
use lib.Dec.{eqb}
use lib.ListN.{length, get_or, set}
use lib.Seq.{get_or-set_same, get_or-set_other}
use borrow.Author.Tests.{eqb-true, eqb-false, eq-eqb, ne_eqb}
use Rattle.ump.proofs.First.{Side, under, over, side, first_is, first_none, first_before, first_at, first_cong, first_le}
use Rattle.ports.specs.Table.{has_key, slot_of, count}

-- two numbers are the same or they are not
pub data Same (m n : ℕ) : Type 0 where
  alike : m ≡ n → eqb m n ≡ true → Same m n
  unlike : (m ≡ n → ⊥) → eqb m n ≡ false → Same m n

pub same : (m n : ℕ) → Same m n
same m n = go (eqb m n) refl
  where
    go : (b : Bool) → eqb m n ≡ b → Same m n
    go true e = alike (eqb-true m n e) e
    go false e = unlike (eqb-false m n e) e

-- ---- where a key stands

-- no two slots have one key, other than 0
abbrev pub Apart : List ℕ → Type 0
Apart table = (j k : ℕ) → j < 16 → k < 16 → get_or table j 0 ≡ get_or table k 0 → (get_or table j 0 ≡ 0 → ⊥) → j ≡ k

pub slot_found : (table : List ℕ) (key k : ℕ) → Apart table → (key ≡ 0 → ⊥) → k < 16 → get_or table k 0 ≡ key → slot_of table key ≡ k
unfolding slot_of
slot_found table key k apart some h e =
    first_is (has_key table key) 16 k (omega arith)
    (λ j l. ne_eqb _ _ (λ q. let z : j ≡ k = apart j k (omega arith) h (q ∙ sym e) (λ w. some (sym q ∙ w)) in omega arith))
    (λ l. eq-eqb _ _ e)

pub slot_none : (table : List ℕ) (key : ℕ) → ((k : ℕ) → k < 16 → get_or table k 0 ≡ key → ⊥) → slot_of table key ≡ 16
unfolding slot_of
slot_none table key h = first_none (has_key table key) 16 (λ j l. ne_eqb _ _ (h j l))

pub slot_at : (table : List ℕ) (key : ℕ) → slot_of table key < 16 → get_or table (slot_of table key) 0 ≡ key
unfolding slot_of
slot_at table key h = eqb-true _ _ (first_at (has_key table key) 16 h)

pub slot_before : (table : List ℕ) (key k : ℕ) → k < slot_of table key → get_or table k 0 ≡ key → ⊥
unfolding slot_of
slot_before table key k h = eqb-false _ _ (first_before (has_key table key) 16 k h)

pub slot_le : (table : List ℕ) (key : ℕ) → slot_of table key ≤ 16
unfolding slot_of
slot_le table key = first_le (has_key table key) 16

-- two tables with the same keys
abbrev pub SameKeys : List ℕ → List ℕ → Type 0
SameKeys table table' = (k : ℕ) → k < 16 → get_or table' k 0 ≡ get_or table k 0

pub slot_cong : (table table' : List ℕ) (key : ℕ) → SameKeys table table' → slot_of table' key ≡ slot_of table key
unfolding slot_of
slot_cong table table' key h = first_cong (has_key table' key) (has_key table key) 16 (λ k l. rw (h k l))

-- ---- a key stored in slot s: it stands in no other slot, or is 0

module _ (table : List ℕ) (s x : ℕ) (whole : length table ≡ 32) (h : s < 16) where
  pub key_here : get_or (set table s x) s 0 ≡ x
  key_here = get_or-set_same table s x 0 (omega arith)

  pub key_else : (j : ℕ) → (j ≡ s → ⊥) → get_or (set table s x) j 0 ≡ get_or table j 0
  key_else j n = get_or-set_other table s j x 0 n

  module _ (apart : Apart table) (new : (j : ℕ) → j < 16 → (j ≡ s → ⊥) → get_or table j 0 ≡ x → x ≡ 0) where
    pub apart-set : Apart (set table s x)
    apart-set j k hj hk e n = go (same j s) (same k s)
      where
        go : Same j s → Same k s → j ≡ k
        go (alike p u) (alike q v) = p ∙ sym q
        go (unlike p u) (unlike q v) = apart j k hj hk (sym (key_else j p) ∙ e ∙ key_else k q) (λ z. n (key_else j p ∙ z))
        go (alike p u) (unlike q v) =
            let a : get_or (set table s x) j 0 ≡ x = rw p key_here in
            absurd (n (a ∙ new k hk q (sym (key_else k q) ∙ sym e ∙ a)))
        go (unlike p u) (alike q v) =
            let a : get_or (set table s x) k 0 ≡ x = rw q key_here in
            absurd (n (e ∙ a ∙ new j hj p (sym (key_else j p) ∙ e ∙ a)))

    -- another key stands where it stood
    pub slot_other : (key : ℕ) → (key ≡ 0 → ⊥) → (key ≡ x → ⊥) → (key ≡ get_or table s 0 → ⊥) → slot_of (set table s x) key ≡ slot_of table key
    slot_other key n nx old = go (side (slot_of table key) 16)
      where
        go : Side (slot_of table key) 16 → slot_of (set table s x) key ≡ slot_of table key
        go (under l e) =
            let at = slot_at table key l in
            slot_found (set table s x) key (slot_of table key) apart-set n l (key_else _ (λ q. old (sym at ∙ ap (λ i. get_or table i 0) q)) ∙ at)
        go (over l e) =
            slot_none (set table s x) key (λ k hk q. elsewhere k hk q (same k s)) ∙ omega (arith, slot_le table key)
          where
            elsewhere : (k : ℕ) → k < 16 → get_or (set table s x) k 0 ≡ key → Same k s → ⊥
            elsewhere k hk q (alike p u) = nx (sym q ∙ rw p key_here)
            elsewhere k hk q (unlike p u) = slot_before table key k (omega arith) (sym (key_else k p) ∙ q)

    pub slot_new : (x ≡ 0 → ⊥) → slot_of (set table s x) x ≡ s
    slot_new n = slot_found (set table s x) x s apart-set n h key_here

  -- the key that stood there is gone
  pub slot_gone : Apart table → (get_or table s 0 ≡ 0 → ⊥) → (get_or table s 0 ≡ x → ⊥) → slot_of (set table s x) (get_or table s 0) ≡ 16
  slot_gone apart n nx = slot_none (set table s x) (get_or table s 0) (λ k hk q. go k hk q (same k s))
    where
      go : (k : ℕ) → k < 16 → get_or (set table s x) k 0 ≡ get_or table s 0 → Same k s → ⊥
      go k hk q (alike p u) = nx (sym q ∙ rw p key_here)
      go k hk q (unlike p u) = p (apart k s hk h (sym (key_else k p) ∙ q) (λ z. n (sym q ∙ key_else k p ∙ z)))

-- ---- how often a test holds

abbrev pub bit : Bool → ℕ
bit b = cond b 1 0

pub count_cong : (f g : ℕ → Bool) (n : ℕ) → ((j : ℕ) → j < n → f j ≡ g j) → count f n ≡ count g n
unfolding count
count_cong f g zero h = refl
count_cong f g (suc n) h = rw (count_cong f g n (λ j l. h j (omega arith)), h n (omega arith))

pub count_suc : (f : ℕ → Bool) (n : ℕ) → count f (suc n) ≡ count f n + bit (f n)
unfolding count
count_suc f n = go (f n)
  where
    go : (b : Bool) → cond b (suc (count f n)) (count f n) ≡ count f n + bit b
    go true = omega arith
    go false = omega arith

-- tests that differ at s alone
pub count_change : (f g : ℕ → Bool) (n s : ℕ) → s < n → ((j : ℕ) → j < n → (j ≡ s → ⊥) → f j ≡ g j) → count g n + bit (f s) ≡ count f n + bit (g s)
count_change f g zero s l h = absurd (omega arith)
count_change f g (suc n) s l h = go (λ k. count_change f g n s k (λ j i q. h j (omega arith) q)) (same s n)
  where
    go : (s < n → count g n + bit (f s) ≡ count f n + bit (g s)) → Same s n → count g (suc n) + bit (f s) ≡ count f (suc n) + bit (g s)
    go more (alike p u) =
        let e : count f n ≡ count g n = count_cong f g n (λ j k. h j (omega arith) (λ q. omega arith)) in
        rw p (omega (arith, count_suc f n, count_suc g n, e))
    go more (unlike p u) =
        let e : bit (f n) ≡ bit (g n) = ap bit (h n (omega arith) (λ q. p (sym q))) in
        omega (arith, count_suc f n, count_suc g n, e, more (omega arith))

pub count_zero : (f : ℕ → Bool) (n : ℕ) → ((j : ℕ) → j < n → f j ≡ false) → count f n ≡ 0
unfolding count
count_zero f zero h = refl
count_zero f (suc n) h = rw (h n (omega arith)) (count_zero f n (λ j l. h j (omega arith)))

pub count_all : (f : ℕ → Bool) (n : ℕ) → ((j : ℕ) → j < n → f j ≡ true) → count f n ≡ n
unfolding count
count_all f zero h = refl
count_all f (suc n) h = rw (h n (omega arith), count_all f n (λ j l. h j (omega arith)))

-- ---- how many slots have a key that is such

pub keys_cong : (test : ℕ → Bool) (table table' : List ℕ) → SameKeys table table' → count (λ k. test (get_or table' k 0)) 16 ≡ count (λ k. test (get_or table k 0)) 16
keys_cong test table table' h = count_cong (λ k. test (get_or table' k 0)) (λ k. test (get_or table k 0)) 16 (λ k l. rw (h k l))

pub keys_set : (test : ℕ → Bool) (table : List ℕ) (s x : ℕ) → length table ≡ 32 → s < 16
    → count (λ k. test (get_or (set table s x) k 0)) 16 + bit (test (get_or table s 0)) ≡ count (λ k. test (get_or table k 0)) 16 + bit (test x)
keys_set test table s x whole h =
    rw (key_here table s x whole h) at
    (count_change (λ k. test (get_or table k 0)) (λ k. test (get_or (set table s x) k 0)) 16 s h (λ j l n. rw (key_else table s x whole h j n)))

-- ---- a walk over the slots: one more of them

module _ (f : ℕ → Bool) (n : ℕ) where
  pub count_more : {c r : ℕ} → c ≡ count f n → c ≤ n → r ≡ cond (f n) (suc c) c → (r ≡ count f (n + 1)) × (r ≤ n + 1)
  unfolding count
  count_more {c} {r} e h q = (rw (add-one, ← e) q, within (f n) q)
    where
      within : (b : Bool) → r ≡ cond b (suc c) c → r ≤ n + 1
      within true w = omega arith
      within false w = omega arith
