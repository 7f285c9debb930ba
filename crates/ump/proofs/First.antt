-- Tests, and the least index at which one holds. Assumes nothing.
use mathlib.Core.Path.{◌≡◌, refl, sym, subst}
use mathlib.Core.Bool.{Bool, true, false, not, cond}
use Prim.Native.Nat.{ℕ, zero, suc, ◌+◌, ◌≤◌, ◌<◌}
use native.Mathlib.Omega.{arith}
use lib.Dec.{T, ltb}
use borrow.Author.Tests.{ltb-true, ltb-false, le-ltb}
use Rattle.ump.specs.Check.{first_where}

-- ---- tests

pub is_false : (b : Bool) → T (not b) → b ≡ false
is_false true t = absurd t
is_false false t = refl

pub never : {A : Type 0} → false ≡ true → A
never e = let z : ◌≡◌ {A = ℕ} 0 1 = cc in absurd (omega arith)

-- a number is below another or it is not
pub data Side (m n : ℕ) : Type 0 where
  under : m < n → ltb m n ≡ true → Side m n
  over : n ≤ m → ltb m n ≡ false → Side m n

pub side : (m n : ℕ) → Side m n
side m n = go (ltb m n) refl
  where
    go : (b : Bool) → ltb m n ≡ b → Side m n
    go true e = under (ltb-true m n e) e
    go false e = over (ltb-false m n e) e

-- ---- the first index at which a test holds

pub first_le : (f : ℕ → Bool) (n : ℕ) → first_where f n ≤ n
unfolding first_where
first_le f zero = omega arith
first_le f (suc n) = go (side (first_where f n) n) (f n)
  where
    go : Side (first_where f n) n → (b : Bool) → cond (ltb (first_where f n) n) (first_where f n) (cond b n (suc n)) ≤ suc n
    go (under h e) b = rw e (omega arith)
    go (over h e) true = rw e (omega arith)
    go (over h e) false = rw e (omega arith)

-- what a loop that leaves at the first fault shows
abbrev FirstIs : (ℕ → Bool) → ℕ → Type 0
FirstIs f n = (i : ℕ) → i ≤ n → ((j : ℕ) → j < i → f j ≡ false) → (i < n → f i ≡ true) → first_where f n ≡ i

first_last : (f : ℕ → Bool) (n i : ℕ) → i ≤ suc n → n ≤ i → ((j : ℕ) → j < i → f j ≡ false) → (i < suc n → f i ≡ true) → Side n i → cond (f n) n (suc n) ≡ i
first_last f n i h k b t (under z y) = rw (b n z) (omega arith)
first_last f n i h k b t (over z y) =
    let q : i ≡ n = omega arith in
    rw (subst (λ (x : ℕ). f x ≡ true) q (t (omega arith))) (sym q)

first_step : (f : ℕ → Bool) (n : ℕ) → FirstIs f n → (i : ℕ) → i ≤ suc n → ((j : ℕ) → j < i → f j ≡ false) → (i < suc n → f i ≡ true)
    → Side i n → cond (ltb (first_where f n) n) (first_where f n) (cond (f n) n (suc n)) ≡ i
first_step f n ih i h b t (under k e) = rw (ih i (omega arith) b (λ z. t (omega arith)), e)
first_step f n ih i h b t (over k e) =
    let l : n ≤ n = omega arith in
    let e' : first_where f n ≡ n = ih n l (λ j z. b j (omega arith)) (λ z. absurd (omega arith)) in
    rw (e', le-ltb n n l) (first_last f n i h k b t (side n i))

pub first_is : (f : ℕ → Bool) (n i : ℕ) → i ≤ n → ((j : ℕ) → j < i → f j ≡ false) → (i < n → f i ≡ true) → first_where f n ≡ i
unfolding first_where
first_is f zero i h b t = omega arith
first_is f (suc n) i h b t = first_step f n (λ k. first_is f n k) i h b t (side i n)

pub first_none : (f : ℕ → Bool) (n : ℕ) → ((j : ℕ) → j < n → f j ≡ false) → first_where f n ≡ n
first_none f n h = first_is f n n (omega arith) h (λ k. absurd (omega arith))

-- a loop that goes up has passed one index more
pub none_more : (f : ℕ → Bool) (p : ℕ) → ((j : ℕ) → j < p → f j ≡ false) → f p ≡ false → (j : ℕ) → j < p + 1 → f j ≡ false
none_more f p h e j k = go (side j p)
  where
    go : Side j p → f j ≡ false
    go (under l x) = h j l
    go (over l x) =
        let q : j ≡ p = omega arith in
        rw q e

-- no test below the first holds, and it holds there
before_step : (f : ℕ → Bool) (n j : ℕ) → (j < first_where f n → f j ≡ false) → Side (first_where f n) n → (b : Bool) → f n ≡ b → Side j n
    → j < cond (ltb (first_where f n) n) (first_where f n) (cond b n (suc n)) → f j ≡ false
before_step f n j ih (under h e) b y z k = ih (rw e at k)
before_step f n j ih (over h e) true y z k =
    let k' : j < n = rw e at k in
    ih (omega arith)
before_step f n j ih (over h e) false y (under z₁ z₂) k = ih (omega arith)
before_step f n j ih (over h e) false y (over z₁ z₂) k =
    let k' : j < suc n = rw e at k in
    let q : j ≡ n = omega arith in
    rw q y

pub first_before : (f : ℕ → Bool) (n j : ℕ) → j < first_where f n → f j ≡ false
unfolding first_where
first_before f zero j h = absurd (omega arith)
first_before f (suc n) j h = before_step f n j (first_before f n j) (side (first_where f n) n) (f n) refl (side j n) h

at_step : (f : ℕ → Bool) (n : ℕ) → (first_where f n < n → f (first_where f n) ≡ true) → Side (first_where f n) n → (b : Bool) → f n ≡ b
    → cond (ltb (first_where f n) n) (first_where f n) (cond b n (suc n)) < suc n → f (cond (ltb (first_where f n) n) (first_where f n) (cond b n (suc n))) ≡ true
at_step f n ih (under h e) b y k = rw e (ih h)
at_step f n ih (over h e) true y k = rw e y
at_step f n ih (over h e) false y k =
    let k' : suc n < suc n = rw e at k in
    absurd (omega arith)

pub first_at : (f : ℕ → Bool) (n : ℕ) → first_where f n < n → f (first_where f n) ≡ true
unfolding first_where
first_at f zero h = absurd (omega arith)
first_at f (suc n) h = at_step f n (first_at f n) (side (first_where f n) n) (f n) refl h

-- what a loop that looks for the first knows at i: it is not past n, and the test fails at every index before it
pub record Passed (f : ℕ → Bool) (n i : ℕ) : Type 0 where
  pub within : i ≤ n
  pub none : (j : ℕ) → j < i → f j ≡ false

module _ {f : ℕ → Bool} {n : ℕ} where
  pub passed_zero : Passed f n 0
  passed_zero = record { within = omega arith; none = λ j h. absurd (omega arith) }

  pub passed_one : {i : ℕ} → Passed f n i → i < n → f i ≡ false → Passed f n (i + 1)
  passed_one {i} h l e = record { within = omega arith; none = none_more f i h.none e }

  pub passed_end : {i : ℕ} → Passed f n i → n ≤ i → i ≡ first_where f n
  passed_end {i} h l = let e : i ≡ n = omega (arith, h.within) in sym (first_is f n i h.within h.none (λ k. absurd (omega arith)))

  pub passed_here : {i : ℕ} → Passed f n i → i < n → f i ≡ true → i ≡ first_where f n
  passed_here {i} h l e = sym (first_is f n i h.within h.none (λ k. e))

-- two tests that agree below n have one first
pub first_cong : (f g : ℕ → Bool) (n : ℕ) → ((i : ℕ) → i < n → f i ≡ g i) → first_where f n ≡ first_where g n
unfolding first_where
first_cong f g zero h = refl
first_cong f g (suc n) h = rw (first_cong f g n (λ i k. h i (omega arith)), h n (omega arith))

-- the first of a test is 0, or one more than the first of the test one further on
pub first_suc : (f : ℕ → Bool) (n : ℕ) → first_where f (suc n) ≡ cond (f 0) 0 (suc (first_where (λ i. f (suc i)) n))
first_suc f n = go (f 0) refl
  where
    m : ℕ
    m = first_where (λ i. f (suc i)) n

    before : f 0 ≡ false → (j : ℕ) → j < suc m → f j ≡ false
    before e zero k = e
    before e (suc j) k = first_before (λ i. f (suc i)) n j (omega arith)

    go : (b : Bool) → f 0 ≡ b → first_where f (suc n) ≡ cond b 0 (suc m)
    go true e = first_is f (suc n) 0 (omega arith) (λ j k. absurd (omega arith)) (λ k. e)
    go false e = first_is f (suc n) (suc m) (omega (arith, first_le (λ i. f (suc i)) n)) (before e) (λ k. first_at (λ i. f (suc i)) n (omega arith))
