-- That a promise is tight: two outcomes are equal, and a wrong one is shut out. Assumes nothing.
use mathlib.Core.Path.{◌≡◌, refl, sym, ap, ◌∙◌, subst}
use mathlib.Core.Bool.{Bool, true, false, not}
use Prim.Native.Nat.{ℕ, suc, ◌+◌, ◌*◌, ◌≤◌, ◌<◌}
use native.Mathlib.Nat.{le_trans, suc-mul, mul-suc, mul-le-mul_right, mul-le-mul_left}
use native.Mathlib.Omega.{arith}
use lib.Dec.{T, T_not, eqb, ltb, eqb_refl}
use borrow.Author.Tests.{ltb-true, ltb-false}
use Rattle.refusal.specs.Answer.{Answer, gives, refused}

-- a pair that both outcomes equal fixes them, where the meaning of an answer fixes the answer
pub both_fixed : {A X Lent : Type 0} (means : X → A) → ((x y : X) → means x ≡ means y → x ≡ y) → {x y : X} {l m : Lent} {o : A × Lent}
    → (means x, l) ≡ o → (means y, m) ≡ o → (x ≡ y) × (l ≡ m)
both_fixed means once {x} {y} p q = (once x y (ap (λ o. o.0) (p ∙ sym q)), ap (λ o. o.1) (p ∙ sym q))

-- a meaning that has a way back fixes what it is the meaning of
pub once : {A B : Type 0} (means : A → B) (back : B → A) → ((x : A) → back (means x) ≡ x) → (x y : A) → means x ≡ means y → x ≡ y
once means back is x y e = sym (is x) ∙ ap back e ∙ is y

-- ---- a wrong outcome is shut out

-- two values differ where a number of them does
pub differ : {A : Type 0} (number : A → ℕ) {x y : A} → T (not (eqb (number x) (number y))) → x ≡ y → ⊥
differ number {x} {y} t e = T_not (eqb (number x) (number y)) t (subst (λ (n : ℕ). T (eqb (number x) n)) (ap number e) (eqb_refl (number x)))

-- a number of an answer: an even one of its value, or an odd one of the refusal's number and place, one of its own for each two
-- numbers (told_once)
abbrev pub paired : ℕ → ℕ → ℕ
paired n place = (n + place) * (n + place) + n

abbrev pub told : {A : Type 0} → (A → ℕ) → Answer A → ℕ
told number (gives value) = 2 * number value
told number (refused n place) = 2 * paired n place + 1

-- a square, and less than the way to the next one
apart : (s t n m : ℕ) → n ≤ s → s < t → s * s + n ≡ t * t + m → ⊥
apart s t n m h k e =
    let up : suc s * suc s ≤ t * t = le_trans (mul-le-mul_right (suc s) k) (mul-le-mul_left t k) in
    omega (arith, up, suc-mul s (suc s), mul-suc s s)

paired_once : (n p m q : ℕ) → paired n p ≡ paired m q → (n ≡ m) × (p ≡ q)
paired_once n p m q e = go (ltb (n + p) (m + q)) (ltb (m + q) (n + p)) refl refl
  where
    go : (a b : Bool) → ltb (n + p) (m + q) ≡ a → ltb (m + q) (n + p) ≡ b → (n ≡ m) × (p ≡ q)
    go true b f g = absurd (apart (n + p) (m + q) n m (omega arith) (ltb-true _ _ f) e)
    go false true f g = absurd (apart (m + q) (n + p) m n (omega arith) (ltb-true _ _ g) (sym e))
    go false false f g =
        let same : n + p ≡ m + q = omega (arith, ltb-false (n + p) (m + q) f, ltb-false (m + q) (n + p) g) in
        let square = ap (λ (s : ℕ). s * s) same in
        (omega (arith, square, e), omega (arith, square, e, same))

pub told_once : {A : Type 0} (number : A → ℕ) → ((a b : A) → number a ≡ number b → a ≡ b) → (x y : Answer A) → told number x ≡ told number y → x ≡ y
told_once number once (gives a) (gives b) e = ap gives (once a b (omega (arith, e)))
told_once number once (gives a) (refused m q) e = absurd (omega (arith, e))
told_once number once (refused n p) (gives b) e = absurd (omega (arith, e))
told_once number once (refused n p) (refused m q) e =
    let same = paired_once n p m q (omega (arith, e)) in
    ap (λ (k : ℕ). refused k p) same.0 ∙ ap (λ (k : ℕ). refused m k) same.1
