-- Laws of `joined`: parts one after the other. Assumes nothing.
use mathlib.Core.Path.{◌≡◌, refl, sym, ap, ◌∙◌}
use mathlib.Core.Logic.{◌≢◌}
use mathlib.Core.List.{List, [], ◌∷◌, ◌++◌, append_assoc, append-nil}
use Prim.Native.Nat.{ℕ, zero, suc, ◌+◌, ◌-◌, ◌*◌, ◌<◌}
use native.Mathlib.Nat.{add-zero, add-suc, mul-suc, mul-zero, zero-add, suc-add}
use native.Mathlib.Omega.{arith}
use lib.ListN.{length, take, drop, set, length-append}
use lib.Seq.{take_at, drop_at, take-add, set-append_left}
use Rattle.ump.specs.Packet.{joined}

pub joined_cong : {A : Type 0} (f g : ℕ → List A) (n : ℕ) → ((p : ℕ) → p < n → f p ≡ g p) → joined f n ≡ joined g n
unfolding joined
joined_cong f g zero h = refl
joined_cong f g (suc n) h = rw (joined_cong f g n (λ p k. h p (omega arith)), h n (omega arith))

pub joined_front : {A : Type 0} (f : ℕ → List A) (n : ℕ) → joined f (suc n) ≡ f 0 ++ joined (λ i. f (suc i)) n
unfolding joined
joined_front f zero = sym (append-nil (f 0))
joined_front f (suc n) = rw (joined_front f n) (append_assoc (f 0) (joined (λ i. f (suc i)) n) (f (suc n)))

pub joined_add : (f : ℕ → List ℕ) (m k : ℕ) → joined f (m + k) ≡ joined f m ++ joined (λ i. f (m + i)) k
unfolding joined
joined_add f m zero = rw (add-zero, append-nil)
joined_add f m (suc k) = rw (add-suc, joined_add f m k, append_assoc)

pub length_joined : (f : ℕ → List ℕ) (w n : ℕ) → ((p : ℕ) → p < n → length (f p) ≡ w) → length (joined f n) ≡ w * n
unfolding joined
length_joined f w zero h = omega arith
length_joined f w (suc n) h =
    omega (arith, length-append (joined f n) (f n), length_joined f w n (λ p k. h p (omega arith)), h n (omega arith))

-- what stands before part p, part p, and what stands after it
pub joined_around : (f : ℕ → List ℕ) (n p : ℕ) → p < n → joined f n ≡ joined f p ++ (f p ++ joined (λ i. f (suc p + i)) (n - suc p))
unfolding joined
joined_around f n p h =
    let e : n ≡ suc p + (n - suc p) = omega arith in
    ap (joined f) e ∙ joined_add f (suc p) (n - suc p) ∙ append_assoc (joined f p) (f p) (joined (λ i. f (suc p + i)) (n - suc p))

-- part p, found by its place
pub part_joined : (f : ℕ → List ℕ) (w n p : ℕ) (rest : List ℕ) → ((q : ℕ) → q < n → length (f q) ≡ w) → p < n
    → take w (drop (w * p) (joined f n ++ rest)) ≡ f p
part_joined f w n p rest h k =
    let r = joined (λ i. f (suc p + i)) (n - suc p) in
    rw (joined_around f n p k, append_assoc, append_assoc, drop_at (joined f p) (f p ++ (r ++ rest)) (w * p) (length_joined f w p (λ q l. h q (omega arith))))
    (take_at (f p) (r ++ rest) w (h p k))

-- the whole from its consecutive pieces of w
pub joined_chunks : (bytes : List ℕ) (w n : ℕ) → joined (λ p. take w (drop (w * p) bytes)) n ≡ take (w * n) bytes
unfolding joined
joined_chunks bytes w zero = rw mul-zero
joined_chunks bytes w (suc n) = rw (joined_chunks bytes w n, mul-suc) (sym (take-add (w * n) w bytes))

pub set_append_add : (xs ys : List ℕ) (i b : ℕ) → set (xs ++ ys) (length xs + i) b ≡ xs ++ set ys i b
set_append_add [] ys i b = rw zero-add
set_append_add (x ∷ xs) ys i b = rw (suc-add, set_append_add xs ys i b)

-- one element of part p is stored to
pub joined_set : (f g : ℕ → List ℕ) (n p i b : ℕ) → p < n → i < length (f p) → g p ≡ set (f p) i b → ((q : ℕ) → q ≢ p → g q ≡ f q)
    → joined g n ≡ set (joined f n) (length (joined f p) + i) b
joined_set f g n p i b h k e o =
    joined_around g n p h
    ∙ rw (
      e,
      joined_cong g f p (λ q l. o q (omega arith)),
      joined_cong (λ q. g (suc p + q)) (λ q. f (suc p + q)) (n - suc p) (λ q l. o (suc p + q) (omega arith)),
    )
    refl
    ∙ sym
    (ap (λ (l : List ℕ). set l (length (joined f p) + i) b) (joined_around f n p h)
    ∙ set_append_add (joined f p) (f p ++ joined (λ q. f (suc p + q)) (n - suc p)) i b
    ∙ ap (λ (l : List ℕ). joined f p ++ l) (set-append_left (f p) (joined (λ q. f (suc p + q)) (n - suc p)) i b k))
