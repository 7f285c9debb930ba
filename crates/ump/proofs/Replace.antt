-- Edits of a payload, done one at a time in any order, come to all ranges replaced at once. Assumes nothing.
use mathlib.Core.Path.{◌≡◌, refl, sym, ap, ap₂, ◌∙◌, subst}
use mathlib.Core.Logic.{◌≢◌}
use mathlib.Core.Bool.{Bool, true, false, cond, ◌||◌}
use mathlib.Core.List.{List, [], ◌∷◌, ◌++◌, append_assoc}
use Prim.Native.Nat.{ℕ, zero, suc, ◌+◌, ◌-◌, ◌≤◌, ◌<◌}
use native.Mathlib.Nat.{add-zero, add-suc, le_refl, le_trans}
use native.Mathlib.Omega.{arith}
use lib.Dec.{eqb}
use lib.ListN.{length, take, drop, length-append, length-drop, take-append-drop}
use lib.Seq.{slice, length-slice, take-take, take_at, drop_at}
use Rattle.ump.specs.Packet.{joined}
use Rattle.ump.specs.Splice.{spliced}
use Rattle.ump.specs.Edits.{Patch, patch_at, end_before, Apart, replaced, elem, total, all_bytes, Order}
use Rattle.ump.specs.Partly.{added, removed, moved, current, gap, piece, mixed}
use Rattle.ump.proofs.Joined.{joined_cong, joined_around}
use borrow.Author.Tests.{ne_eqb, eq-eqb, eqb-true}
use Rattle.ump.proofs.First.{is_false, Side, under, over, side}

-- ---- the payload where some are done

pub take-slice : (f t : ℕ) (l : List ℕ) → f ≤ t → take f l ++ slice f t l ≡ take t l
take-slice f t l h = rw (← (take-take f t l h)) (take-append-drop f (take t l))

pub mixed_all : (payload : List ℕ) (patches : List Patch) (done : List ℕ) → ((i : ℕ) → i < length patches → elem i done ≡ true) → mixed payload patches done ≡ replaced payload patches
unfolding mixed piece replaced
mixed_all payload patches done h =
    ap (λ (l : List ℕ). l ++ drop (end_before patches (length patches)) payload)
    (joined_cong (piece payload patches done) (λ i. gap payload patches i ++ (patch_at patches i).bytes) (length patches) (λ i k. rw (h i k)))

mixed_around : (payload : List ℕ) (patches : List Patch) (done : List ℕ) (i : ℕ) → i < length patches
    → mixed payload patches done
    ≡ (joined (piece payload patches done) i ++ gap payload patches i) ++ (current payload patches done i ++ (joined (λ k. piece payload patches done (suc i + k)) (length patches - suc i) ++ drop (end_before patches (length patches)) payload))
unfolding mixed piece
mixed_around payload patches done i h = rw (joined_around (piece payload patches done) (length patches) i h) (simp append_assoc)

-- one edit more is done: only its own piece changes
pub elem_other : (i j : ℕ) (done : List ℕ) → j ≢ i → elem j (i ∷ done) ≡ elem j done
elem_other i j done h = rw (ne_eqb j i h)

pub elem_same : (i : ℕ) (done : List ℕ) → elem i (i ∷ done) ≡ true
elem_same i done = rw (eq-eqb i i refl)

pub total_mono : (f g : ℕ → ℕ) (n : ℕ) → ((i : ℕ) → i < n → f i ≤ g i) → total f n ≤ total g n
unfolding total
total_mono f g zero h = omega arith
total_mono f g (suc n) h = omega (arith, total_mono f g n (λ i k. h i (omega arith)), h n (omega arith))

cond_le : (b : Bool) (n : ℕ) → cond b n 0 ≤ n
cond_le true n = omega arith
cond_le false n = omega arith

module _ (payload : List ℕ) (patches : List Patch) (a : Apart patches (length payload)) where
  -- the ends go up
  end_le : (i k : ℕ) → i + k ≤ length patches → end_before patches i ≤ end_before patches (i + k)
  end_le i zero h = rw add-zero (le_refl (end_before patches i))
  end_le i (suc k) h =
      rw add-suc
      (le_trans (end_le i k (omega arith)) (le_trans (a.after (i + k) (omega arith)) (a.forward (i + k) (omega arith))))

  pub to_le : (i : ℕ) → i < length patches → (patch_at patches i).to ≤ length payload
  to_le i h =
      let e : suc i + (length patches - suc i) ≡ length patches = omega arith in
      le_trans (subst (λ (k : ℕ). (patch_at patches i).to ≤ end_before patches k) e (end_le (suc i) (length patches - suc i) (omega arith))) a.inside

  none_done : (i : ℕ) → i ≤ length patches → joined (piece payload patches []) i ≡ take (end_before patches i) payload
  unfolding joined piece
  none_done zero h = refl
  none_done (suc i) h =
      rw (none_done i (omega arith), ← append_assoc, take-slice (end_before patches i) (patch_at patches i).from payload (a.after i h))
      (take-slice (patch_at patches i).from (patch_at patches i).to payload (a.forward i h))

  pub mixed_none : mixed payload patches [] ≡ payload
  unfolding mixed
  mixed_none = rw (none_done (length patches) (omega arith)) (take-append-drop (end_before patches (length patches)) payload)

  -- how long the part before edit i has become: by what was put in less what was taken out
  length_cur : (done : List ℕ) (i : ℕ) → i < length patches
      → length (current payload patches done i) + cond (elem i done) ((patch_at patches i).to - (patch_at patches i).from) 0
      ≡ ((patch_at patches i).to - (patch_at patches i).from) + cond (elem i done) (length (patch_at patches i).bytes) 0
  length_cur done i h = go (elem i done)
    where
      go : (b : Bool)
          → length (cond b (patch_at patches i).bytes (slice (patch_at patches i).from (patch_at patches i).to payload)) + cond b ((patch_at patches i).to - (patch_at patches i).from) 0
          ≡ ((patch_at patches i).to - (patch_at patches i).from) + cond b (length (patch_at patches i).bytes) 0
      go true = omega arith
      go false = omega (arith, length-slice (patch_at patches i).from (patch_at patches i).to payload (to_le i h))

  pub length-gap : (i : ℕ) → i < length patches → length (gap payload patches i) ≡ (patch_at patches i).from - end_before patches i
  length-gap i h = length-slice (end_before patches i) (patch_at patches i).from payload (omega (arith, a.forward i h, to_le i h))

  pub length_before : (done : List ℕ) (i : ℕ) → i ≤ length patches → length (joined (piece payload patches done) i) + removed patches done i ≡ end_before patches i + added patches done i
  unfolding joined piece total
  length_before done zero h = refl
  length_before done (suc i) h =
      omega (
        arith,
        length-append (joined (piece payload patches done) i) (gap payload patches i ++ current payload patches done i),
        length-append (gap payload patches i) (current payload patches done i),
        length_before done i (omega arith),
        length-gap i h,
        length_cur done i h,
        a.after i h,
        a.forward i h,
      )

  -- the size where these are done: what was put in is added, what was taken out is gone
  pub size_mixed : (done : List ℕ) → length (mixed payload patches done) + removed patches done (length patches) ≡ length payload + added patches done (length patches)
  unfolding mixed
  size_mixed done =
      let m = length patches in
      omega (
        arith,
        length-append (joined (piece payload patches done) m) (drop (end_before patches m) payload),
        length-drop (end_before patches m) payload,
        length_before done m (omega arith),
        a.inside,
      )

  -- never longer than the payload with all replacements beside it
  pub length_mixed : (done : List ℕ) → length (mixed payload patches done) ≤ length payload + all_bytes patches
  length_mixed done =
      let m = length patches in
      omega (
        arith,
        size_mixed done,
        total_mono (λ j. cond (elem j done) (length (patch_at patches j).bytes) 0) (λ j. length (patch_at patches j).bytes) m (λ i k. cond_le (elem i done) _),
      )

  module _ (done : List ℕ) (i : ℕ) (h : i < length patches) (u : elem i done ≡ false) where
    abbrev J : List ℕ
    J = joined (piece payload patches done) i

    abbrev R : List ℕ
    R = joined (λ k. piece payload patches done (suc i + k)) (length patches - suc i) ++ drop (end_before patches (length patches)) payload

    abbrev old : List ℕ
    old = slice (patch_at patches i).from (patch_at patches i).to payload

    length_old : length old ≡ (patch_at patches i).to - (patch_at patches i).from
    length_old = length-slice (patch_at patches i).from (patch_at patches i).to payload (to_le i h)

    -- the payload around the range of edit i, before it is done and after
    around : mixed payload patches done ≡ (J ++ gap payload patches i) ++ (old ++ R)
    around = mixed_around payload patches done i h ∙ ap (λ (b : Bool). (J ++ gap payload patches i) ++ (cond b (patch_at patches i).bytes old ++ R)) u

    piece_other : (j : ℕ) → j ≢ i → piece payload patches (i ∷ done) j ≡ piece payload patches done j
    unfolding piece
    piece_other j n = ap (λ (b : Bool). gap payload patches j ++ cond b (patch_at patches j).bytes (slice (patch_at patches j).from (patch_at patches j).to payload)) (elem_other i j done n)

    around_new : mixed payload patches (i ∷ done) ≡ (J ++ gap payload patches i) ++ ((patch_at patches i).bytes ++ R)
    around_new =
        mixed_around payload patches (i ∷ done) i h
        ∙ rw (
          elem_same i done,
          joined_cong (piece payload patches (i ∷ done)) (piece payload patches done) i (λ j l. piece_other j (omega arith)),
          joined_cong (λ k. piece payload patches (i ∷ done) (suc i + k)) (λ k. piece payload patches done (suc i + k)) (length patches - suc i) (λ k l. piece_other (suc i + k) (omega arith)),
        )

    at_from : length (J ++ gap payload patches i) ≡ moved patches done i (patch_at patches i).from
    at_from =
        omega (
          arith,
          length-append J (gap payload patches i),
          length_before done i (omega arith),
          length-gap i h,
          a.after i h,
        )

    at_to : length ((J ++ gap payload patches i) ++ old) ≡ moved patches done i (patch_at patches i).to
    at_to =
        omega (
          arith,
          length-append (J ++ gap payload patches i) old,
          length-append J (gap payload patches i),
          length_before done i (omega arith),
          length-gap i h,
          length_old,
          a.forward i h,
          a.after i h,
        )

    -- nothing is cut off where the range is moved
    pub range_whole : removed patches done i ≤ (patch_at patches i).from + added patches done i
    range_whole = omega (arith, length_before done i (omega arith), a.after i h)

    pub range_forward : moved patches done i (patch_at patches i).from ≤ moved patches done i (patch_at patches i).to
    range_forward = omega (arith, at_from, at_to, length-append (J ++ gap payload patches i) old)

    pub range_inside : moved patches done i (patch_at patches i).to ≤ length (mixed payload patches done)
    range_inside =
        rw (around, ← (append_assoc (J ++ gap payload patches i) old R)) (omega (arith, at_to, length-append ((J ++ gap payload patches i) ++ old) R))

    pub step : spliced (mixed payload patches done) (moved patches done i (patch_at patches i).from) (moved patches done i (patch_at patches i).to) (patch_at patches i).bytes ≡ mixed payload patches (i ∷ done)
    step =
        let h₁ : List ℕ = J ++ gap payload patches i in
        let f : ℕ = moved patches done i (patch_at patches i).from in
        let t : ℕ = moved patches done i (patch_at patches i).to in
        let before : take f (mixed payload patches done) ≡ h₁ = ap (take f) around ∙ take_at h₁ (old ++ R) f at_from in
        let behind : drop t (mixed payload patches done) ≡ R = ap (drop t) (around ∙ sym (append_assoc h₁ old R)) ∙ drop_at (h₁ ++ old) R t at_to in
        ap₂ (λ (x y : List ℕ). x ++ ((patch_at patches i).bytes ++ y)) before behind ∙ sym around_new

-- ---- an order of all the edits

-- the edits that are done after is, where ds were done before
abbrev pub after : List ℕ → List ℕ → List ℕ
after done [] = done
after done (i ∷ is) = after (i ∷ done) is

or_swap : (a b c : Bool) → (a || (b || c)) ≡ ((b || a) || c)
or_swap true true c = refl
or_swap true false c = refl
or_swap false true c = refl
or_swap false false c = refl

pub elem_after : (j : ℕ) (done is : List ℕ) → elem j (after done is) ≡ elem j is || elem j done
elem_after j done [] = refl
elem_after j done (i ∷ is) = elem_after j (i ∷ done) is ∙ or_swap (elem j is) (eqb j i) (elem j done)

-- one place more counts d more
pub total_cong : (f g : ℕ → ℕ) (n : ℕ) → ((j : ℕ) → j < n → f j ≡ g j) → total f n ≡ total g n
unfolding total
total_cong f g zero o = refl
total_cong f g (suc n) o = omega (arith, total_cong f g n (λ j k. o j (omega arith)), o n (omega arith))

pub total_point : (f g : ℕ → ℕ) (d n i : ℕ) → i < n → f i ≡ g i + d → ((j : ℕ) → j < n → j ≢ i → f j ≡ g j) → total f n ≡ total g n + d
unfolding total
total_point f g d zero i h e o = absurd (omega arith)
total_point f g d (suc n) i h e o = go (side i n) (λ k. total_point f g d n i k e (λ j l. o j (omega arith)))
  where
    go : Side i n → (i < n → total f n ≡ total g n + d) → total f n + f n ≡ total g n + g n + d
    go (under k x) ih = omega (arith, ih k, o n (omega arith) (omega arith))
    go (over k x) ih =
        let q : i ≡ n = omega arith in
        let e' : f n ≡ g n + d = subst (λ (x : ℕ). f x ≡ g x + d) q e in
        omega (arith, total_cong f g n (λ j l. o j (omega arith) (omega arith)))

count : List ℕ → ℕ → ℕ
count is j = cond (elem j is) 1 0

count_le : (is : List ℕ) (j : ℕ) → count is j ≤ 1
unfolding count
count_le is j = cond_le (elem j is) 1

pub total_zero : (f : ℕ → ℕ) (n : ℕ) → ((i : ℕ) → f i ≡ 0) → total f n ≡ 0
unfolding total
total_zero f zero h = refl
total_zero f (suc n) h = omega (arith, total_zero f n h, h n)

total_order : (m : ℕ) (is : List ℕ) → Order m is → total (count is) m ≡ length is
unfolding count
total_order m [] o = total_zero (count []) m (λ i. refl)
total_order m (i ∷ is) o =
    let c : elem i is ≡ false = is_false (elem i is) o.1 in
    omega (
      arith,
      total_point (count (i ∷ is)) (count is) 1 m i o.0 (rw (elem_same i is, c)) (λ j h n. rw (elem_other i j is n)),
      total_order m is o.2,
    )

total_le : (f : ℕ → ℕ) (n : ℕ) → ((i : ℕ) → f i ≤ 1) → total f n ≤ n
unfolding total
total_le f zero h = omega arith
total_le f (suc n) h = omega (arith, total_le f n h, h n)

total-full : (f : ℕ → ℕ) (n : ℕ) → ((i : ℕ) → f i ≤ 1) → n ≤ total f n → (i : ℕ) → i < n → 0 < f i
unfolding total
total-full f zero h e i k = absurd (omega arith)
total-full f (suc n) h e i k = go (side i n) (total-full f n h (omega (arith, h n)) i)
  where
    go : Side i n → (i < n → 0 < f i) → 0 < f i
    go (under l x) ih = ih l
    go (over l x) ih =
        let q : n ≡ i = omega arith in
        subst (λ (x : ℕ). 0 < f x) q (omega (arith, total_le f n h))

-- m different numbers below m are all of them
pub order_all : (m : ℕ) (is : List ℕ) → Order m is → length is ≡ m → (j : ℕ) → j < m → elem j is ≡ true
unfolding count
order_all m is o l j h = go (elem j is) (total-full (count is) m (count_le is) (omega (arith, total_order m is o)) j h)
  where
    go : (b : Bool) → 0 < cond b 1 0 → b ≡ true
    go true k = refl
    go false k = absurd (omega arith)

-- ---- demand 3 on payloads

pub or_right_true : (a b : Bool) → b ≡ true → (a || b) ≡ true
or_right_true true b e = refl
or_right_true false b e = e

pub or_left_true : (a b : Bool) → a ≡ true → (a || b) ≡ true
or_left_true true b e = refl
or_left_true false b e = cc

-- of an order that none of ds is in, none of i and ds is in what comes after i
pub fresh : (i : ℕ) (is done : List ℕ) → elem i is ≡ false → ((j : ℕ) → elem j (i ∷ is) ≡ true → elem j done ≡ false)
    → (j : ℕ) → elem j is ≡ true → elem j (i ∷ done) ≡ false
fresh i is done u f j e = go (eqb j i) refl
  where
    go : (b : Bool) → eqb j i ≡ b → eqb j i || elem j done ≡ false
    go true x =
        let q : j ≡ i = eqb-true j i x in
        let v : elem i is ≡ true = subst (λ (k : ℕ). elem k is ≡ true) q e in
        cc
    go false x = rw x (f j (or_right_true (eqb j i) (elem j is) e))

module _ (payload : List ℕ) (patches : List Patch) (a : Apart patches (length payload)) where
  -- all done: all ranges replaced
  pub mixed_order : (order : List ℕ) → Order (length patches) order → length order ≡ length patches → mixed payload patches (after [] order) ≡ replaced payload patches
  mixed_order order o l =
      mixed_all payload patches (after [] order) (λ j k. elem_after j [] order ∙ or_left_true _ false (order_all (length patches) order o l j k))

-- ---- one edit more is done: the sums, and the ranges still to come, move by its growth

module _ (patches : List Patch) (done : List ℕ) (i k : ℕ) (u : elem i done ≡ false) where
  sum_lower : (v : ℕ → ℕ) → i < k → total (λ j. cond (elem j (i ∷ done)) (v j) 0) k ≡ total (λ j. cond (elem j done) (v j) 0) k + v i
  sum_lower v h =
      total_point _ _ (v i) k i h
      (rw (elem_same i done, u) (omega arith))
      (λ j l n. ap (λ (b : Bool). cond b (v j) 0) (elem_other i j done n))

  sum_higher : (v : ℕ → ℕ) → k ≤ i → total (λ j. cond (elem j (i ∷ done)) (v j) 0) k ≡ total (λ j. cond (elem j done) (v j) 0) k
  sum_higher v h = total_cong _ _ k (λ j l. ap (λ (b : Bool). cond b (v j) 0) (elem_other i j done (omega arith)))

  pub moved_lower : (x : ℕ) → i < k → removed patches done k ≤ x + added patches done k
      → moved patches (i ∷ done) k x ≡ moved patches done k x + length (patch_at patches i).bytes - ((patch_at patches i).to - (patch_at patches i).from)
  moved_lower x h w =
      omega (arith, sum_lower (λ j. length (patch_at patches j).bytes) h, sum_lower (λ j. (patch_at patches j).to - (patch_at patches j).from) h)

  pub moved_higher : (x : ℕ) → k ≤ i → moved patches (i ∷ done) k x ≡ moved patches done k x
  moved_higher x h = rw (sum_higher (λ j. length (patch_at patches j).bytes) h, sum_higher (λ j. (patch_at patches j).to - (patch_at patches j).from) h)

-- ---- where a patch may begin, if the first may at `start`

abbrev pub end_from : ℕ → List Patch → ℕ → ℕ
end_from start patches zero = start
end_from start patches (suc i) = (patch_at patches i).to

pub end_before_lem : (patches : List Patch) (i : ℕ) → end_before patches i ≡ end_from 0 patches i
end_before_lem patches zero = refl
end_before_lem patches (suc i) = refl

pub end_next : (patch : Patch) (patches : List Patch) (i : ℕ) → (patch_at (patch ∷ patches) i).to ≡ end_from patch.to patches i
end_next patch patches zero = refl
end_next patch patches (suc i) = refl
