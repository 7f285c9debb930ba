-- Moving the pending edits one by one past each edit that is done gives the ranges of `moved`, and is never refused. Assumes nothing.
use mathlib.Core.Path.{◌≡◌, refl, sym, subst}
use mathlib.Core.Bool.{true, false, cond}
use mathlib.Core.Logic.{◌≢◌}
use mathlib.Core.List.{List, [], ◌∷◌}
use Prim.Native.Nat.{ℕ, zero, suc, ◌+◌, ◌-◌, ◌≤◌, ◌<◌}
use native.Mathlib.Omega.{arith}
use lib.Dec.{ltb}
use lib.ListN.{length, length-append}
use borrow.Author.Tests.{le-ltb}
use Rattle.refusal.specs.Answer.{gives}
use Rattle.ump.specs.Packet.{joined}
use Rattle.ump.specs.Limits.{most_bytes}
use Rattle.ump.specs.Edits.{Edit, Patch, patch_at, Apart, elem, total, all_bytes, bad_edit, moved_past, move_edit}
use Rattle.ump.specs.Partly.{range_now, edit_now, added, removed, moved, piece}
use Rattle.ump.proofs.Joined.{joined_add}
use Rattle.ump.proofs.First.{Side, under, over, side}
use Rattle.ump.proofs.Replace.{length_before, length_mixed, range_forward, range_inside, range_whole, moved_lower, moved_higher, total_zero}
use Rattle.ump.proofs.Signed.{moved_past_is}

pub total_ge : (f : ℕ → ℕ) (n i : ℕ) → i < n → f i ≤ total f n
unfolding total
total_ge f zero i h = absurd (omega arith)
total_ge f (suc n) i h = go (side i n) (total_ge f n i)
  where
    go : Side i n → (i < n → f i ≤ total f n) → f i ≤ total f n + f n
    go (under l e) ih = omega (arith, ih l)
    go (over l e) ih =
        let q : n ≡ i = omega arith in
        subst (λ (x : ℕ). f i ≤ total f n + f x) (sym q) (omega arith)

not_bad : (e : Edit) → e.from ≤ e.to → e.to ≤ most_bytes → e.length ≤ most_bytes → bad_edit e ≡ false
not_bad e a b c = rw (le-ltb e.to e.from a, le-ltb most_bytes e.to b, le-ltb most_bytes e.length c)

module _ (payload : List ℕ) (patches : List Patch) (a : Apart patches (length payload)) (small : length payload + all_bytes patches ≤ most_bytes) (done : List ℕ) where
  abbrev f : ℕ → ℕ
  f i = moved patches done i (patch_at patches i).from

  abbrev t : ℕ → ℕ
  t i = moved patches done i (patch_at patches i).to

  -- a lower-numbered edit stands before a higher one, as the payload is now
  pub before : (i k : ℕ) → i < k → k < length patches → elem i done ≡ false → t i ≤ f k
  unfolding total
  before i k h l u =
      let n = k - suc i in
      let e : k ≡ suc i + n = omega arith in
      let put : added patches done (suc i) ≡ added patches done i = rw u (omega arith) in
      let out : removed patches done (suc i) ≡ removed patches done i = rw u (omega arith) in
      let grow : length (joined (piece payload patches done) (suc i)) ≤ length (joined (piece payload patches done) k) =
      rw (e, joined_add (piece payload patches done) (suc i) n) (omega (arith, length-append (joined (piece payload patches done) (suc i)) (joined (λ j. piece payload patches done (suc i + j)) n)))
      in
      omega (
        arith,
        length_before payload patches a done (suc i) (omega arith),
        length_before payload patches a done k (omega arith),
        a.after k l,
      )

  fine : (i : ℕ) → i < length patches → elem i done ≡ false → bad_edit (edit_now patches done i) ≡ false
  fine i h u =
      not_bad (edit_now patches done i) (range_forward payload patches a done i h u)
      (omega (arith, range_inside payload patches a done i h u, length_mixed payload patches a done))
      (omega (arith, total_ge (λ j. length (patch_at patches j).bytes) (length patches) i h))

  -- one edit is done, another is pending: the pending one's range after it
  move_lower : (i k : ℕ) → i < k → k < length patches → elem i done ≡ false → elem k done ≡ false
      → move_edit (edit_now patches done i) (edit_now patches done k) true ≡ gives (range_now patches (i ∷ done) k)
  unfolding move_edit
  move_lower i k h l u v =
      let w = range_whole payload patches a done k l v in
      let past : (x : ℕ) → t i ≤ x → moved_past (edit_now patches done i) x ≡ x + length (patch_at patches i).bytes - (t i - f i) =
      λ x b. moved_past_is (edit_now patches done i) x (omega arith)
      in
      let width : t i - f i ≡ (patch_at patches i).to - (patch_at patches i).from = omega (arith, range_whole payload patches a done i (omega arith) u, a.forward i (omega arith)) in
      rw (
        fine i (omega arith) u,
        fine k l v,
        le-ltb (f k) (t i) (before i k h l u),
        past (f k) (omega (arith, before i k h l u)),
        past (t k) (omega (arith, before i k h l u, range_forward payload patches a done k l v)),
        width,
        moved_lower patches done i k u (patch_at patches k).from h w,
        moved_lower patches done i k u (patch_at patches k).to h (omega (arith, a.forward k l)),
      )

  move_higher : (i k : ℕ) → k < i → i < length patches → elem i done ≡ false → elem k done ≡ false
      → move_edit (edit_now patches done i) (edit_now patches done k) false ≡ gives (range_now patches (i ∷ done) k)
  unfolding move_edit
  move_higher i k h l u v =
      rw (
        fine i l u,
        fine k (omega arith) v,
        le-ltb (f i) (t k) (before k i h l v),
        moved_higher patches done i k u (patch_at patches k).from (omega arith),
        moved_higher patches done i k u (patch_at patches k).to (omega arith),
      )

  pub move_past : (i k : ℕ) → i < length patches → k < length patches → i ≢ k → elem i done ≡ false → elem k done ≡ false
      → move_edit (edit_now patches done i) (edit_now patches done k) (ltb i k) ≡ gives (range_now patches (i ∷ done) k)
  move_past i k h l n u v = go (side i k)
    where
      go : Side i k → move_edit (edit_now patches done i) (edit_now patches done k) (ltb i k) ≡ gives (range_now patches (i ∷ done) k)
      go (under b e) = rw e (move_lower i k b l u v)
      go (over b e) = rw e (move_higher i k (omega arith) h u v)

pub none-moved : (patches : List Patch) (k x : ℕ) → x ≡ moved patches [] k x
none-moved patches k x =
    omega (
      arith,
      total_zero (λ j. cond (elem j []) (length (patch_at patches j).bytes) 0) k (λ j. refl),
      total_zero (λ j. cond (elem j []) ((patch_at patches j).to - (patch_at patches j).from) 0) k (λ j. refl),
    )
