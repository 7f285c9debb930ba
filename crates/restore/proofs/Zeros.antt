-- What stands from a place on, zeroed one by one. Assumes nothing.
use mathlib.Core.Path.{◌≡◌, refl, sym, ap, ◌∙◌}
use mathlib.Core.List.{List, [], ◌∷◌, ◌++◌, append-nil, append_assoc}
use Prim.Native.Nat.{ℕ, suc, ◌+◌, ◌-◌, ◌≤◌, ◌<◌}
use native.Mathlib.Numerals.{add-one}
use native.Mathlib.Omega.{arith}
use lib.ListN.{length, get_or, take, drop, set, replicate, length-set, length-append, length-replicate, take-append-drop, drop_of_length-le, replicate-append-replicate}
use lib.Seq.{drop-cons, set_at, append_snoc, length-take-le}

pub record Cleared (before : List ℕ) (from : ℕ) (now : List ℕ) (index : ℕ) : Type 0 where
  pub long : length now ≡ length before
  pub low : from ≤ index
  pub inside : index ≤ length before
  pub is : now ≡ (take from before ++ replicate (index - from) 0) ++ drop index before

pub cleared_none : (before : List ℕ) (from : ℕ) → from ≤ length before → Cleared before from before from
cleared_none before from h =
    let none : from - from ≡ 0 = omega arith in
    record {
      long = refl;
      low = omega arith;
      inside = h;
      is = sym (ap (λ (n : ℕ). (take from before ++ replicate n 0) ++ drop from before) none ∙ ap (λ (l : List ℕ). l ++ drop from before) (append-nil (take from before)) ∙ take-append-drop from before);
    }

pub cleared_more : {before : List ℕ} {from : ℕ} {now : List ℕ} {index : ℕ} → Cleared before from now index → index < length now
    → Cleared before from (set now index 0) (index + 1)
cleared_more {before} {from} {now} {index} c h =
    let k : index < length before = omega (arith, c.long) in
    let front : List ℕ = take from before ++ replicate (index - from) 0 in
    let long : length front ≡ index =
    length-append (take from before) (replicate (index - from) 0)
    ∙ omega (arith, length-take-le from before (omega (arith, c.low, c.inside)), length-replicate {A = ℕ} (index - from) 0, c.low) in
    let count : index - from + 1 ≡ index + 1 - from = omega (arith, c.low) in
    let one : front ++ (0 ∷ []) ≡ take from before ++ replicate (index + 1 - from) 0 =
    append_assoc (take from before) (replicate (index - from) 0) (0 ∷ [])
    ∙ ap (λ (l : List ℕ). take from before ++ l) (replicate-append-replicate (index - from) 1 0 ∙ ap (λ (n : ℕ). replicate n 0) count) in
    record {
      long = length-set now index 0 ∙ c.long;
      low = omega (arith, c.low);
      inside = omega arith;
      is =
          ap (λ (l : List ℕ). set l index 0) (c.is ∙ ap (λ (l : List ℕ). front ++ l) (drop-cons before index 0 k))
          ∙ set_at front (get_or before index 0) (drop (suc index) before) 0 index long
          ∙ sym (append_snoc front 0 (drop (suc index) before))
          ∙ ap (λ (l : List ℕ). l ++ drop (suc index) before) one
          ∙ ap (λ (n : ℕ). (take from before ++ replicate (index + 1 - from) 0) ++ drop n before) (sym (add-one index));
    }

pub cleared_all : {before : List ℕ} {from : ℕ} {now : List ℕ} {index : ℕ} → Cleared before from now index → length now ≤ index
    → now ≡ take from before ++ replicate (length before - from) 0
cleared_all {before} {from} {now} {index} c h =
    let end : index ≡ length before = omega (arith, c.long, c.inside) in
    c.is ∙ ap (λ (l : List ℕ). (take from before ++ replicate (index - from) 0) ++ l) (drop_of_length-le before {i = index} (omega arith))
    ∙ append-nil (take from before ++ replicate (index - from) 0) ∙ ap (λ (n : ℕ). take from before ++ replicate (n - from) 0) end
