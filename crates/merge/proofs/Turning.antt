-- A pass over a list of edits, edit by edit. Assumes nothing.
use mathlib.Core.Path.{◌≡◌, refl, sym, ap, ◌∙◌}
use mathlib.Core.Bool.{Bool, true, false, cond}
use mathlib.Core.List.{List, [], ◌∷◌, ◌++◌}
use Prim.Native.Nat.{ℕ, suc, ◌+◌, ◌-◌, ◌/◌, ◌≤◌, ◌<◌}
use native.Mathlib.Nat.{add_assoc}
use native.Mathlib.Numerals.{add-one}
use native.Mathlib.Omega.{arith}
use lib.Dec.{ltb}
use lib.ListN.{length, take, drop, length-append, length-take, length-drop}
use lib.Seq.{length-take-le, take-take, drop-drop, take-append-le, drop-append-le, take_at, drop_at}
use Rattle.ump.specs.Limits.{most_bytes}
use Rattle.ump.specs.Word.{Below}
use Rattle.ump.specs.Edits.{Edit, edit_in, edits_from, edits_of, per_edit}
use Rattle.ump.proofs.First.{Side, under, over, side}
use Rattle.ump.proofs.Fronts.{drop-take}
use Rattle.ump.proofs.Words.{below_append, below_take, below_drop}
use Rattle.merge.specs.Pass.{Step, is_due, width, step_of, merged, begin_of, Ahead, Turns}

-- ---- one edit

module _ (shrunk grow : Bool) (end : ℕ) (edit : Edit) where
  pub step_due : is_due (ltb (width edit) edit.length) shrunk grow ≡ true
      → step_of shrunk grow end edit ≡ record { kept = edit.from - end; out = width edit; put = edit.length }
  unfolding step_of
  step_due due = rw due

  pub step_kept : is_due (ltb (width edit) edit.length) shrunk grow ≡ false
      → step_of shrunk grow end edit ≡ record { kept = edit.from - end + cond shrunk edit.length (width edit); out = 0; put = 0 }
  unfolding step_of
  step_kept kept = rw kept

  -- no more bytes are given than the edit has
  pub put_le : (step_of shrunk grow end edit).put ≤ edit.length
  put_le = go (is_due (ltb (width edit) edit.length) shrunk grow) refl
    where
      go : (due : Bool) → is_due (ltb (width edit) edit.length) shrunk grow ≡ due → (step_of shrunk grow end edit).put ≤ edit.length
      go true e = rw (step_due e) (omega arith)
      go false e = rw (step_kept e) (omega arith)

  pub merged-step : (edits : List Edit) (source bytes : List ℕ)
      → let step = step_of shrunk grow end edit in
      merged shrunk grow end (edit ∷ edits) source bytes
      ≡ take step.kept source
      ++ (take step.put bytes ++ merged shrunk grow edit.to edits (drop (step.kept + step.out) source) (drop edit.length bytes))
  unfolding merged
  merged-step edits source bytes = refl

step_later : (shrunk grow : Bool) (edit : Edit)
    → let step = step_of shrunk grow edit.from edit in
    step_of shrunk grow 0 edit ≡ record { kept = edit.from + step.kept; out = step.out; put = step.put }
step_later shrunk grow edit = go (is_due (ltb (width edit) edit.length) shrunk grow) refl
  where
    go : (due : Bool) → is_due (ltb (width edit) edit.length) shrunk grow ≡ due
        → let step = step_of shrunk grow edit.from edit in
        step_of shrunk grow 0 edit ≡ record { kept = edit.from + step.kept; out = step.out; put = step.put }
    go true e =
        let q : edit.from - 0 ≡ edit.from + (edit.from - edit.from) = omega arith in
        rw (step_due shrunk grow 0 edit e, step_due shrunk grow edit.from edit e, q)
    go false e =
        let some = cond shrunk edit.length (width edit) in
        let q : edit.from - 0 + some ≡ edit.from + (edit.from - edit.from + some) = omega arith in
        rw (step_kept shrunk grow 0 edit e, step_kept shrunk grow edit.from edit e, q)

pub merged-none : (shrunk grow : Bool) (end : ℕ) (source bytes : List ℕ) → merged shrunk grow end [] source bytes ≡ source
unfolding merged
merged-none shrunk grow end source bytes = refl

-- ---- the bytes

pub below_merged : (most : ℕ) (shrunk grow : Bool) (end : ℕ) (edits : List Edit) (source bytes : List ℕ) → Below most source → Below most bytes
    → Below most (merged shrunk grow end edits source bytes)
unfolding merged
below_merged most shrunk grow end [] source bytes s b = s
below_merged most shrunk grow end (edit ∷ edits) source bytes s b =
    let step = step_of shrunk grow end edit in
    let next = step.kept + step.out in
    let rest = below_merged most shrunk grow edit.to edits (drop next source) (drop edit.length bytes)
    (below_drop most next source s) (below_drop most edit.length bytes b)
    in
    search (below_append, below_take, s, b, rest)

-- ---- where the first edit begins

abbrev pub begin : List Edit → ℕ → ℕ
begin [] size = size
begin (edit ∷ edits) size = edit.from

pub begin_is : (numbers : List ℕ) (size : ℕ) → begin_of numbers size ≡ begin (edits_of numbers) size
unfolding begin_of edits_from
begin_is numbers size = go (side (length numbers) 3)
  where
    go : Side (length numbers) 3 → begin_of numbers size ≡ begin (edits_of numbers) size
    go (under h e) = let none : length numbers / per_edit ≡ 0 = omega arith in rw (e, none)
    go (over h e) = let some : length numbers / per_edit ≡ suc (length numbers / per_edit - 1) = omega arith in rw (e, some)

-- what stands before it stays
module _ (n k : ℕ) (l rest : List ℕ) (h : n ≤ length l) where
  long : n ≤ length (take (n + k) l)
  long = omega (arith, length-take (n + k) l)

  pub take_front : take n (take (n + k) l ++ rest) ≡ take n l
  take_front = take-append-le n (take (n + k) l) rest long ∙ take-take n (n + k) l (omega arith)

  drop_front : drop n (take (n + k) l ++ rest) ≡ take k (drop n l) ++ rest
  drop_front =
      let q : n + k - n ≡ k = omega arith in
      rw (drop-append-le n (take (n + k) l) rest long, drop-take n (n + k) l, q)

module _ (shrunk grow : Bool) (source bytes : List ℕ) (size : ℕ) where
  before : (edits : List Edit) → begin edits size ≤ length source
      → take (begin edits size) (merged shrunk grow 0 edits source bytes) ≡ take (begin edits size) source
  unfolding merged
  before [] h = refl
  before (edit ∷ edits) h = rw (step_later shrunk grow edit) (take_front edit.from (step_of shrunk grow edit.from edit).kept source _ h)

  behind : (edits : List Edit) → begin edits size ≤ length source
      → drop (begin edits size) (merged shrunk grow 0 edits source bytes)
      ≡ merged shrunk grow (begin edits size) edits (drop (begin edits size) source) bytes
  unfolding merged
  behind [] h = refl
  behind (edit ∷ edits) h =
      rw (
        step_later shrunk grow edit,
        drop_front edit.from (step_of shrunk grow edit.from edit).kept source _ h,
        drop-drop,
        add_assoc,
      )

  module _ (numbers : List ℕ) (h : begin_of numbers size ≤ length source) where
    pub take_begin : take (begin_of numbers size) (merged shrunk grow 0 (edits_of numbers) source bytes) ≡ take (begin_of numbers size) source
    take_begin = let e = begin_is numbers size in rw e (before (edits_of numbers) (rw e at h))

    pub drop_begin : drop (begin_of numbers size) (merged shrunk grow 0 (edits_of numbers) source bytes)
        ≡ merged shrunk grow (begin_of numbers size) (edits_of numbers) (drop (begin_of numbers size) source) bytes
    drop_begin = let e = begin_is numbers size in rw e (behind (edits_of numbers) (rw e at h))

-- ---- the edits from edit i on

abbrev pub rest : List ℕ → ℕ → List Edit
rest numbers i = edits_from numbers i (length numbers / per_edit - i)

pub rest_all : (numbers : List ℕ) → edits_of numbers ≡ rest numbers 0
rest_all numbers = let q : length numbers / per_edit - 0 ≡ length numbers / per_edit = omega arith in rw q

pub rest_end : (numbers : List ℕ) (i : ℕ) → length numbers / per_edit ≤ i → rest numbers i ≡ []
unfolding edits_from
rest_end numbers i h = let q : length numbers / per_edit - i ≡ 0 = omega arith in rw q

pub rest_step : (numbers : List ℕ) (i : ℕ) → i < length numbers / per_edit → rest numbers i ≡ edit_in numbers i ∷ rest numbers (i + 1)
unfolding edits_from
rest_step numbers i h =
    let q : length numbers / per_edit - i ≡ suc (length numbers / per_edit - suc i) = omega arith in
    rw (q, add-one i)

-- ---- a pass goes on

module _ (shrunk grow : Bool) (size lag total given end at m start : ℕ) where
  -- inside both payloads
  pub record Inside : Type 0 where
    pub read : at ≤ size
    pub written : m ≤ total
    pub ahead : Ahead size lag at m

  -- what a pass knows at an edit
  pub record Turn (edit : Edit) (edits : List Edit) : Type 0 where
    pub after : end ≤ edit.from
    pub forward : edit.from ≤ edit.to
    pub short : edit.length ≤ most_bytes
    pub read : at + (step_of shrunk grow end edit).kept + (step_of shrunk grow end edit).out ≤ size
    pub written : m + (step_of shrunk grow end edit).kept + (step_of shrunk grow end edit).put ≤ total
    pub supplied : start + edit.length ≤ given
    pub ahead : Ahead size lag at m
    pub on : Turns shrunk grow size lag total given edit.to (at + (step_of shrunk grow end edit).kept + (step_of shrunk grow end edit).out)
        (m + (step_of shrunk grow end edit).kept + (step_of shrunk grow end edit).put) (start + edit.length) edits

  -- and behind the last one
  pub record Turned : Type 0 where
    pub read : at ≤ size
    pub written : m + (size - at) ≡ total
    pub ahead : Ahead size lag at m

module _ (shrunk grow : Bool) (size lag total given : ℕ) where
  inside : (end at m start : ℕ) (edits : List Edit) → Turns shrunk grow size lag total given end at m start edits
      → Inside shrunk grow size lag total given end at m start
  unfolding Turns
  inside end at m start [] t = record { read = t.0; written = omega arith; ahead = t.1.1 }
  inside end at m start (edit ∷ edits) t =
      let step = step_of shrunk grow end edit in
      let on = inside edit.to (at + step.kept + step.out) (m + step.kept + step.put) (start + edit.length) edits t.1 in
      record { read = omega arith; written = omega arith; ahead = t.0.1.1.1.1.1 }

module _ {shrunk grow : Bool} {size lag total given end at m start : ℕ} where
  pub turns_inside : (edits : List Edit) → Turns shrunk grow size lag total given end at m start edits
      → Inside shrunk grow size lag total given end at m start
  turns_inside edits t = inside shrunk grow size lag total given end at m start edits t

  pub turns_next : {edit : Edit} {edits : List Edit} → Turns shrunk grow size lag total given end at m start (edit ∷ edits)
      → Turn shrunk grow size lag total given end at m start edit edits
  unfolding Turns
  turns_next {edit} {edits} t =
      record {
        after = t.0.0;
        forward = t.0.1.0;
        short = t.0.1.1.0;
        read = t.0.1.1.1.0;
        written = (inside shrunk grow size lag total given _ _ _ _ edits t.1).written;
        supplied = t.0.1.1.1.1.0;
        ahead = t.0.1.1.1.1.1;
        on = t.1;
      }

  pub turns_end : Turns shrunk grow size lag total given end at m start [] → Turned shrunk grow size lag total given end at m start
  unfolding Turns
  turns_end t = record { read = t.0; written = t.1.0; ahead = t.1.1 }

-- so many bytes of the new payload are left
module _ (shrunk grow : Bool) (size lag total given : ℕ) where
  pub length_merged : (end at m start : ℕ) (edits : List Edit) (source bytes : List ℕ)
      → Turns shrunk grow size lag total given end at m start edits → length source ≡ size - at → length bytes ≡ given - start
      → length (merged shrunk grow end edits source bytes) + m ≡ total
  length_merged end at m start [] source bytes t s b = rw merged-none (omega (arith, turns_end t))
  length_merged end at m start (edit ∷ edits) source bytes t s b =
      let step = step_of shrunk grow end edit in
      let u = turns_next t in
      let next = step.kept + step.out in
      let left = drop next source in
      let given_left = drop edit.length bytes in
      let on = length_merged edit.to (at + step.kept + step.out) (m + step.kept + step.put) (start + edit.length) edits left given_left u.on
      (omega (arith, length-drop next source)) (omega (arith, length-drop edit.length bytes))
      in
      rw merged-step (simp (length-append, length-take) (omega (arith, put_le shrunk grow end edit)))

-- from where the first edit begins, all of it is made
pub length_all : (shrunk grow : Bool) (size lag total : ℕ) (numbers source bytes : List ℕ)
    → let b = begin_of numbers size in
    Turns shrunk grow size lag total (length bytes) b b b 0 (edits_of numbers) → size ≡ length source
    → length (merged shrunk grow 0 (edits_of numbers) source bytes) ≡ total
length_all shrunk grow size lag total numbers source bytes t sized =
    let b = begin_of numbers size in
    let new = merged shrunk grow 0 (edits_of numbers) source bytes in
    let h : b ≤ length source = omega (arith, turns_inside (edits_of numbers) t) in
    omega (
      arith,
      length-take b new,
      length-take b source,
      length-drop b new,
      ap length (take_begin shrunk grow source bytes size numbers h),
      ap length (drop_begin shrunk grow source bytes size numbers h),
      length_merged shrunk grow size lag total (length bytes) b b b 0 (edits_of numbers) (drop b source) bytes t (omega (arith, length-drop b source)) (omega arith),
    )

-- the new payload from byte m on is what the pass has yet to make: so are its next parts
module _ {shrunk grow : Bool} {size lag total given end at m start : ℕ} {edit : Edit} {edits : List Edit}
    (t : Turn shrunk grow size lag total given end at m start edit edits) (source bytes target : List ℕ)
    (sized : size ≡ length source) (supplied : given ≡ length bytes)
    (is : drop m target ≡ merged shrunk grow end (edit ∷ edits) (drop at source) (drop start bytes)) where
  abbrev step : Step
  step = step_of shrunk grow end edit

  abbrev kept : List ℕ
  kept = take step.kept (drop at source)

  abbrev put : List ℕ
  put = take step.put (drop start bytes)

  abbrev last : List ℕ
  last = merged shrunk grow edit.to edits (drop (step.kept + step.out) (drop at source)) (drop edit.length (drop start bytes))

  length_kept : length kept ≡ step.kept
  length_kept = length-take-le step.kept (drop at source) (omega (arith, length-drop at source, t.read))

  length_put : length put ≡ step.put
  length_put = length-take-le step.put (drop start bytes) (omega (arith, length-drop start bytes, t.supplied, put_le shrunk grow end edit))

  parts : drop m target ≡ kept ++ (put ++ last)
  parts = is ∙ merged-step shrunk grow end edit edits (drop at source) (drop start bytes)

  behind_kept : drop (m + step.kept) target ≡ put ++ last
  behind_kept = sym (drop-drop step.kept m target) ∙ ap (drop step.kept) parts ∙ drop_at kept (put ++ last) step.kept length_kept

  pub turn_kept : take step.kept (drop m target) ≡ take step.kept (drop at source)
  turn_kept = ap (take step.kept) parts ∙ take_at kept (put ++ last) step.kept length_kept

  pub turn_put : take step.put (drop (m + step.kept) target) ≡ take step.put (drop start bytes)
  turn_put = ap (take step.put) behind_kept ∙ take_at put last step.put length_put

  pub turn_on : drop (m + step.kept + step.put) target
      ≡ merged shrunk grow edit.to edits (drop (at + step.kept + step.out) source) (drop (start + edit.length) bytes)
  turn_on =
      sym (drop-drop step.put (m + step.kept) target)
      ∙ ap (drop step.put) behind_kept
      ∙ drop_at put last step.put length_put
      ∙ simp (drop-drop, add_assoc)
