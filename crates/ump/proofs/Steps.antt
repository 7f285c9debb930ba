-- The steps of a worker, over a shape and over any two calls that meet the definitions: what it holds after each. Assumes nothing.
use mathlib.Core.Path.{◌≡◌, refl, ap, ◌∙◌}
use mathlib.Core.Logic.{◌≢◌}
use mathlib.Core.Bool.{Bool, true, false, ◌||◌}
use mathlib.Core.List.{List, [], ◌∷◌}
use Prim.Native.Nat.{ℕ, ◌+◌, ◌≤◌, ◌<◌, max}
use native.Mathlib.Nat.{le_trans}
use native.Mathlib.Omega.{arith}
use lib.Dec.{eqb, ltb}
use lib.ListN.{length}
use borrow.Author.Tests.{eqb-true}
use Rattle.refusal.specs.Answer.{Answer, gives, refused}
use Rattle.ump.specs.Word.{Below}
use Rattle.ump.specs.Packet.{Shape}
use Rattle.ump.specs.Packing.{words_for}
use Rattle.ump.specs.Limits.{most_bytes}
use Rattle.ump.specs.Check.{payload_of}
use Rattle.ump.specs.Splice.{spliced, Spliced, splice}
use Rattle.ump.specs.Edits.{Edit, Patch, patch_at, Apart, all_bytes, elem, moved_past, Order}
use Rattle.ump.specs.Holds.{Holds, Fewest, BehindMessage, Packed}
use Rattle.ump.specs.Worker.{Calls, Held, End, finished, stopped, Works, rests, goes_on, splice_refused, move_refused, Finishes, bytes_of, AllInPlace, Placed, reached}
use Rattle.ump.specs.Meets.{moved_edit, View, Ready, Meets, CanSplice, CanMove, HasOutcomes}
use Rattle.ump.specs.Partly.{moved, mixed, edit_now}
use Rattle.ump.proofs.First.{is_false}
use Rattle.ump.proofs.Sizes.{words_mono}
use Rattle.ump.proofs.Replace.{or_right_true, length_mixed, range_forward, range_inside, range_whole, step, after, elem_same, fresh}
use Rattle.ump.proofs.Splicing.{splice_packs, length-spliced}
use Rattle.ump.proofs.Signed.{moved_past_is, from_signed, to_signed}
use Rattle.ump.proofs.Moving.{move_past}
use Rattle.ump.proofs.Done.{known}
use Rattle.ump.proofs.Behind.{rewritten_behind, behind_none, behind_both}

-- ---- orders

pub order_below : (m k : ℕ) (order : List ℕ) → Order m order → elem k order ≡ true → k < m
order_below m k [] o e = let z : ◌≡◌ {A = ℕ} 0 1 = cc in absurd (omega arith)
order_below m k (i ∷ order) o e = go (eqb k i) refl e (order_below m k order o.2)
  where
    go : (b : Bool) → eqb k i ≡ b → (b || elem k order) ≡ true → (elem k order ≡ true → k < m) → k < m
    go true q t ih = rw (eqb-true k i q) o.0
    go false q t ih = ih t

not_same : (i k : ℕ) (order : List ℕ) → elem i order ≡ false → elem k order ≡ true → i ≢ k
not_same i k order u e q = let t : elem i order ≡ true = rw q e in let z : ◌≡◌ {A = ℕ} 0 1 = cc in omega arith

-- ---- answers

-- an answer that gives, and what it gives is so
abbrev pub Gives : {A : Type 0} → (A → Type 0) → Answer A → Type 0
Gives P (gives value) = P value
Gives P (refused number place) = ⊥

-- the value that there is where a test holds, else another
abbrev choose : {A : Type 0} {test : Bool} (b : Bool) → test ≡ b → A → (test ≡ true → A) → A
choose true q other there = there q
choose false q other there = other

chosen : {A : Type 0} (P : A → Type 0) {test : Bool} (b : Bool) (q : test ≡ b) (other : A) (there : test ≡ true → A) → ((e : test ≡ true) → P (there e))
    → test ≡ true → P (choose b q other there)
chosen P true q other there h e = h q
chosen P false q other there h e = let z : ◌≡◌ {A = ℕ} 0 1 = cc in absurd (omega arith)

-- what a worker ends with: never a refusal
abbrev pub Ends : {Lent : Type 0} → (Lent → ℕ → Type 0) → End Lent → Type 0
Ends P (finished lent len) = P lent len
Ends P (stopped number place) = ⊥

-- the longest message on the way is no shorter than the first
least_reached : {Lent Record : Type 0} {calls : Calls Lent Record} {bytes : ℕ → List ℕ} {held : Held Lent Record} {order : List ℕ} {end : End Lent}
    → (w : Works calls bytes held order end) → held.length ≤ reached w
least_reached rests = omega arith
least_reached (goes_on call m w) = omega arith
least_reached (splice_refused call) = omega arith
least_reached (move_refused call k e m) = omega arith

module _ {Lent Record : Type 0} (shape : Shape) (view : View Lent Record) (calls : Calls Lent Record)
    (group : ℕ) (id payload : List ℕ) (size : ℕ) (patches : List Patch) (a : Apart patches (length payload))
    (bn : (i : ℕ) → i < length patches → Below shape.limit (patch_at patches i).bytes) (room : words_for shape (length payload + all_bytes patches) ≤ size)
    (small : length payload + all_bytes patches ≤ most_bytes) (meets : Meets shape (length payload + all_bytes patches) view calls) where
  -- where these are done and these are left, in this order
  pub record At (done order : List ℕ) (held : Held Lent Record) : Type 0 where
    pub holds : Holds shape group id (mixed payload patches done) size (view.words_of held.lent) held.length
    pub beside : view.Beside held.lent held.length
    pub edits : (k : ℕ) → elem k order ≡ true → view.edit_of (held.edit k) ≡ edit_now patches done k
    pub cut : (k : ℕ) → elem k order ≡ true → view.CutFrom (length (mixed payload patches done)) (held.edit k)
    pub each : Order (length patches) order
    pub left : (k : ℕ) → elem k order ≡ true → elem k done ≡ false

  -- what a worker has where these are done, at least one of them
  pub record Has (done : List ℕ) (lent : Lent) (len : ℕ) : Type 0 where
    pub fewest : Fewest shape group id (mixed payload patches done) size (view.words_of lent) len
    pub beside : view.Beside lent len

  module _ (done : List ℕ) (i : ℕ) (order : List ℕ) (held : Held Lent Record) (at : At done (i ∷ order) held) where
    abbrev words : List ℕ
    words = view.words_of held.lent

    abbrev from : ℕ
    from = moved patches done i (patch_at patches i).from

    abbrev to : ℕ
    to = moved patches done i (patch_at patches i).to

    fresh_i : elem i done ≡ false
    fresh_i = at.left i (elem_same i order)

    is_i : view.edit_of (held.edit i) ≡ edit_now patches done i
    is_i = at.edits i (elem_same i order)

    stepped : spliced (mixed payload patches done) from to (patch_at patches i).bytes ≡ mixed payload patches (i ∷ done)
    stepped = step payload patches a done i at.each.0 fresh_i

    packed : Packed shape group id (mixed payload patches (i ∷ done)) size (splice shape words held.length from to (patch_at patches i).bytes)
    packed =
        let l = at.each.0 in
        let u = fresh_i in
        let fits : words_for shape (length (mixed payload patches (i ∷ done))) ≤ size = le_trans (words_mono shape _ _ (length_mixed payload patches a (i ∷ done))) room in
        rw stepped at
        (splice_packs shape group id (mixed payload patches done) size words held.length at.holds from to (patch_at patches i).bytes
        (range_forward payload patches a done i l u) (range_inside payload patches a done i l u) (bn i l) (rw stepped fits))

    ready : Ready shape (length payload + all_bytes patches) words held.length (view.edit_of (held.edit i)) (patch_at patches i).bytes
    ready =
        rw is_i
        (record {
          small = bn i at.each.0;
          whole = refl;
          fitted = rw at.holds.carries (length_mixed payload patches a done);
          fits = rw (at.holds.carries, stepped) (length_mixed payload patches a (i ∷ done));
        })

    cut_i : view.CutFrom (length (payload_of shape words held.length)) (held.edit i)
    cut_i = rw at.holds.carries (at.cut i (elem_same i order))

    splice_i : splice shape words held.length (view.edit_of (held.edit i)).from (view.edit_of (held.edit i)).to (patch_at patches i).bytes
        ≡ splice shape words held.length from to (patch_at patches i).bytes
    splice_i = ap (λ (e : Edit). splice shape words held.length e.from e.to (patch_at patches i).bytes) is_i

    accepted : splice shape words held.length (view.edit_of (held.edit i)).from (view.edit_of (held.edit i)).to (patch_at patches i).bytes
        ≡ (
          gives (record { length = words_for shape (length (mixed payload patches (i ∷ done))); growth = packed.grew }),
          (splice shape words held.length from to (patch_at patches i).bytes).1,
        )
    accepted =
        splice_i ∙ ap (λ (x : Answer Spliced). (x, (splice shape words held.length from to (patch_at patches i).bytes).1)) packed.accepted

    took : (answer : Answer Spliced) (left : Lent) → calls.Splices held.lent held.length (held.edit i) (patch_at patches i).bytes answer left
        → Gives (λ change. Has (i ∷ done) left change.length) answer
    took answer left c =
        let o = meets.splices at.beside cut_i ready accepted c in
        rw o.answer_is
        (record {
          fewest = record { length_is = refl; packed = rw o.words_are packed.fewest; holds = rw o.words_are packed.holds };
          beside = o.beside;
        })

    -- an edit that is left is inside the payload as it is now
    inside : (j : ℕ) → elem j (i ∷ order) ≡ true → (view.edit_of (held.edit j)).to ≤ length (mixed payload patches done)
    inside j t = rw (at.edits j t) (range_inside payload patches a done j (order_below (length patches) j (i ∷ order) at.each t) (at.left j t))

    module _ (k : ℕ) (e : elem k order ≡ true) where
      later : elem k (i ∷ order) ≡ true
      later = or_right_true (eqb k i) (elem k order) e

      -- where a pending edit is to be moved to
      moves_to : moved_edit (view.edit_of (held.edit i)) (view.edit_of (held.edit k)) (ltb i k) ≡ gives (edit_now patches (i ∷ done) k)
      moves_to =
          rw (
            is_i,
            at.edits k later,
            move_past payload patches a small done i k at.each.0 (order_below (length patches) k order at.each.2 e)
                (not_same i k order (is_false _ at.each.1) e) fresh_i (at.left k later),
          )

      -- the size moves by the growth of the done edit, wherever it stands
      size_moves : moved_past (view.edit_of (held.edit i)) (length (mixed payload patches done)) ≡ length (mixed payload patches (i ∷ done))
      size_moves =
          let l = at.each.0 in
          let forward : from ≤ to = range_forward payload patches a done i l fresh_i in
          let inside : to ≤ length (mixed payload patches done) = range_inside payload patches a done i l fresh_i in
          rw (is_i, moved_past_is (edit_now patches done i) (length (mixed payload patches done)) (omega arith), ← stepped)
          (omega (arith, length-spliced (mixed payload patches done) from to (patch_at patches i).bytes forward inside))

      size_fits : moved_past (view.edit_of (held.edit i)) (length (mixed payload patches done)) ≤ length payload + all_bytes patches
      size_fits = rw size_moves (length_mixed payload patches a (i ∷ done))

      went : (answer : Answer Record) → calls.Moves (held.edit i) (held.edit k) (ltb i k) answer
          → Gives (λ edit. (view.edit_of edit ≡ edit_now patches (i ∷ done) k) × (view.CutFrom (length (mixed payload patches (i ∷ done))) edit)) answer
      went answer c =
          let o = meets.moves (at.cut i (elem_same i order)) (at.cut k later) (inside i (elem_same i order)) (inside k later)
          (length_mixed payload patches a done) size_fits moves_to c
          in
          rw o.answer_is (o.edit_is, rw size_moves at o.cut)

    next : (left : Lent) (len : ℕ) (edit : ℕ → Record) → Has (i ∷ done) left len
        → ((k : ℕ) → elem k order ≡ true → calls.Moves (held.edit i) (held.edit k) (ltb i k) (gives (edit k)))
        → At (i ∷ done) order (record { lent = left; length = len; edit = edit })
    next left len edit h m =
        record {
          holds = h.fewest.holds;
          beside = h.beside;
          edits = λ k e. (went k e (gives (edit k)) (m k e)).0;
          cut = λ k e. (went k e (gives (edit k)) (m k e)).1;
          each = at.each.2;
          left = fresh i order done (is_false _ at.each.1) at.left;
        }

  -- ---- all steps

  pub works : (order : List ℕ) (i : ℕ) (done : List ℕ) (held : Held Lent Record) (end : End Lent) → At done (i ∷ order) held
      → Works calls (bytes_of patches) held (i ∷ order) end → Ends (Has (after done (i ∷ order))) end
  works order i done held end at (splice_refused call) = took done i order held at _ _ call
  works order i done held end at (move_refused call k e m) = went done i order held at k e _ m
  works [] i done held end at (goes_on call m rests) = took done i [] held at _ _ call
  works (k ∷ order) i done held end at (goes_on {change = change} {left = left} {edit = edit} call m w) =
      works order k (i ∷ done) _ end (next done i (k ∷ order) held at left change.length edit (took done i (k ∷ order) held at (gives change) left call) m) w

  -- ---- where each edit stands

  stands : (done order : List ℕ) (held : Held Lent Record) → At done order held → AllInPlace view.edit_of patches done order held.edit
  stands done order held at k e =
      let h : k < length patches = order_below (length patches) k order at.each e in
      rw (at.edits k e)
      (record {
        from = from_signed payload patches a done k h (at.left k e);
        to = to_signed payload patches a done k h (at.left k e);
        wide = omega (arith, range_whole payload patches a done k h (at.left k e), a.forward k h);
        length = refl;
      })

  pub placed : (order done : List ℕ) (held : Held Lent Record) (end : End Lent) → At done order held
      → (w : Works calls (bytes_of patches) held order end) → Placed view.edit_of patches done w
  placed order done held end at rests = tt
  placed (i ∷ order) done held end at (goes_on {change = change} {left = left} {edit = edit} call m w) = (
    stands done (i ∷ order) held at,
    placed order (i ∷ done) _ end (next done i order held at left change.length edit (took done i order held at (gives change) left call) m) w,
  )
  placed (i ∷ order) done held end at (splice_refused call) = stands done (i ∷ order) held at
  placed (i ∷ order) done held end at (move_refused call k e m) = stands done (i ∷ order) held at

  -- ---- what stands behind the message at the end

  -- after one splice: zeros where its old message stood
  left_behind : (done : List ℕ) (i : ℕ) (order : List ℕ) (held : Held Lent Record) → At done (i ∷ order) held → (change : Spliced) (left : Lent)
      → calls.Splices held.lent held.length (held.edit i) (patch_at patches i).bytes (gives change) left
      → BehindMessage (view.words_of held.lent) held.length (view.words_of left) change.length
  left_behind done i order held at change left c =
      let o = meets.splices at.beside (cut_i done i order held at) (ready done i order held at) (accepted done i order held at) c in
      let k = known shape (view.words_of held.lent) held.length _ _ (patch_at patches i).bytes _ _ (accepted done i order held at) in
      let same : change ≡ record { length = words_for shape (length (mixed payload patches (i ∷ done))); growth = (packed done i order held at).grew } = cc o.answer_is in
      rw (o.words_are, same, ← k.left_is, ← k.length_is) (rewritten_behind shape (view.words_of held.lent) held.length _)

  pub behind : (order done : List ℕ) (held : Held Lent Record) (end : End Lent) → At done order held → (w : Works calls (bytes_of patches) held order end)
      → Ends (λ left len. BehindMessage (view.words_of held.lent) (reached w) (view.words_of left) len) end
  behind order done held end at rests = behind_none (view.words_of held.lent) held.length
  behind (i ∷ order) done held end at (goes_on {change = change} {left = left} {edit = edit} call m w) =
      further end held.length (left_behind done i order held at change left call) (least_reached w)
      (behind order (i ∷ done) _ end (next done i order held at left change.length edit (took done i order held at (gives change) left call) m) w)
    where
      further : (end : End Lent) (a : ℕ) {b r : ℕ} → BehindMessage (view.words_of held.lent) a (view.words_of left) b → b ≤ r
          → Ends (λ last len. BehindMessage (view.words_of left) r (view.words_of last) len) end
          → Ends (λ last len. BehindMessage (view.words_of held.lent) (max a r) (view.words_of last) len) end
      further (finished last len) a h k t = behind_both h k t
      further (stopped number place) a h k t = t
  behind (i ∷ order) done held end at (splice_refused call) = took done i order held at _ _ call
  behind (i ∷ order) done held end at (move_refused call k e m) = went done i order held at k e _ m

  -- ---- a worker that finishes

  on : {held : Held Lent Record} {i : ℕ} {order : List ℕ} {change : Spliced} {left : Lent} {edit : ℕ → Record}
      → calls.Splices held.lent held.length (held.edit i) (patch_at patches i).bytes (gives change) left
      → ((k : ℕ) → elem k order ≡ true → calls.Moves (held.edit i) (held.edit k) (ltb i k) (gives (edit k)))
      → Finishes calls (bytes_of patches) (record { lent = left; length = change.length; edit = edit }) order → Finishes calls (bytes_of patches) held (i ∷ order)
  on c m rest = record { left = rest.left; length = rest.length; works = goes_on c m rest.works }

  module _ (answers : HasOutcomes shape (length payload + all_bytes patches) view calls) where
    pub goes : (order done : List ℕ) (held : Held Lent Record) → At done order held → Finishes calls (bytes_of patches) held order
    goes [] done held at = record { left = held.lent; length = held.length; works = rests }
    goes (i ∷ order) done held at =
        let q = packed done i order held at in
        let change : Spliced = record { length = words_for shape (length (mixed payload patches (i ∷ done))); growth = q.grew } in
        let c : CanSplice calls held.lent held.length (held.edit i) (patch_at patches i).bytes change =
        answers.can_splice at.beside (cut_i done i order held at) (ready done i order held at)
        (accepted done i order held at)
        in
        let can : (k : ℕ) → elem k order ≡ true → CanMove calls (held.edit i) (held.edit k) (ltb i k) =
        λ k e. answers.can_move (at.cut i (elem_same i order)) (at.cut k (later done i order held at k e))
        (inside done i order held at i (elem_same i order)) (inside done i order held at k (later done i order held at k e))
        (length_mixed payload patches a done) (size_fits done i order held at k e) (moves_to done i order held at k e)
        in
        let to : ℕ → Record = λ k. choose (elem k order) refl (held.edit k) (λ e. (can k e).edit) in
        let m : (k : ℕ) → elem k order ≡ true → calls.Moves (held.edit i) (held.edit k) (ltb i k) (gives (to k)) =
        λ k e. chosen (λ (r : Record). calls.Moves (held.edit i) (held.edit k) (ltb i k) (gives r)) (elem k order) refl (held.edit k) (λ e. (can k e).edit) (λ e. (can k e).call) e
        in
        on c.call m
        (goes order (i ∷ done) _ (next done i order held at c.left change.length to (took done i order held at (gives change) c.left c.call) m))
