-- Looking at an edited dump is what a full splice would read: of all calls that promise the definitions, of any shape. Assumes nothing.
use mathlib.Core.Path.{◌≡◌, refl, sym, ap, ap₂, ◌∙◌, subst}
use mathlib.Core.Bool.{Bool, true, false, ◌||◌}
use mathlib.Core.List.{List, [], ◌∷◌, ◌++◌}
use Prim.Native.Nat.{ℕ, zero, suc, ◌+◌, ◌-◌, ◌/◌, ◌≤◌, ◌<◌}
use native.Mathlib.Nat.{add-zero}
use native.Mathlib.Omega.{arith}
use lib.Dec.{ltb}
use lib.ListN.{length, get_or, take, drop, length-take, length-drop, take-append-drop, drop_of_length-le}
use lib.Seq.{take-length, take-nil, drop-drop, get_or-take, get_or-drop}
use borrow.Author.Tests.{le-ltb, ltb-false, eq-eqb}
use Rattle.refusal.specs.Answer.{Answer, Verdict, gives, refused, pass, ◌▷◌, guard, map_answer}
use Rattle.refusal.proofs.Laws.{never_both, never_refused, guard_passed, pass_both, writes_given, writes_refused}
use Rattle.ump.specs.Word.{Below}
use Rattle.ump.specs.Packet.{Shape}
use Rattle.ump.specs.Packing.{words_for}
use Rattle.ump.specs.Limits.{most_bytes}
use Rattle.ump.specs.Check.{check, payload_of}
use Rattle.ump.specs.Setters.{nth_byte, get_byte}
use Rattle.ump.specs.Splice.{spliced, Spliced}
use Rattle.ump.specs.Edits.{Edit, Patch, bad_edit, replaced, edits_from, edits_of, patches_of, bad_list, some_overlap, all_checks, splice_all}
use Rattle.ump.specs.Runs.{Run, of_dump, of_edit, past, run_at}
use Rattle.ump.specs.Demand.{Family}
use Rattle.ump.specs.Meets.{PromisedFamily}
use Rattle.ump.proofs.Checks.{or_left, or_right}
use Rattle.ump.proofs.First.{Side, under, over, side}
use Rattle.ump.proofs.Done as done
use Rattle.ump.proofs.Demand.{rewritten_is_fewest}
use Rattle.ump.proofs.Origins.{replaced_single}
use Rattle.ump.proofs.Runs.{run_tail, run_gap, run_within, run_later}
use Rattle.ump.proofs.Splicing.{length-spliced, below_payload, below_spliced}
use Rattle.edit.specs.Growth.{Sound}
use Rattle.edit.specs.Listed.{list_check}
use Rattle.edit.proofs.Laws.{sound_has}
use Rattle.edit.proofs.AtOnce.{all_fewest}
use Rattle.look.specs.Pieces.{run_length, run_bytes}
use Rattle.look.specs.Look.{some_run, find, edit_by, patch_by, shown, stands_at, part_lent, byte_of, byte_of_message}
use Rattle.look.specs.Looked.{Finder, Lender, Looker, MessageLooker, Reader, RunOf, InTurn, LentPart, FoundRuns, LentRuns, LookedAt, PromisedLooks, PromisedLender}
use Rattle.look.specs.Looked as looked
use Rattle.look.proofs.Nth.{nth_past, nth_there, nth_given, read_held}
use Rattle.look.proofs.Right.{Right, right}
use Rattle.look.proofs.Longest.{longest}
use Rattle.look.proofs.Finding.{Known, known}

-- ---- runs

some_given : (run : Run) → 0 < run_length run → some_run run ≡ gives run
some_given (of_dump k start end) h = refl
some_given (of_edit k start end) h = refl
some_given past h = absurd (omega arith)

shown_run : (dump : List ℕ) (patches : List Patch) (run : Run) → shown dump patches (some_run run) ≡ run_bytes dump patches run
shown_run dump patches (of_dump k start end) = refl
shown_run dump patches (of_edit k start end) = refl
shown_run dump patches past = refl

not_past : (run : Run) → some_run run ≡ gives past → ⊥
not_past (of_dump k start end) e = let z : ◌≡◌ {A = ℕ} 0 1 = cc in omega arith
not_past (of_edit k start end) e = let z : ◌≡◌ {A = ℕ} 0 1 = cc in omega arith
not_past past e = never_refused e

not_bad : (e : Edit) → Sound e → bad_edit e ≡ false
not_bad e s = rw (le-ltb e.to e.from s.forward, le-ltb most_bytes e.to s.end, le-ltb most_bytes e.length s.size)

-- ---- one edit

module _ (dump : List ℕ) (from to : ℕ) (replacement : List ℕ) where
  abbrev edit : Edit
  edit = edit_by from to replacement

  abbrev patches : List Patch
  patches = patch_by from to replacement ∷ []

  abbrev made : List ℕ
  made = spliced dump from to replacement

  abbrev run_here : ℕ → Run
  run_here i = run_at (length dump) (edit ∷ []) i

  module _ (sound : Sound edit) (inside : to ≤ length dump) where
    taken : (i : ℕ) → find (length dump) edit i ≡ some_run (run_here i)
    unfolding find
    taken i = rw (not_bad edit sound, le-ltb (length dump) to inside)

    right_here : (i : ℕ) → Right dump patches made i (run_here i)
    right_here i = rw (replaced_single dump from to replacement) at (right dump patches (omega arith, (sound.forward, inside)) i)

    answered : (i : ℕ) → i < length made → find (length dump) edit i ≡ gives (run_here i)
    answered i h = taken i ∙ some_given (run_here i) ((right_here i).some h)

    -- byte i is the first of its run, and there is one where there is a run
    first_of : (i : ℕ) → nth_byte made i ≡ map_answer (λ run. get_or (run_bytes dump patches run) 0 0) (some_run (run_here i))
    first_of i = go (side i (length made))
      where
        go : Side i (length made) → nth_byte made i ≡ map_answer (λ run. get_or (run_bytes dump patches run) 0 0) (some_run (run_here i))
        go (under h e) =
            let w = right_here i in
            let v : get_or (run_bytes dump patches (run_here i)) 0 0 ≡ get_or made i 0 =
            ap (λ (l : List ℕ). get_or l 0 0) w.reads
            ∙ get_or-take (run_length (run_here i)) (drop i made) 0 0 (w.some h)
            ∙ get_or-drop i made 0 0
            ∙ ap (λ (k : ℕ). get_or made k 0) (add-zero i)
            in
            sym (nth_there made i h) ∙ ap gives (sym v) ∙ sym (ap (map_answer (λ run. get_or (run_bytes dump patches run) 0 0)) (some_given (run_here i) (w.some h)))
        go (over h e) =
            let z : refused 13 0 ≡ map_answer (λ run. get_or (run_bytes dump patches run) 0 0) (some_run (run_here i)) =
            ap (λ (r : Run). map_answer (λ run. get_or (run_bytes dump patches run) 0 0) (some_run r)) (sym ((right_here i).none h))
            in
            sym (nth_past made i h) ∙ z

  in_range : (i : ℕ) {run : Run} → find (length dump) edit i ≡ gives run → Sound edit × (to ≤ length dump) × (i < length made)
  in_range i {run} q = (k.sound, k.inside, go (side i (length made)))
    where
      k : Known (length dump) edit i run
      k = known (length dump) edit i q

      go : Side i (length made) → i < length made
      go (under h e) = h
      go (over h e) =
          let none : run_here i ≡ past = (right_here k.sound k.inside i).none h in
          absurd (not_past (run_here i) (sym (taken k.sound k.inside i) ∙ q ∙ ap gives (sym k.is ∙ none)))

  run_of : (i : ℕ) {run : Run} → find (length dump) edit i ≡ gives run → RunOf dump from to replacement i run
  run_of i q =
      let n = length dump in
      let k = known n edit i q in
      let r = in_range i q in
      let w : Right dump patches made i _ = rw k.is at (right_here k.sound k.inside i) in
      let size = length-spliced dump from to replacement k.sound.forward k.inside in
      record {
        reads = w.reads;
        some = w.some r.2;
        fits = omega (arith, w.fits, r.2);
        before = λ h. sym k.is ∙ run_gap n 0 0 i edit [] (omega arith) ∙ ap (λ (x : ℕ). of_dump 0 x from) (omega arith);
        within =
            λ h l.
            sym k.is ∙ run_within n 0 0 i edit [] (omega arith) (omega arith) ∙ ap (λ (x : ℕ). of_edit 0 x (length replacement)) (omega arith);
        behind =
            λ h.
            sym k.is
            ∙ run_later n 0 0 i edit [] (omega arith) (omega arith)
            ∙ run_tail n to 1 (i - (from - 0) - length replacement) (omega (arith, size, r.2, k.inside, k.sound.forward))
            ∙ ap (λ (x : ℕ). of_dump 1 x n) (omega arith);
        is_run = k.is;
        longest = longest n (edit ∷ []) i;
      }

  -- a byte of a run is a byte of the result
  byte_of_run : (i : ℕ) {run : Run} → find (length dump) edit i ≡ gives run → (j : ℕ) → j < run_length run
      → nth_byte made (i + j) ≡ gives (get_or (run_bytes dump patches run) j 0)
  byte_of_run i {run} q j h =
      let r = run_of i q in
      sym (nth_there made (i + j) (omega (arith, r.fits)))
      ∙ ap gives
      (sym
      (ap (λ (l : List ℕ). get_or l j 0) r.reads ∙ get_or-take (run_length run) (drop i made) j 0 h ∙ get_or-drop i made j 0))

  -- parts lent in turn
  module _ {Lends : Lender} (promised : PromisedLender Lends) where
    part-shown : {i : ℕ} {part : List ℕ} → LentPart Lends dump from to replacement i part → part ≡ shown dump patches (find (length dump) edit i)
    unfolding part_lent
    part-shown l = ap (λ (o : (ℕ × ℕ) × List ℕ). o.1) (promised.lends l.call)

    module _ (sound : Sound edit) (inside : to ≤ length dump) where
      part_is : {i : ℕ} {part : List ℕ} → LentPart Lends dump from to replacement i part → part ≡ take (run_length (run_here i)) (drop i made)
      part_is {i} l =
          part-shown l
          ∙ ap (shown dump patches) (taken sound inside i)
          ∙ shown_run dump patches (run_here i)
          ∙ (right_here sound inside i).reads

      part_size : {i : ℕ} {part : List ℕ} → LentPart Lends dump from to replacement i part → length part ≡ run_length (run_here i)
      part_size {i} l =
          ap length (part_is l)
          ∙ omega (arith, length-take (run_length (run_here i)) (drop i made), length-drop i made, (right_here sound inside i).fits)

      in_turn : {i : ℕ} {all : List ℕ} → InTurn (LentPart Lends dump from to replacement) i all → all ≡ drop i made
      in_turn {i} (looked.over l) = go (side i (length made))
        where
          go : Side i (length made) → [] ≡ drop i made
          go (under h e) = absurd (omega (arith, part_size l, (right_here sound inside i).some h))
          go (over h e) = sym (drop_of_length-le made h)
      in_turn {i} (looked.more {part = part} {rest} l some later) =
          rw (part_is l, in_turn later, part_size l, ← (drop-drop (run_length (run_here i)) i made)) (take-append-drop (run_length (run_here i)) (drop i made))

      none_lent : (i : ℕ) → length made ≤ i → InTurn (LentPart Lends dump from to replacement) i (drop i made)
      none_lent i h =
          let l = promised.can_lend dump from to replacement i in
          let none : shown dump patches (find (length dump) edit i) ≡ [] =
          part_is l ∙ ap (take (run_length (run_here i))) (drop_of_length-le made h) ∙ take-nil (run_length (run_here i))
          in
          rw (drop_of_length-le made h) (looked.over (subst (LentPart Lends dump from to replacement i) none l))

      -- so many calls at most, from byte i on
      goes : (fuel i : ℕ) → length made ≤ i + fuel → InTurn (LentPart Lends dump from to replacement) i (drop i made)
      goes zero i h = none_lent i (omega arith)
      goes (suc fuel) i h = go (side i (length made)) (λ k e. goes fuel k e)
        where
          go : Side i (length made) → ((k : ℕ) → length made ≤ k + fuel → InTurn (LentPart Lends dump from to replacement) k (drop k made))
              → InTurn (LentPart Lends dump from to replacement) i (drop i made)
          go (over k e) on = none_lent i k
          go (under k e) on =
              let part : List ℕ = shown dump patches (find (length dump) edit i) in
              let l : LentPart Lends dump from to replacement i part = promised.can_lend dump from to replacement i in
              let some : 0 < length part = omega (arith, part_size l, (right_here sound inside i).some k) in
              let all : part ++ drop (i + length part) made ≡ drop i made =
              ap₂ (λ (x : List ℕ) (n : ℕ). x ++ drop (i + n) made) (part_is l) (part_size l)
              ∙ ap (λ (x : List ℕ). take (run_length (run_here i)) (drop i made) ++ x) (sym (drop-drop (run_length (run_here i)) i made))
              ∙ take-append-drop (run_length (run_here i)) (drop i made)
              in
              subst (InTurn (LentPart Lends dump from to replacement) i) all (looked.more l some (on (i + length part) (omega arith)))

-- ---- a list of one edit

fine_alone : (b : Bool) (later : Answer ℕ) → (guard ((b || false) || false) 13 0 ▷ pass) ▷ later ≡ guard b 13 0 ▷ later
fine_alone true later = refl
fine_alone false later = refl

module _ (dump : List ℕ) (from to : ℕ) (replacement : List ℕ) (i : ℕ) where
  abbrev out : Bool
  out = bad_edit (edit_by from to replacement) || ltb (length dump) to

  one-listed : byte_of dump (from ∷ to ∷ length replacement ∷ []) replacement i ≡ guard out 13 0 ▷ nth_byte (spliced dump from to replacement) i
  unfolding byte_of list_check edits_from
  one-listed =
      let new_is : replaced dump (patches_of (edit_by from to replacement ∷ []) replacement) ≡ spliced dump from to replacement =
      replaced_single dump from to (take (length replacement) replacement) ∙ ap (spliced dump from to) (take-length replacement)
      in
      rw (new_is, eq-eqb (length replacement) (length replacement + 0) (omega arith), le-ltb from 0 (omega arith))
      (fine_alone out (nth_byte (spliced dump from to replacement) i))

  one-edit : byte_of dump (from ∷ to ∷ length replacement ∷ []) replacement i
      ≡ map_answer (λ run. get_or (run_bytes dump (patch_by from to replacement ∷ []) run) 0 0) (find (length dump) (edit_by from to replacement) i)
  unfolding find
  one-edit = one-listed ∙ go out refl
    where
      go : (b : Bool) → out ≡ b
          → guard b 13 0 ▷ nth_byte (spliced dump from to replacement) i
          ≡ map_answer (λ run. get_or (run_bytes dump (patch_by from to replacement ∷ []) run) 0 0)
          (guard b 13 0 ▷ some_run (run_at (length dump) (edit_by from to replacement ∷ []) i))
      go true o = refl
      go false o =
          let e : Edit = edit_by from to replacement in
          first_of dump from to replacement (sound_has e (or_left (bad_edit e) (ltb (length dump) to) o))
          (ltb-false (length dump) to (or_right (bad_edit e) (ltb (length dump) to) o)) i

-- ---- all edits of a list, done

module _ (shape : Shape) (words : List ℕ) (len : ℕ) (numbers bytes : List ℕ) where
  abbrev old : List ℕ
  old = payload_of shape words len

  abbrev new : List ℕ
  new = replaced old (patches_of (edits_of numbers) bytes)

  -- the checks of the message and of the list passed
  both_pass : {change : Spliced} {left : List ℕ} → splice_all shape words len numbers bytes ≡ (gives change, left)
      → (check shape words len ≡ pass) × (list_check (length old) (length bytes) numbers ≡ pass)
  unfolding splice_all list_check
  both_pass e =
      let range = guard (bad_list (length old) (length bytes) numbers) 13 0 in
      let overlap = guard (some_overlap 0 (edits_of numbers)) 20 0 in
      let room = guard (ltb (length words) (words_for shape (length new))) 14 0 in
      let c = pass_both (check shape words len) (range ▷ overlap ▷ room) (writes_given (all_checks shape words len numbers bytes) words _ _ e).0 in
      let r = pass_both range (overlap ▷ room) c.1 in
      let o = pass_both overlap room r.1 in
      (c.0, rw (guard_passed (bad_list (length old) (length bytes) numbers) 13 0 r.0, guard_passed (some_overlap 0 (edits_of numbers)) 20 0 o.0))

  list_done : (i : ℕ) {change : Spliced} {left : List ℕ} → splice_all shape words len numbers bytes ≡ (gives change, left) → Below shape.limit bytes
      → byte_of old numbers bytes i ≡ get_byte shape left change.length i
  unfolding byte_of
  list_done i {change} {left} e small =
      rw (both_pass e).1 (sym (read_held shape (all_fewest shape words len numbers bytes change left e small).holds i))

  message_done : (i : ℕ) {change : Spliced} {left : List ℕ} → splice_all shape words len numbers bytes ≡ (gives change, left) → Below shape.limit bytes
      → byte_of_message shape words len numbers bytes i ≡ get_byte shape left change.length i
  unfolding byte_of_message
  message_done i e small = rw (both_pass e).0 (list_done i e small)

  -- a refusal but for Room
  same_refusal : (v : Verdict) (a b c : Bool) (later : Answer ℕ) {n p : ℕ} → v ▷ guard a 13 0 ▷ guard b 20 0 ▷ guard c 14 0 ≡ refused n p → (n ≡ 14 → ⊥)
      → v ▷ (guard a 13 0 ▷ guard b 20 0) ▷ later ≡ refused n p
  same_refusal (refused m q) a b c later e room = cc
  same_refusal (gives u) true b c later e room = cc
  same_refusal (gives u) false true c later e room = cc
  same_refusal (gives u) false false true later e room = absurd (room cc)
  same_refusal (gives u) false false false later e room = never_both e

  message_refused : (i : ℕ) {number place : ℕ} {left : List ℕ} → splice_all shape words len numbers bytes ≡ (refused number place, left) → (number ≡ 14 → ⊥)
      → byte_of_message shape words len numbers bytes i ≡ refused number place
  unfolding splice_all byte_of_message byte_of list_check
  message_refused i e room =
      same_refusal (check shape words len) (bad_list (length old) (length bytes) numbers) (some_overlap 0 (edits_of numbers))
      (ltb (length words) (words_for shape (length new))) (nth_byte new i) (writes_refused (all_checks shape words len numbers bytes) words _ _ e).0 room

-- a byte that is given
byte-given : (dump numbers bytes : List ℕ) (i : ℕ) {b : ℕ} → byte_of dump numbers bytes i ≡ gives b
    → nth_byte (replaced dump (patches_of (edits_of numbers) bytes)) i ≡ gives b
unfolding byte_of
byte-given dump numbers bytes i e = (pass_both (list_check (length dump) (length bytes) numbers) _ e).1

-- ---- the theorems

range : (n : ℕ) (e : Edit) (i : ℕ) {number place : ℕ} → find n e i ≡ refused number place → (number ≡ 13) × (place ≡ 0)
unfolding find
range n e i {number} {place} q = go (bad_edit e || ltb n e.to) (run_at n (e ∷ []) i) q
  where
    go : (b : Bool) (run : Run) → guard b 13 0 ▷ some_run run ≡ refused number place → (number ≡ 13) × (place ≡ 0)
    go true run q = (cc, cc)
    go false (of_dump k start end) q = never_both q
    go false (of_edit k start end) q = never_both q
    go false past q = (cc, cc)

module _ {shape : Shape} {family : Family} (family-promised : PromisedFamily shape family)
    {Finds : Finder} {Looks : Looker} {LooksIn : MessageLooker} {Reads : Reader} (promised : PromisedLooks shape Finds Looks LooksIn Reads) where
  pub found_runs : FoundRuns shape family Finds Reads
  found_runs =
      record {
        answers = λ n edit i. record { answer = find n edit i; call = promised.can_find n edit i };
        run = λ dump from to replacement i c. run_of dump from to replacement i (sym (promised.finds c));
        answered = λ dump from to replacement i c s h l. promised.finds c ∙ answered dump from to replacement s h i l;
        in_range = λ dump from to replacement i c. in_range dump from to replacement i (sym (promised.finds c));
        range = λ {n = n} {edit} {i} c. range n edit i (sym (promised.finds c));
        as_spliced = λ {words = words} {left} {len} {edit} {bytes} {change} call small {i} {run} c j h r.
            let e = sym (family-promised.splices small call) in
            let k = done.known shape words len edit.from edit.to bytes change left e in
            let old : List ℕ = payload_of shape words len in
            let below = below_spliced shape.limit old edit.from edit.to bytes (below_payload shape words (len / shape.words)) small in
            let held = rw (k.length_is, k.left_is) at (rewritten_is_fewest shape words len (spliced old edit.from edit.to bytes) k.passes below k.room) in
            promised.reads r
            ∙ read_held shape held.holds (i + j)
            ∙ byte_of_run old edit.from edit.to bytes i (sym (promised.finds c)) j h;
      }

  pub looked_at : LookedAt shape family Finds Looks LooksIn Reads
  looked_at =
      record {
        answers = λ dump numbers bytes i. record { answer = byte_of dump numbers bytes i; call = promised.can_look dump numbers bytes i };
        answers_in = λ words len numbers bytes i.
            record { answer = byte_of_message shape words len numbers bytes i; call = promised.can_look_in words len numbers bytes i };
        answers_read = λ words len i. record { answer = get_byte shape words len i; call = promised.can_read words len i };
        byte = λ {dump = dump} {numbers} {bytes} {i} c. nth_given (replaced dump (patches_of (edits_of numbers) bytes)) i (byte-given dump numbers bytes i (sym (promised.looks c)));
        as_spliced = λ {words = words} {left} {len} {numbers} {bytes} {change} call small {i} c r.
            promised.looks c ∙ list_done shape words len numbers bytes i (sym (family-promised.at_once small call)) small ∙ sym (promised.reads r);
        in_message = λ {words = words} {left} {len} {numbers} {bytes} {change} call small {i} c r.
            promised.looks_in c ∙ message_done shape words len numbers bytes i (sym (family-promised.at_once small call)) small ∙ sym (promised.reads r);
        refused_alike = λ {words = words} {left} {len} {numbers} {bytes} call small room {i} c.
            promised.looks_in c ∙ message_refused shape words len numbers bytes i (sym (family-promised.at_once small call)) room;
        one-edit = λ dump from to replacement i c l.
            promised.looks l ∙ one-edit dump from to replacement i ∙ ap (map_answer _) (sym (promised.finds c));
      }

  module _ {Lends : Lender} (lender-promised : PromisedLender Lends) where
    lent_by : {dump-at replacement_at : ℕ × ℕ} {dump replacement : List ℕ} {from to i : ℕ} {at : ℕ × ℕ} {part : List ℕ}
        → Lends dump-at replacement_at dump from to replacement i at part
        → {answer : Answer Run} → find (length dump) (edit_by from to replacement) i ≡ answer
        → (at ≡ stands_at dump-at replacement_at answer) × (part ≡ shown dump (patch_by from to replacement ∷ []) answer)
    unfolding part_lent
    lent_by {dump-at} {replacement_at} {dump} {replacement} {from} {to} l q = (
      ap (λ (o : (ℕ × ℕ) × List ℕ). o.0) (lender-promised.lends l) ∙ ap (stands_at dump-at replacement_at) q,
      ap (λ (o : (ℕ × ℕ) × List ℕ). o.1) (lender-promised.lends l) ∙ ap (shown dump (patch_by from to replacement ∷ [])) q,
    )

    pub lent_runs : LentRuns Finds Lends
    lent_runs =
        record {
          lends = lender-promised.can_lend;
          lent_there = λ {dump = dump} {replacement} {from} {to} {i} l c.
              let q = sym (promised.finds c) in
              ((lent_by l q).0, (lent_by l q).1 ∙ (run_of dump from to replacement i q).reads);
          some = λ {dump = dump} {replacement} {from} {to} {i} l {run} c.
              let q = sym (promised.finds c) in
              let r = run_of dump from to replacement i q in
              let made : List ℕ = spliced dump from to replacement in
              rw ((lent_by l q).1 ∙ r.reads) (omega (arith, length-take (run_length run) (drop i made), length-drop i made, r.some, r.fits));
          none = λ l c. (lent_by l (sym (promised.finds c))).1;
          goes = λ dump from to replacement s h.
              let made : List ℕ = spliced dump from to replacement in
              goes dump from to replacement lender-promised s h (length made) 0 (omega arith);
          whole = λ {dump = dump} {replacement} {from} {to} s h t. in_turn dump from to replacement lender-promised s h t;
        }
