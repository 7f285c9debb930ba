-- Demand 3 over a shape and over any two calls that meet the definitions: whoever does edits one after the other, in any order and
-- with any outcome that the calls allow, meets no refusal and comes to one message. Assumes nothing.
use mathlib.Core.Path.{◌≡◌, refl, sym, ap, ◌∙◌}
use mathlib.Core.List.{List, [], ◌∷◌}
use Prim.Native.Nat.{ℕ, ◌≤◌}
use native.Mathlib.Omega.{arith}
use lib.ListN.{length, take}
use Rattle.refusal.specs.Answer.{pass}
use Rattle.ump.specs.Word.{Below}
use Rattle.ump.specs.Packet.{Shape, group_at, id_at}
use Rattle.ump.specs.Packing.{words_for, pack}
use Rattle.ump.specs.Limits.{most_bytes, Dense}
use Rattle.ump.specs.Check.{check, payload_of}
use Rattle.ump.specs.Splice.{rewritten}
use Rattle.ump.specs.Edits.{Patch, patch_at, edit_at, replaced, Order}
use Rattle.ump.specs.Holds.{Holds, Fewest, BehindMessage}
use Rattle.ump.specs.Worker.{Calls, Held, End, finished, stopped, Works, rests, Finishes, Fits, bytes_of, Each, Placed, reached}
use Rattle.ump.specs.Meets.{View, Meets, HasOutcomes, most_on_the_way, WorkerBegins}
use Rattle.ump.specs.Partly.{edit_now}
use Rattle.ump.proofs.Limits.{dense_fits}
use Rattle.ump.proofs.Checks.{passes_valid}
use Rattle.ump.proofs.Replace.{mixed_none, mixed_order, after}
use Rattle.ump.proofs.Splicing.{rewritten_holds, rewritten_fewest}
use Rattle.ump.proofs.Moving.{none-moved}
use Rattle.ump.proofs.Steps.{order_below, Ends, At, Has, works, placed, behind, goes}

-- no more bytes than the limit are on the way
pub never_more_bytes : {shape : Shape} → Dense shape → {words : List ℕ} {len : ℕ} {patches : List Patch} → Fits shape words len patches → most_on_the_way shape words len patches ≤ most_bytes
never_more_bytes {shape} dense {words} {len} fits = dense_fits shape dense _ (length words) fits.room (passes_valid shape words len fits.passes).short_enough

-- two messages that are the fewest-packet form of the same bytes, with one group and id: the same length and the same words. (Words
-- past the message may differ.)
pub same_message : {shape : Shape} {group group-other : ℕ} {id id_other bytes bytes-other : List ℕ} {lent lent_other len len-other : ℕ} {words other : List ℕ}
    → group ≡ group-other → id ≡ id_other → bytes ≡ bytes-other
    → Fewest shape group id bytes lent words len → Fewest shape group-other id_other bytes-other lent_other other len-other
    → (len ≡ len-other) × (take len words ≡ take len-other other)
same_message {shape} {group-other = group-other} {id = id} {id_other = id_other} {bytes = bytes} groups ids payloads one other = (
  one.length_is ∙ ap (λ (x : List ℕ). words_for shape (length x)) payloads ∙ sym other.length_is,
  one.packed
      ∙ ap (λ (x : ℕ). pack shape x id bytes) groups
      ∙ ap (λ (x : List ℕ). pack shape group-other x bytes) ids
      ∙ ap (pack shape group-other id_other) payloads
      ∙ sym other.packed,
)

-- a valid message rewritten with other bytes, where there is room, is their fewest-packet form
pub rewritten_is_fewest : (shape : Shape) (words : List ℕ) (len : ℕ) (new : List ℕ) → check shape words len ≡ pass → Below shape.limit new
    → words_for shape (length new) ≤ length words
    → Fewest shape (group_at shape words 0) (id_at shape words 0) new (length words) (rewritten shape words len new) (words_for shape (length new))
rewritten_is_fewest shape words len new ok small room =
    let h : Holds shape (group_at shape words 0) (id_at shape words 0) (payload_of shape words len) (length words) words len =
    record { valid = passes_valid shape words len ok; group_is = refl; id_is = refl; carries = refl; buffer = refl }
    in
    record {
      length_is = refl;
      packed = rewritten_fewest shape _ _ _ (length words) words len h new small room;
      holds = rewritten_holds shape _ _ _ (length words) words len h new small room;
    }

module _ {Lent Record : Type 0} {shape : Shape} (dense : Dense shape) {view : View Lent Record} {calls : Calls Lent Record} {patches : List Patch} {held : Held Lent Record}
    (fits : Fits shape (view.words_of held.lent) held.length patches)
    (meets : Meets shape (most_on_the_way shape (view.words_of held.lent) held.length patches) view calls)
    (begins : WorkerBegins shape view patches held) where
  abbrev words : List ℕ
  words = view.words_of held.lent

  abbrev group : ℕ
  group = group_at shape words 0

  abbrev id : List ℕ
  id = id_at shape words 0

  abbrev payload : List ℕ
  payload = payload_of shape words held.length

  small : most_on_the_way shape words held.length patches ≤ most_bytes
  small = never_more_bytes dense fits

  abbrev HasNow : List ℕ → Lent → ℕ → Type 0
  HasNow = Has shape view calls group id payload (length words) patches fits.apart fits.bytes fits.room small meets

  at_first : (order : List ℕ) → Order (length patches) order
      → At shape view calls group id payload (length words) patches fits.apart fits.bytes fits.room small meets [] order held
  at_first order o =
      record {
        holds = record {
          valid = passes_valid shape words held.length fits.passes;
          group_is = refl;
          id_is = refl;
          carries = sym (mixed_none payload patches fits.apart);
          buffer = refl;
        };
        beside = begins.beside;
        edits = λ k e. begins.edits k (order_below (length patches) k order o e) ∙ none k;
        cut = λ k e. rw (mixed_none payload patches fits.apart) (begins.cut k (order_below (length patches) k order o e));
        each = o;
        left = λ k e. refl;
      }
    where
      none : (k : ℕ) → edit_at patches k ≡ edit_now patches [] k
      none k = rw (← (none-moved patches k (patch_at patches k).from), ← (none-moved patches k (patch_at patches k).to))

  ends : (i : ℕ) (order : List ℕ) → Order (length patches) (i ∷ order) → (end : End Lent) → Works calls (bytes_of patches) held (i ∷ order) end
      → Ends (HasNow (after [] (i ∷ order))) end
  ends i order o end w =
      works shape view calls group id payload (length words) patches fits.apart fits.bytes fits.room small meets order i [] held end (at_first (i ∷ order) o) w

  -- 1. No call is refused: in no order, of all the edits or of some, does a worker stop at a refusal of a splice or of a move.
  pub no_refusal : (order : List ℕ) → Order (length patches) order → {number place : ℕ} → Works calls (bytes_of patches) held order (stopped number place) → ⊥
  no_refusal [] o {number = number} {place = place} w = elim w [ ]
  no_refusal (i ∷ order) o w = ends i order o _ w

  has : (order : List ℕ) → Each patches order → {left : Lent} {len : ℕ} → Works calls (bytes_of patches) held order (finished left len)
      → HasNow (after [] order) left len
  has [] (o, l) w = absurd (omega (arith, fits.some))
  has (i ∷ order) (o, l) {left} {len} w = ends i order o (finished left len) w

  -- 2. The message at the end is the fewest-packet form of the payload with all ranges replaced at once.
  pub result : (order : List ℕ) → Each patches order → {left : Lent} {len : ℕ} → Works calls (bytes_of patches) held order (finished left len)
      → Fewest shape (group_at shape words 0) (id_at shape words 0) (replaced (payload_of shape words held.length) patches) (length words) (view.words_of left) len
  result order each w = rw (mixed_order payload patches fits.apart order each.0 each.1) at (has order each w).fewest

  -- What stands beside the words is right at the end, also where some of the edits alone are done.
  pub result_beside : (order : List ℕ) → Order (length patches) order → {left : Lent} {len : ℕ} → Works calls (bytes_of patches) held order (finished left len)
      → view.Beside left len
  result_beside [] o rests = begins.beside
  result_beside (i ∷ order) o {left} {len} w = (ends i order o (finished left len) w).beside

  -- 3. In each order, of all the edits or of some, there is a worker that finishes, if the calls have an outcome where the definitions give one.
  pub finishes : HasOutcomes shape (most_on_the_way shape words held.length patches) view calls → (order : List ℕ) → Order (length patches) order
      → Finishes calls (bytes_of patches) held order
  finishes answers order o =
      goes shape view calls group id payload (length words) patches fits.apart fits.bytes fits.room small meets answers order [] held (at_first order o)

  -- 4. At each step each edit that is left stands at its old range, plus the signed growth of the lower-numbered ones already done.
  pub places : (order : List ℕ) → Order (length patches) order → {end : End Lent} → (w : Works calls (bytes_of patches) held order end)
      → Placed view.edit_of patches [] w
  places order o {end} w =
      placed shape view calls group id payload (length words) patches fits.apart fits.bytes fits.room small meets order [] held end (at_first order o) w

  -- 5. Behind the message each word is zero where one stood on the way, else it is as it was.
  pub words_behind : (order : List ℕ) → Order (length patches) order → {left : Lent} {size : ℕ} → (w : Works calls (bytes_of patches) held order (finished left size))
      → BehindMessage words (reached w) (view.words_of left) size
  words_behind order o {left} {size} w =
      behind shape view calls group id payload (length words) patches fits.apart fits.bytes fits.room small meets order [] held (finished left size) (at_first order o) w
