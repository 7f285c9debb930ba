-- What demand 3 says of a worker that begins with a message and edits of it, by whatever calls; and what an auditor asks of the calls that
-- edit a payload by ranges, and of the one that answers where an octet comes from.
-- Assumes nothing.
use Rattle.std.specs.Prelude.{◌≡◌, List, [], ◌∷◌, ℕ, ◌*◌, ◌%◌, ◌<◌, length, get_or, take}
use Rattle.refusal.specs.Answer.{Answer, gives, refused, pass}
use Rattle.ump.specs.Word.{octets, Below}
use Rattle.ump.specs.Packet.{Shape, group_at, id_at}
use Rattle.ump.specs.Packing.{words_for}
use Rattle.ump.specs.Check.{check, payload_of}
use Rattle.ump.specs.Splice.{Spliced}
use Rattle.ump.specs.Edits.{Edit, Patch, replaced, per_edit, edits_of, patches_of, lengths, Order}
use Rattle.ump.specs.Holds.{Fewest}
use Rattle.ump.specs.Worker.{Calls, Held, End, finished, stopped, Works, Finishes, Fits, bytes_of, start, Each, Placed, reached}
use Rattle.ump.specs.Origin.{Origin, origin_in, octet_from, Traced}

-- ---- demand 3

-- `words_of` reads the words off what is lent, `edit_of` the range and length off an edit as the worker keeps it
pub record Demand3 {Lent Record : Type 0} (shape : Shape) (words_of : Lent → List ℕ) (edit_of : Record → Edit) (calls : Calls Lent Record)
    (patches : List Patch) (held : Held Lent Record) : Type 0 where
  -- No call is refused: in no order, of all the edits or of some, does it stop at a refusal of a splice or of a move.
  pub no_refusal : (order : List ℕ) → Order (length patches) order → {number place : ℕ}
      → Works calls (bytes_of patches) held order (stopped number place) → ⊥
  -- In each order, of all the edits or of some, there is a worker that finishes.
  pub finishes : (order : List ℕ) → Order (length patches) order → Finishes calls (bytes_of patches) held order
  -- At each step each edit that is left stands at its old range, plus the signed growth of the lower-numbered ones already done.
  pub places : (order : List ℕ) → Order (length patches) order → {end : End Lent} → (w : Works calls (bytes_of patches) held order end)
      → Placed edit_of patches [] w
  -- The message at the end is the fewest-packet form of the payload with all ranges replaced at once.
  pub result : (order : List ℕ) → Each patches order → {left : Lent} {size : ℕ} → Works calls (bytes_of patches) held order (finished left size)
      → Fewest shape (group_at shape (words_of held.lent) 0) (id_at shape (words_of held.lent) 0)
      (replaced (payload_of shape (words_of held.lent) held.length) patches) (length (words_of held.lent)) (words_of left) size
  -- Each octet of the words lent comes from where its origin says.
  pub origins : (order : List ℕ) → Each patches order → {left : Lent} {size : ℕ} → (w : Works calls (bytes_of patches) held order (finished left size))
      → Traced shape (words_of held.lent) held.length patches (reached w) (words_of left) size

-- ---- the calls of an audit

-- by the outcomes that they allow: a splice and a move; packing; all edits of a list at once; where an octet comes from
pub record Family : Type 1 where
  pub calls : Calls (List ℕ) Edit
  pub Repacks : List ℕ → ℕ → Answer ℕ → List ℕ → Type 0
  pub SplicesAll : List ℕ → ℕ → List ℕ → List ℕ → Answer Spliced → List ℕ → Type 0
  pub Asks : List ℕ → ℕ → List ℕ → List ℕ → ℕ → Answer Origin → Type 0

-- a call that has an outcome which is accepted, and none that is refused
pub record Accepts {A B : Type 0} (Call : Answer A → B → Type 0) : Type 0 where
  pub value : A
  pub left : B
  pub call : Call (gives value) left
  pub no_refusal : {number place : ℕ} {left : B} → Call (refused number place) left → ⊥

-- numbers that are whole edits, and as many bytes as they replace
pub record WholeEdits (numbers bytes : List ℕ) : Type 0 where
  pub edits : length numbers % per_edit ≡ 0
  pub sum : length bytes ≡ lengths (edits_of numbers)

pub record Audited (shape : Shape) (family : Family) : Type 0 where
  -- Demand 3 holds of each message and edits that it allows.
  pub demand3 : {words : List ℕ} {len : ℕ} {patches : List Patch} → Fits shape words len patches
      → Demand3 shape (λ words. words) (λ edit. edit) family.calls patches (start words len patches)
  -- Two workers, each with words of its own, whose messages have one group, id and payload, each in an order of its own and with any
  -- outcomes of its calls, come to the same length and the same words of the message. (Words past the message may differ.)
  pub two_workers : {words other : List ℕ} {len len-other : ℕ} {patches : List Patch} → Fits shape words len patches → Fits shape other len-other patches
      → group_at shape words 0 ≡ group_at shape other 0 → id_at shape words 0 ≡ id_at shape other 0
      → payload_of shape words len ≡ payload_of shape other len-other
      → (order order_other : List ℕ) → Each patches order → Each patches order_other → {left left_other : List ℕ} {size size-other : ℕ}
      → Works family.calls (bytes_of patches) (start words len patches) order (finished left size)
      → Works family.calls (bytes_of patches) (start other len-other patches) order_other (finished left_other size-other)
      → (size ≡ size-other) × (take size left ≡ take size-other left_other)
  -- All edits at once give what any order gives: the same length and the same words of the message.
  pub any_order : {words : List ℕ} {len : ℕ} {numbers bytes : List ℕ} {change : Spliced} {left : List ℕ}
      → family.SplicesAll words len numbers bytes (gives change) left → Below shape.limit bytes
      → Fits shape words len (patches_of (edits_of numbers) bytes) → (order : List ℕ) → Each (patches_of (edits_of numbers) bytes) order
      → {left_other : List ℕ} {size : ℕ}
      → Works family.calls (bytes_of (patches_of (edits_of numbers) bytes)) (start words len (patches_of (edits_of numbers) bytes)) order (finished left_other size)
      → (change.length ≡ size) × (take change.length left ≡ take size left_other)
  -- Edits that demand 3 allows, lent as whole edits with their bytes, are accepted at once; and a message that passes the check is packed.
  pub at_once_accepted : {words : List ℕ} {len : ℕ} {numbers bytes : List ℕ} → WholeEdits numbers bytes → Below shape.limit bytes
      → Fits shape words len (patches_of (edits_of numbers) bytes) → Accepts (family.SplicesAll words len numbers bytes)
  pub repack_accepted : {words : List ℕ} {len : ℕ} → check shape words len ≡ pass → Accepts (family.Repacks words len)
  -- Where each octet of the words lent comes from after packing, which is a list of no edits;
  pub repack_traced : {words : List ℕ} {len new : ℕ} {left : List ℕ} → family.Repacks words len (gives new) left → Traced shape words len [] len left new
  -- after a splice, a list of one;
  pub splice_traced : {words : List ℕ} {len : ℕ} {edit : Edit} {bytes : List ℕ} {change : Spliced} {left : List ℕ}
      → family.calls.Splices words len edit bytes (gives change) left → Below shape.limit bytes
      → Traced shape words len (record { from = edit.from; to = edit.to; bytes = bytes } ∷ []) len left change.length
  -- and after all edits at once. (After a worker: demand3.)
  pub at_once_traced : {words : List ℕ} {len : ℕ} {numbers bytes : List ℕ} {change : Spliced} {left : List ℕ}
      → family.SplicesAll words len numbers bytes (gives change) left → Below shape.limit bytes
      → Traced shape words len (patches_of (edits_of numbers) bytes) len left change.length
  -- What is answered of an octet is its origin after all edits at once;
  pub told : {words : List ℕ} {len : ℕ} {numbers bytes : List ℕ} {q : ℕ} {o : Origin} → family.Asks words len numbers bytes q (gives o)
      → Below shape.limit bytes
      → o ≡ origin_in shape (length (payload_of shape words len)) (edits_of numbers)
      (words_for shape (length (replaced (payload_of shape words len) (patches_of (edits_of numbers) bytes)))) len q
  -- so it says what the octet is, anywhere in the words lent, where they were done at once;
  pub told_at_once : {words : List ℕ} {len : ℕ} {numbers bytes : List ℕ} {q : ℕ} {o : Origin} → family.Asks words len numbers bytes q (gives o)
      → Below shape.limit bytes → {change : Spliced} {left : List ℕ} → family.SplicesAll words len numbers bytes (gives change) left
      → get_or (octets left) q 0 ≡ octet_from shape words len (patches_of (edits_of numbers) bytes) q o
  -- and in the message that a worker leaves who does the same edits, in any order.
  pub told_of_worker : {words : List ℕ} {len : ℕ} {numbers bytes : List ℕ} {q : ℕ} {o : Origin} → family.Asks words len numbers bytes q (gives o)
      → Below shape.limit bytes → Fits shape words len (patches_of (edits_of numbers) bytes)
      → (order : List ℕ) → Each (patches_of (edits_of numbers) bytes) order → {left : List ℕ} {size : ℕ}
      → Works family.calls (bytes_of (patches_of (edits_of numbers) bytes)) (start words len (patches_of (edits_of numbers) bytes)) order (finished left size)
      → q < 4 * size → get_or (octets left) q 0 ≡ octet_from shape words len (patches_of (edits_of numbers) bytes) q o
  -- It is answered for each octet lent where all edits are done at once, and refused as they are where they are refused.
  pub asked_accepted : {words : List ℕ} {len : ℕ} {numbers bytes : List ℕ} {change : Spliced} {left : List ℕ}
      → family.SplicesAll words len numbers bytes (gives change) left → Below shape.limit bytes → {q : ℕ} → q < 4 * length words
      → Accepts (λ (answer : Answer Origin) (left : Unit {0}). family.Asks words len numbers bytes q answer)
  pub asked_refused : {words : List ℕ} {len : ℕ} {numbers bytes : List ℕ} {number place : ℕ} {left : List ℕ}
      → family.SplicesAll words len numbers bytes (refused number place) left → Below shape.limit bytes
      → {q : ℕ} {answer : Answer Origin} → family.Asks words len numbers bytes q answer → answer ≡ refused number place
