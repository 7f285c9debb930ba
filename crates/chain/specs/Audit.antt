-- What an auditor asks of restoring, by whatever call: where each octet comes from, and that a delta's edits come to the same in any order.
-- Assumes nothing.
use Rattle.std.specs.Prelude.{Some, ◌≡◌, List, [], ℕ, suc, ◌+◌, ◌≤◌, ◌<◌, length, take}
use Rattle.refusal.specs.Answer.{gives}
use Rattle.ump.specs.Word.{Below}
use Rattle.ump.specs.Packet.{sysex8}
use Rattle.ump.specs.Packing.{words_for}
use Rattle.ump.specs.Check.{payload_of}
use Rattle.ump.specs.Edits.{Edit, Patch, all_bytes}
use Rattle.ump.specs.Origin.{dump_byte, is_from, how_many}
use Rattle.ump.specs.Worker.{Calls, finished, Works, Fits, bytes_of, start, Each}
use Rattle.ump.specs.Demand.{Demand3}
use Rattle.store.specs.Store.{delta, dumps_of, held}
use Rattle.chain.specs.Restore.{Payload, restored, unlimited}
use Rattle.chain.specs.Origin.{TracedDump}
use Rattle.chain.specs.Chained.{Restorer}

-- The dump held under n stands in the words left, in as many of them as it needs: each octet is what its origin says, and each byte of the
-- payload has exactly one octet of the message.
pub record Accounted (store : List ℕ) (n : ℕ) (words : List ℕ) (len : ℕ) (left : List ℕ) : Type 0 where
  pub payload : Payload
  pub is : restored unlimited (dumps_of store) (suc (length (dumps_of store))) n ≡ gives payload
  pub lent : length left ≡ length words
  pub needed : len ≡ words_for sysex8 (length payload.bytes)
  pub origins : TracedDump (dumps_of store) (suc (length (dumps_of store))) n payload left
  pub once : (i : ℕ) → i < length payload.bytes → how_many sysex8 (length payload.bytes) [] len (is_from (dump_byte i)) ≡ 1

-- A delta's edits are spliced into its base, which is the message of len words, and restoring the delta left a message of so many words:
-- the base and the edits are such as demand 3 asks for, so no call is refused, and every order finishes; and it comes to the same length
-- and the same words of the message. (What stands behind the message is not said here.)
pub record Alike (calls : Calls (List ℕ) Edit) (patches : List Patch) (base : List ℕ) (len : ℕ) (dump : List ℕ) (size : ℕ) : Type 0 where
  pub fits : Fits sysex8 base len patches
  pub demand3 : Demand3 sysex8 (λ words. words) (λ edit. edit) calls patches (start base len patches)
  pub same : (order : List ℕ) → Each patches order → {left : List ℕ} {new : ℕ}
      → Works calls (bytes_of patches) (start base len patches) order (finished left new)
      → (new ≡ size) × (take new left ≡ take size dump)

-- restoring by the outcomes that it allows, and the calls that edit a message
pub record AuditedDump (Restores : Restorer) (calls : Calls (List ℕ) Edit) : Type 0 where
  -- Where each octet of the words lent comes from after a dump is restored.
  pub traced : {store : List ℕ} {n : ℕ} {words : List ℕ} {len : ℕ} {left : List ℕ} → Restores store n words (gives len) left
      → Below 256 store
      → Accounted store n words len left
  -- A delta that is restored, and its base, each with words of its own: the delta's edits, one at least, spliced into the restored base,
  -- where there is room for it beside all replacement bytes, one after the other in any order and with any outcomes of the calls, come to
  -- what restoring the delta gives.
  pub in_any_order : {store : List ℕ} {n number base : ℕ} {patches : List Patch}
      → held (dumps_of store) n ≡ Some (delta number base patches)
      → {words left : List ℕ} {len : ℕ} → Restores store base words (gives len) left
      → {words-other left_other : List ℕ} {size : ℕ} → Restores store n words-other (gives size) left_other
      → Below 256 store → 0 < length patches → words_for sysex8 (length (payload_of sysex8 left len) + all_bytes patches) ≤ length words
      → Alike calls patches left len left_other size
