-- The setters of a message: the check answers what is set, and all else as before. Assumes nothing.
use mathlib.Core.Path.{◌≡◌, refl, ◌∙◌}
use mathlib.Core.List.{List, [], ◌∷◌}
use Prim.Native.Nat.{ℕ, ◌/◌, ◌<◌}
use native.Mathlib.Omega.{arith}
use lib.ListN.{length, set}
use borrow.Author.Tests.{le-ltb, lt-leb}
use Rattle.refusal.specs.Answer.{pass}
use Rattle.ump.specs.Packet.{Shape, sysex8, group_at, id_at}
use Rattle.ump.specs.Check.{check, payload_of, summary, Valid}
use Rattle.ump.specs.Setters.{set_byte, set_group, set_id}
use Rattle.ump.specs.Setting.{Changed, SetterDone}
use Rattle.ump.proofs.Checks.{passes_valid, valid_passes}
use Rattle.ump.proofs.Message.{checked_valid}
use Rattle.ump.proofs.HeaderKept.{message_ends, message_inside, message_group, message_id, valid_after, checked_after}
use Rattle.ump.proofs.BytePlaces.{packet_ends, packet_of_below, holder_inside, byte_in_below}
use Rattle.ump.proofs.ByteStored.{store_length, store_behind, store_valid, store_checked, stored-payload}
use Rattle.ump.proofs.HeadersChanged.{group_set, id_set}

module _ (shape : Shape) (words after : List ℕ) (len : ℕ) (groups : ℕ → ℕ) (ids : ℕ → List ℕ) (valid : Valid shape words len)
    (changed : Changed shape words after (len / shape.words) groups ids)
    (one_group : (p : ℕ) → p < len / shape.words → groups p ≡ groups 0)
    (one_id : (p : ℕ) → p < len / shape.words → ids p ≡ ids 0) where
  changed_done : SetterDone shape words len (pass, after)
      (summary (groups 0) (ids 0) (length (payload_of shape words len)) len)
      (payload_of shape words len)
  changed_done =
      record {
        passes = refl;
        accepted =
            valid_passes shape after len
            (valid_after shape words after len groups ids valid changed.as_long changed.headed one_group one_id);
        answers =
            checked_after shape words after len groups ids valid changed.as_long changed.headed one_group one_id
            ∙ rw changed.payload-stays;
        carries = changed.payload-stays;
        as_long = changed.as_long;
        behind_stays = rw (message_ends shape words len valid) at changed.behind_stays;
      }

module _ (shape : Shape) (words : List ℕ) (len : ℕ) (accepted : check shape words len ≡ pass) where
  valid : Valid shape words len
  valid = passes_valid shape words len accepted

  -- after setting the group of a message: that group, and all else as before
  pub set_group_done : (group : ℕ) → group < 16
      → SetterDone shape words len (set_group shape words len group)
      (summary group (id_at shape words 0) (length (payload_of shape words len)) len)
      (payload_of shape words len)
  unfolding set_group
  set_group_done group fits =
      rw (accepted, le-ltb 15 group (omega arith))
      (changed_done shape words _ len (λ p. group) (id_at shape words) valid
      (group_set shape words (len / shape.words) group (message_inside shape words len valid) fits)
      (λ p h. refl)
      (message_id shape words len valid))

  -- after setting byte i of a message: that byte, and all else as before
  pub set_byte_done : (i value : ℕ) → i < length (payload_of shape words len) → value < shape.limit
      → SetterDone shape words len (set_byte shape words len i value)
      (summary (group_at shape words 0) (id_at shape words 0) (length (payload_of shape words len)) len)
      (set (payload_of shape words len) i value)
  unfolding set_byte
  set_byte_done i value inside fits =
      let n = len / shape.words in
      let whole = message_inside shape words len valid in
      let there = holder_inside shape words n i inside whole in
      let below = byte_in_below shape words n i inside whole in
      rw (accepted, lt-leb _ _ inside)
      (record {
        passes = refl;
        accepted = valid_passes shape _ len (store_valid shape words _ _ value there below fits len valid);
        answers = store_checked shape words _ _ value there below fits len valid ∙ checked_valid shape words len valid;
        carries = stored-payload shape words n i inside whole value fits;
        as_long = store_length shape words _ _ value there below fits;
        behind_stays =
            store_behind shape words _ _ value there below fits len
            (omega (arith, packet_ends shape _ n (packet_of_below shape words n i inside), message_ends shape words len valid));
      })

-- after setting the stream id of a message: that id, and all else as before
pub set_id_done : (words : List ℕ) (len id : ℕ) → check sysex8 words len ≡ pass → id < 256
    → SetterDone sysex8 words len (set_id words len id)
    (summary (group_at sysex8 words 0) (id ∷ []) (length (payload_of sysex8 words len)) len)
    (payload_of sysex8 words len)
unfolding set_id
set_id_done words len id accepted fits =
    let valid : Valid sysex8 words len = passes_valid sysex8 words len accepted in
    rw accepted
    (changed_done sysex8 words _ len (group_at sysex8 words) (λ p. id ∷ []) valid
    (id_set words (len / sysex8.words) id (message_inside sysex8 words len valid) fits)
    (message_group sysex8 words len valid)
    (λ p h. refl))
