-- Demand 3 over a shape and over any two calls that meet the definitions, as one statement; its uses by calls on words alone.
-- Assumes nothing.
use mathlib.Core.Path.{◌≡◌, refl, sym, ap, ◌∙◌}
use mathlib.Core.List.{List}
use Prim.Native.Nat.{ℕ}
use lib.ListN.{take}
use Rattle.refusal.specs.Answer.{Answer}
use Rattle.ump.specs.Packet.{Shape, sysex7, group_at, id_at}
use Rattle.ump.specs.Check.{payload_of}
use Rattle.ump.specs.Splice.{Spliced}
use Rattle.ump.specs.Edits.{Edit, Patch, replaced}
use Rattle.ump.specs.Worker.{Calls, Held, Works, finished, Fits, bytes_of, start, Each, reached}
use Rattle.ump.specs.Demand.{Demand3}
use Rattle.ump.specs.Meets.{View, plain_view, Meets, HasOutcomes, most_on_the_way, WorkerBegins, PlainMeets, PlainAnswers, defined}
use Rattle.ump.specs.Limits.{Dense}
use Rattle.ump.proofs.Limits.{dense7}
use Rattle.ump.proofs.Demand.{same_message, no_refusal, result, finishes, places, words_behind}
use Rattle.ump.proofs.Origins.{traced}

pub demand3 : {Lent Record : Type 0} {shape : Shape} → Dense shape → {view : View Lent Record} {calls : Calls Lent Record} {patches : List Patch} {held : Held Lent Record}
    → Fits shape (view.words_of held.lent) held.length patches
    → Meets shape (most_on_the_way shape (view.words_of held.lent) held.length patches) view calls
    → HasOutcomes shape (most_on_the_way shape (view.words_of held.lent) held.length patches) view calls
    → WorkerBegins shape view patches held → Demand3 shape view.words_of view.edit_of calls patches held
demand3 {shape = shape} dense {view} {patches = patches} {held = held} fits meets answers begins =
    record {
      no_refusal = no_refusal dense fits meets begins;
      finishes = finishes dense fits meets begins answers;
      places = places dense fits meets begins;
      result = result dense fits meets begins;
      origins = λ order each {left} {size} w.
          traced shape (view.words_of held.lent) held.length patches (reached w) (view.words_of left) size
          (result dense fits meets begins order each w) fits.apart (words_behind dense fits meets begins order each.0 w);
    }

-- Two workers, by the same calls or by others, each with words of its own, whose messages have one group, id and payload, each in an
-- order of its own and with any outcomes of its calls: the same length and the same words of the message. (Words past it may differ.)
pub two_workers : {Lent Record Lent' Record' : Type 0} {shape : Shape} {words_of : Lent → List ℕ} {words_of' : Lent' → List ℕ}
    {edit_of : Record → Edit} {edit_of' : Record' → Edit} {calls : Calls Lent Record} {calls' : Calls Lent' Record'} {patches : List Patch}
    {held : Held Lent Record} {held' : Held Lent' Record'}
    → Demand3 shape words_of edit_of calls patches held → Demand3 shape words_of' edit_of' calls' patches held'
    → group_at shape (words_of held.lent) 0 ≡ group_at shape (words_of' held'.lent) 0
    → id_at shape (words_of held.lent) 0 ≡ id_at shape (words_of' held'.lent) 0
    → payload_of shape (words_of held.lent) held.length ≡ payload_of shape (words_of' held'.lent) held'.length
    → {order order' : List ℕ} → Each patches order → Each patches order' → {left : Lent} {left' : Lent'} {size size' : ℕ}
    → Works calls (bytes_of patches) held order (finished left size) → Works calls' (bytes_of patches) held' order' (finished left' size')
    → (size ≡ size') × (take size (words_of left) ≡ take size' (words_of' left'))
two_workers {patches = patches} one other groups ids payloads {order} {order'} each each' works works' =
    same_message groups ids (ap (λ (x : List ℕ). replaced x patches) payloads) (one.result order each works) (other.result order' each' works')

-- ---- calls on words alone, with edits that know no size

pub plain_demand3 : {shape : Shape} → Dense shape → {calls : Calls (List ℕ) Edit} → PlainMeets shape calls → PlainAnswers shape calls
    → {words : List ℕ} {len : ℕ} {patches : List Patch} → Fits shape words len patches
    → Demand3 shape (λ words. words) (λ edit. edit) calls patches (start words len patches)
plain_demand3 {shape} dense {calls} meets answers fits = demand3 dense {view = plain_view} fits met answered (record { beside = tt; edits = λ k h. refl; cut = λ k h. tt })
  where
    met : {most : ℕ} → Meets shape most plain_view calls
    met =
        record {
          splices = λ b c r e call. record {
            answer_is = ap (λ (o : Answer Spliced × List ℕ). o.0) (meets.splices r.small e call);
            words_are = ap (λ (o : Answer Spliced × List ℕ). o.1) (meets.splices r.small e call);
            beside = tt;
          };
          moves = λ c d i j m n e call. record { moved = _; answer_is = meets.moves e call; edit_is = refl; cut = tt };
        }

    answered : {most : ℕ} → HasOutcomes shape most plain_view calls
    answered =
        record {
          can_splice = λ b c r e. record { left = _; call = answers.can_splice r.small e };
          can_move = λ c d i j m n e. record { edit = _; call = answers.can_move e };
        }

-- ---- calls that promise just the definitions, for any shape

pub defined_demand3 : {shape : Shape} → Dense shape → {words : List ℕ} {len : ℕ} {patches : List Patch} → Fits shape words len patches
    → Demand3 shape (λ words. words) (λ edit. edit) (defined shape) patches (start words len patches)
defined_demand3 dense =
    plain_demand3 dense (record { splices = λ b e call. call ∙ e; moves = λ e call. call ∙ e }) (record { can_splice = λ b e. sym e; can_move = λ e. sym e })

-- SysEx7 is a use as it stands
pub sysex7_demand3 : {words : List ℕ} {len : ℕ} {patches : List Patch} → Fits sysex7 words len patches
    → Demand3 sysex7 (λ words. words) (λ edit. edit) (defined sysex7) patches (start words len patches)
sysex7_demand3 = defined_demand3 dense7
