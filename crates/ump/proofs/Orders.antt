-- Two orders of the same edits come to the same message, and to other words behind it: 01 says that those may differ.
-- Assumes nothing.
use mathlib.Core.Path.{◌≡◌, refl}
use mathlib.Core.Bool.{Bool, true, false, ◌||◌}
use mathlib.Core.List.{List, [], ◌∷◌}
use Prim.Native.Nat.{ℕ, ◌≤◌}
use lib.Dec.{eqb, ltb, lit<, lit≤}
use borrow.Author.Tests.{eqb-true}
use Rattle.refusal.specs.Answer.{gives}
use Rattle.ump.specs.Word.{octets, words_of, Below}
use Rattle.ump.specs.Packet.{sysex8, size_of, payload_at, joined, payload}
use Rattle.ump.specs.Packing.{status_for, frame, packs_at, packs, packets_for, pack}
use Rattle.ump.specs.Check.{first_where, bad_type, bad_status, bad_count, bad_group, bad_id, check_packets, check}
use Rattle.ump.specs.Splice.{Spliced, stored, rewritten, splice}
use Rattle.ump.specs.Edits.{Edit, patch_at, end_before, total, move_edit}
use Rattle.ump.specs.Worker.{Calls, Held, finished, Works, rests, goes_on}
use Rattle.ump.specs.Meets.{moved_edit, PlainAnswers}
use Rattle.ump.specs.Orders.{patches, BehindDiffers}
use Rattle.ump.proofs.First.{never}
use Rattle.ump.proofs.NotEmpty.{both}

-- two edits one after the other, by calls that have the outcomes of the definitions
in_turn : {calls : Calls (List ℕ) Edit} → PlainAnswers sysex8 calls → {bytes : ℕ → List ℕ} {held : Held (List ℕ) Edit} (i j : ℕ)
    → {change second : Spliced} {between left : List ℕ} {edit : Edit} → Below 256 (bytes i) → Below 256 (bytes j)
    → splice sysex8 held.lent held.length (held.edit i).from (held.edit i).to (bytes i) ≡ (gives change, between)
    → moved_edit (held.edit i) (held.edit j) (ltb i j) ≡ gives edit
    → splice sysex8 between change.length edit.from edit.to (bytes j) ≡ (gives second, left)
    → Works calls bytes held (i ∷ j ∷ []) (finished left second.length)
in_turn {calls} answers {held = held} i j {edit = edit} b c e m f =
    goes_on (answers.can_splice b e) (λ k t. go k (eqb k j) refl t) (goes_on {edit = λ k. edit} (answers.can_splice c f) (λ k t. never t) rests)
  where
    go : (k : ℕ) (b : Bool) → eqb k j ≡ b → (b || false) ≡ true → calls.Moves (held.edit i) (held.edit k) (ltb i k) (gives edit)
    go k true q t = rw (eqb-true k j q) (answers.can_move m)
    go k false q t = never t

-- It is so by any calls that have the outcomes of the definitions.
pub behind_differs : {calls : Calls (List ℕ) Edit} → PlainAnswers sysex8 calls → BehindDiffers calls
unfolding splice move_edit rewritten stored check check_packets bad_type bad_status bad_count bad_group bad_id first_where payload payload_at size_of octets pack packs packs_at packets_for status_for frame joined words_of total
behind_differs answers =
    record {
      fits = record {
        passes = refl;
        apart = record {
          after = both (λ i. end_before patches i ≤ (patch_at patches i).from) (lit≤ tt) (lit≤ tt);
          forward = both (λ i. (patch_at patches i).from ≤ (patch_at patches i).to) (lit≤ tt) (lit≤ tt);
          inside = lit≤ tt;
        };
        bytes = both (λ i. Below 256 (patch_at patches i).bytes) (lit< tt, tt) tt;
        room = lit≤ tt;
        some = lit< tt;
      };
      grown_first = in_turn answers 0 1 (lit< tt, tt) tt refl refl refl;
      shrunk_first = in_turn answers 1 0 tt (lit< tt, tt) refl refl refl;
    }
