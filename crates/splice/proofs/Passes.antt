-- The passes over the words that do all edits of a list: one, or two. Assumes nothing.
use mathlib.Core.Path.{◌≡◌, sym, ◌∙◌}
use mathlib.Core.Bool.{Bool, true, false}
use mathlib.Core.List.{List}
use Prim.Native.Nat.{ℕ, ◌+◌, ◌-◌, ◌*◌, ◌≤◌}
use native.Mathlib.Omega.{arith}
use lib.ListN.{length}
use Rattle.ump.specs.Word.{Below}
use Rattle.ump.specs.Packet.{sysex8}
use Rattle.ump.specs.Packing.{packets_for, words_for}
use Rattle.ump.specs.Edits.{edits_of, patches_of, replaced}
use Rattle.ump.proofs.Sizes.{packets_mono}
use Rattle.flow.specs.Flowing.{Poured}
use Rattle.merge.specs.Pass.{merged, begin_of, Turns, Merges}
use Rattle.splice.specs.Merging.{Within, less_after, Lists}
use Rattle.merge.proofs.Turning.{below_merged}
use Rattle.splice.proofs.Passing.{all_merged, two-merged, turns_all, turns_shrink, turns_grow, length_less, less_size, less_total}
use Rattle.splice.proofs.Standing.{poured_stands}

module _ {words : List ℕ} {head size total : ℕ} {numbers bytes source : List ℕ} (l : Lists words head size total numbers bytes source) where
  merges : (shrunk grow : Bool) (next : ℕ) → let b = begin_of numbers size in
      Turns shrunk grow size (packets_for sysex8 next - packets_for sysex8 size) next (length bytes) b b b 0 (edits_of numbers) → words_for sysex8 next ≤ length words
      → Merges words head size next numbers bytes shrunk grow source
  merges shrunk grow next turns needed = record {
    sized = l.sized;
    stands = l.stands;
    below = l.below;
    turns = turns;
    held = l.held;
    needed = needed;
    small = l.small;
    free = l.free;
    plain = l.plain;
  }

  -- one pass
  pub merges_all : Within (13 * (packets_for sysex8 total - packets_for sysex8 size) + 12) 0 0 (edits_of numbers) → Merges words head size total numbers bytes false true source
  merges_all w = merges false true total (turns_all l w) l.needed

  pub ends_all : {us : List ℕ} → Poured sysex8 words (merged false true 0 (edits_of numbers) source bytes) head (packets_for sysex8 total) us
      → Poured sysex8 words (replaced source (patches_of (edits_of numbers) bytes)) head (packets_for sysex8 total) us
  ends_all p = rw (all_merged l) at p

  module _ {less : ℕ} (is : less ≡ less_after size (edits_of numbers)) where
    smaller : packets_for sysex8 less ≤ packets_for sysex8 size
    smaller = packets_mono sysex8 less size (rw is (less_size l))

    -- the first of two
    pub merges_shrink : Merges words head size less numbers bytes false false source
    merges_shrink = merges false false less (rw is (turns_shrink l)) (omega (arith, l.held, smaller))

    -- and the second
    module _ {us : List ℕ} (p : Poured sysex8 words (merged false false 0 (edits_of numbers) source bytes) head (packets_for sysex8 less) us) where
      pub merges_grow : Below 256 bytes → Merges us head less total numbers bytes true true (merged false false 0 (edits_of numbers) source bytes)
      merges_grow below =
          let new = below_merged 256 false false 0 (edits_of numbers) source bytes l.below below in
          let sized : less ≡ length (merged false false 0 (edits_of numbers) source bytes) = is ∙ sym (length_less l) in
          record {
            sized = sized;
            stands = poured_stands (rw sized at p) l.plain new;
            below = new;
            turns = rw is (turns_grow l);
            held = omega (arith, p.long, l.held, smaller);
            needed = omega (arith, p.long, l.needed);
            small = omega (arith, p.long, l.small);
            free = l.free;
            plain = l.plain;
          }

      pub ends_grow : {vs : List ℕ} → Poured sysex8 us (merged true true 0 (edits_of numbers) (merged false false 0 (edits_of numbers) source bytes) bytes) head (packets_for sysex8 total) vs
          → Poured sysex8 words (replaced source (patches_of (edits_of numbers) bytes)) head (packets_for sysex8 total) vs
      ends_grow q =
          rw (← (two-merged l))
          (record {
            long = q.long ∙ p.long;
            done = q.done;
            rest = λ k h. q.rest k h ∙ p.rest k (omega (arith, packets_mono sysex8 less total (rw is (less_total l))));
          })
