-- All ranges of a list replaced: from the message that passed the check to the one that is written. Assumes nothing.
use mathlib.Core.Path.{◌≡◌, refl, sym, ap, ◌∙◌}
use mathlib.Core.Bool.{true, false}
use mathlib.Core.List.{List}
use Prim.Native.Nat.{ℕ, ◌/◌, ◌^◌, ◌≤◌, ◌<◌}
use native.Mathlib.Omega.{arith}
use lib.ListN.{length, get_or}
use Rattle.ump.specs.Word.{Below}
use Rattle.ump.specs.Packet.{sysex8, group_at, id_at}
use Rattle.ump.specs.Packing.{packets_for, words_for, pack}
use Rattle.ump.specs.Check.{payload_of}
use Rattle.ump.specs.Splice.{rewritten}
use Rattle.ump.specs.Edits.{edits_of, patches_of, replaced}
use Rattle.ump.proofs.Splicing.{below_payload}
use Rattle.splice.specs.Accepted.{Filled}
use Rattle.flow.specs.Heads.{inner_head}
use Rattle.splice.specs.Header.{base_of, leveled, finished}
use Rattle.splice.specs.Merging.{Listed, Lists, BeginsAll, EndsAll}
use Rattle.splice.proofs.Messages.{inside, end_fits, base_is}
use Rattle.splice.proofs.Finished.{finished_is}
use Rattle.splice.proofs.Heading.{leveled_stands, leveled-stored, leveled_long}
use Rattle.merge.proofs.Turning.{below_merged}
use Rattle.splice.proofs.Passing.{all_merged}

module _ {w us : List ℕ} {len size total filled : ℕ} {numbers bytes : List ℕ} (l : Listed w len size total numbers bytes) (f : Filled w len size us filled)
    (small : (k : ℕ) → get_or us k 0 < 2 ^ 32) (base : ℕ) (shared : base ≡ base_of (get_or us 0 0)) where
  abbrev source : List ℕ
  source = payload_of sysex8 us filled

  abbrev head : ℕ
  head = inner_head sysex8 base

  abbrev level : List ℕ
  level = leveled head us filled

  long : length level ≡ length w
  long = leveled_long head us filled ∙ f.long

  pub base_small : base ≤ 4278255360
  base_small = omega arith

  lists : Lists level head size total numbers bytes source
  lists =
      record {
        sized = f.passed.sized;
        stands = leveled_stands f.passed f.full small base shared;
        below = below_payload sysex8 us (filled / 4);
        apart = l.apart;
        given = l.given;
        result = l.sized ∙ ap (λ (p : List ℕ). length (replaced p (patches_of (edits_of numbers) bytes))) (sym f.carries);
        held = omega (arith, end_fits f.passed, inside f.passed, long, f.long);
        needed = omega (arith, l.room, long);
        small = omega (arith, inside f.passed, long, f.long);
        free = omega (arith, base_small);
        plain = omega arith;
      }

  pub replace_begins : BeginsAll (leveled (inner_head sysex8 base) us filled) (inner_head sysex8 base) size total numbers bytes
  replace_begins = record { source = source; lists = lists }

  pub replace_ends : {vs : List ℕ} {end : ℕ} → Below 256 bytes → end ≡ words_for sysex8 total → EndsAll (leveled (inner_head sysex8 base) us filled) (inner_head sysex8 base) size total numbers bytes vs
      → finished base total vs end filled ≡ rewritten sysex8 w len (replaced (payload_of sysex8 w len) (patches_of (edits_of numbers) bytes))
  unfolding rewritten
  replace_ends {vs} {end} below ends done =
      let new = replaced source (patches_of (edits_of numbers) bytes) in
      let e : packets_for sysex8 total ≡ end / 4 = omega arith in
      let message = pack sysex8 (group_at sysex8 us 0) (id_at sysex8 us 0) new in
      let few : Below 256 new = rw (← all_merged lists) (below_merged 256 false true 0 (edits_of numbers) source bytes lists.below below) in
      finished_is level new (group_at sysex8 us 0) (id_at sysex8 us 0) base total end lists.result few refl (shared ∙ base_is f.passed) ends (omega (arith, l.room, long)) vs (rw e at (done source lists)) filled
      ∙ leveled-stored f.passed f.full small base shared message
      ∙ f.again new
      ∙ ap (λ (p : List ℕ). rewritten sysex8 w len (replaced p (patches_of (edits_of numbers) bytes))) f.carries
