-- `splice::sysex8::splice_passed`: Range, Room, and the core. Assumes nothing.
use Rattle.std.proofs.Common.{◌≡◌, ◌∙◌, ℕ, ◌-◌, ◌≤◌, ◌^◌, length, w64, arith}
use lib.IntN.{ℤ, pos, ◌-ℤ◌}
use mir.Val.{SFits, to_z, of_z}
use mir.Facts.{to_z-of_z}
use Rattle.ump.specs.Limits.{most_bytes}
use Rattle.ump.proofs.Signed.{mag_sub}
use Rattle.splice.proofs.Messages.{inside, size_fits}
use Rattle.splice.proofs.Calls.{splice_reversed, splice_past, splice_room, splice_many, splice_done}
use Rattle.splice.proofs.sysex8.splice_passed.Goals as goal

pub returns-then-to-from : goal.returns-then-to-from
returns-then-to-from c = rw c.into.ensures (splice_reversed c.requires _ _ _ c.if-to-from.true)

pub returns-then-size-to : goal.returns-then-size-to
returns-then-size-to c = rw c.into-then-size-to.ensures (splice_past c.requires _ _ _ c.if-to-from.false c.if-size-to.true)

pub returns-then-replacement-gt-MOST_BYTES : goal.returns-then-replacement-gt-MOST_BYTES
returns-then-replacement-gt-MOST_BYTES c =
    rw c.into-then-replacement-gt-MOST_BYTES.ensures
    (splice_many c.requires _ _ _ c.if-to-from.false c.if-size-to.false c.if-replacement-gt-MOST_BYTES.true)

-- the payload of a message that passed is no more than any message holds
pub overflow_add-size : goal.overflow_add-size
overflow_add-size c = omega (arith, inside c.requires, size_fits c.requires)

pub returns-then-words-words_needed : goal.returns-then-words-words_needed
returns-then-words-words_needed c =
    rw c.into-then-words-words_needed.ensures
    (splice_room c.requires _ _ _ c.if-to-from.false c.if-size-to.false (rw c.words_needed.ensures at c.if-words-words_needed.true))

pub growth-requires : goal.growth-requires
growth-requires c =
    (omega (arith, c.if-replacement-gt-MOST_BYTES.false), omega (arith, inside c.requires, size_fits c.requires, c.if-size-to.false))

-- a growth is kept by a field of 64 bits
kept : {a b : ℕ} {g : ℤ} → g ≡ pos a -ℤ pos b → a ≤ most_bytes → b ≤ most_bytes → to_z w64 (of_z w64 g) ≡ g
kept {a} {b} {g} e ha hb =
    let fits : SFits w64 g = rw e (record { sfits = mag_sub a b (2 ^ 63) (omega arith) (omega arith) }) in
    to_z-of_z fits

pub returns : goal.returns
returns c =
    splice_done c.requires _ _ _ c.if-to-from.false c.if-size-to.false (rw c.words_needed.ensures at c.if-words-words_needed.false) c.splice.ensures.0
    (kept {a = length c.args.replacement.now} {b = c.args.to - c.args.from} c.growth.ensures
    (omega (arith, c.if-replacement-gt-MOST_BYTES.false)) (omega (arith, inside c.requires, size_fits c.requires, c.if-size-to.false))
    ∙ c.growth.ensures)
    c.splice.ensures.1
