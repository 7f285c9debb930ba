-- `edit::all::splice_checked`: the checks of the list, Room, and all edits. Assumes nothing.
use Rattle.std.proofs.Common.{ℕ, ◌≤◌, List, length, sym, ap, ◌∙◌, arith}
use native.Mathlib.Nat.{sub-zero}
use lib.IntN.{pos, ◌-ℤ◌}
use Rattle.std.proofs.lemmas.Result.{err_from_is_err_and}
use Rattle.ump.specs.Packet.{sysex8}
use Rattle.ump.specs.Packing.{words_for}
use Rattle.ump.proofs.Sizes.{packets_enough}
use Rattle.message.specs.Accepted.{Accepted}
use Rattle.splice.proofs.Messages.{inside, size_fits}
use Rattle.edit.specs.Growth.{Sound}
use Rattle.edit.proofs.Laws.{growth_held}
use Rattle.edit.proofs.Lists.{listed_fault}
use Rattle.edit.proofs.AtOnceCases.{all_listed, all_room, can_replace, all_done}
use Rattle.edit.proofs.all.splice_checked.Goals as goal

-- the growth of the whole: a payload that passed the check is no larger than any message holds, nor is one that there is room for
sound : {words : List ℕ} {len size total : ℕ} → Accepted words len size → words_for sysex8 total ≤ length words
    → Sound (record { from = 0; to = size; length = total })
sound {total = total} ok room =
    record {
      forward = omega arith;
      end = omega (arith, inside ok, size_fits ok);
      size = omega (arith, room, packets_enough sysex8 total, inside ok);
    }

pub returns-in_err-edits : goal.returns-in_err-edits
returns-in_err-edits c =
    let p = err_from_is_err_and c.from_residual.result c.from_residual.ensures.1 in
    rw (p.1, p.2) (all_listed _ _ _ _ c.requires (sym (listed_fault _ _ _ c.in_err-edits.ensures.err)))

pub total-total-requires : goal.total-total-requires
total-total-requires c = let e = c.in_ok-edits.ensures.ok in omega (arith, e.1, inside c.requires, size_fits c.requires)

pub returns-then-words-needed : goal.returns-then-words-needed
returns-then-words-needed c =
    let e = c.in_ok-edits.ensures.ok in
    rw c.into.ensures
    (all_room _ _ _ _ c.requires (sym (rw (e.0, e.1.0, e.1.1) at c.total-total.ensures)) (rw c.words_needed-needed.ensures at c.if-words-needed.true))

pub replace_all-requires : goal.replace_all-requires
replace_all-requires c =
    let e = c.in_ok-edits.ensures.ok in
    can_replace _ _ _ _ c.requires (sym (rw (e.0, e.1.0, e.1.1) at c.total-total.ensures)) (rw c.words_needed-needed.ensures at c.if-words-needed.false)

pub growth_of-requires : goal.growth_of-requires
growth_of-requires c = sound c.requires (rw c.words_needed-needed.ensures at c.if-words-needed.false)

pub returns : goal.returns
returns c =
    let e = c.in_ok-edits.ensures.ok in
    let room : words_for sysex8 c.total-total.result ≤ length c.args.words.now =
    rw c.words_needed-needed.ensures at c.if-words-needed.false in
    all_done _ _ _ _ c.requires (sym (rw (e.0, e.1.0, e.1.1) at c.total-total.ensures)) room c.words_needed-needed.ensures
    (growth_held _ (sound c.requires room) c.growth_of.ensures
    ∙ ap (λ (m : ℕ). pos c.total-total.result -ℤ pos m) (sub-zero c.args.size))
    c.replace_all.ensures
