-- `edit::origins::origin_checked`: the checks of the list, Room, and each part of the words lent. Assumes nothing.
use Rattle.std.proofs.Common.{◌≡◌, ℕ, ◌≤◌, List, length, sym, ap, ◌∙◌, arith}
use Rattle.std.proofs.lemmas.Result.{err_from_is_err_and}
use Rattle.refusal.specs.Answer.{gives, pass}
use Rattle.ump.specs.Packet.{sysex8}
use Rattle.ump.specs.Packing.{words_for}
use Rattle.ump.specs.Check.{payload_of}
use Rattle.ump.specs.Edits.{edits_of, patches_of, replaced, all_checks}
use Rattle.ump.proofs.Asking.{asked_refused}
use Rattle.message.specs.Accepted.{Accepted}
use Rattle.splice.proofs.Messages.{inside, size_fits}
use Rattle.edit.specs.Listed.{listed}
use Rattle.edit.proofs.Lists.{listed_fault}
use Rattle.edit.proofs.AtOnceCases.{checks_listed, checks_room, checks_pass, new_sized}
use Rattle.edit.proofs.Walking.{origin_behind, origin_message, origin_zeroed, origin_untouched}
use Rattle.edit.proofs.origins.origin_checked.Goals as goal

module _ {words : List ℕ} {len size : ℕ} (numbers bytes : List ℕ) {total needed : ℕ}
    (ok : Accepted words len size) (given : listed size (length bytes) numbers ≡ gives total) (is : needed ≡ words_for sysex8 total) where
  -- the list passed
  passes : needed ≤ length words → all_checks sysex8 words len numbers bytes ≡ pass
  passes room = checks_pass _ _ numbers bytes ok given (rw is at room)

  words_are : needed ≡ words_for sysex8 (length (replaced (payload_of sysex8 words len) (patches_of (edits_of numbers) bytes)))
  words_are = is ∙ sym (ap (words_for sysex8) (new_sized _ _ _ _ ok given))

pub returns-in_err-edits : goal.returns-in_err-edits
returns-in_err-edits c =
    let p = err_from_is_err_and c.from_residual.result c.from_residual.ensures.1 in
    rw (p.1, p.2)
    (asked_refused _ _ _ _ _ _
    (checks_listed _ _ c.args.numbers.now c.args.bytes.now c.requires (sym (listed_fault _ _ _ c.in_err-edits.ensures.err))))

pub total-requires : goal.total-requires
total-requires c = let e = c.in_ok-edits.ensures.ok in omega (arith, e.1, inside c.requires, size_fits c.requires)

pub returns-then-words-needed : goal.returns-then-words-needed
returns-then-words-needed c =
    let e = c.in_ok-edits.ensures.ok in
    rw c.into.ensures
    (asked_refused _ _ _ _ _ _
    (checks_room _ _ c.args.numbers.now c.args.bytes.now c.requires (sym (rw (e.0, e.1.0, e.1.1) at c.total.ensures))
    (rw c.words_needed-needed.ensures at c.if-words-needed.true)))

pub returns-then-word-words : goal.returns-then-word-words
returns-then-word-words c =
    let e = c.in_ok-edits.ensures.ok in
    rw c.into-then-word-words.ensures
    (origin_behind _ _ _ _ _
    (passes c.args.numbers.now c.args.bytes.now c.requires (sym (rw (e.0, e.1.0, e.1.1) at c.total.ensures)) c.words_needed-needed.ensures c.if-words-needed.false)
    c.if-word-words.true)

pub octet_origin-requires : goal.octet_origin-requires
octet_origin-requires c = omega (arith, inside c.requires, c.if-word-words.false)

pub returns-then-word-needed : goal.returns-then-word-needed
returns-then-word-needed c =
    let e = c.in_ok-edits.ensures.ok in
    ap gives (rw (e.0, e.1.0) at c.octet_origin.ensures)
    ∙ origin_message _ _ _ _ _
    (passes c.args.numbers.now c.args.bytes.now c.requires (sym (rw (e.0, e.1.0, e.1.1) at c.total.ensures)) c.words_needed-needed.ensures c.if-words-needed.false)
    c.if-word-words.false
    (words_are c.args.numbers.now c.args.bytes.now c.requires (sym (rw (e.0, e.1.0, e.1.1) at c.total.ensures)) c.words_needed-needed.ensures)
    c.requires.sized c.if-word-needed.true

pub returns-then-word-length : goal.returns-then-word-length
returns-then-word-length c =
    let e = c.in_ok-edits.ensures.ok in
    origin_zeroed _ _ _ _ _
    (passes c.args.numbers.now c.args.bytes.now c.requires (sym (rw (e.0, e.1.0, e.1.1) at c.total.ensures)) c.words_needed-needed.ensures c.if-words-needed.false)
    c.if-word-words.false
    (words_are c.args.numbers.now c.args.bytes.now c.requires (sym (rw (e.0, e.1.0, e.1.1) at c.total.ensures)) c.words_needed-needed.ensures)
    c.if-word-needed.false c.if-word-length.true

pub returns : goal.returns
returns c =
    let e = c.in_ok-edits.ensures.ok in
    origin_untouched _ _ _ _ _
    (passes c.args.numbers.now c.args.bytes.now c.requires (sym (rw (e.0, e.1.0, e.1.1) at c.total.ensures)) c.words_needed-needed.ensures c.if-words-needed.false)
    c.if-word-words.false
    (words_are c.args.numbers.now c.args.bytes.now c.requires (sym (rw (e.0, e.1.0, e.1.1) at c.total.ensures)) c.words_needed-needed.ensures)
    c.if-word-needed.false c.if-word-length.false
