-- `carries::carries`: each return is a case of `carries`. Assumes nothing.
use Rattle.std.proofs.Common.{[], ◌∷◌, ℕ, ◌/◌, sym, ap, ◌∙◌, arith}
use Rattle.std.proofs.lemmas.Result.{err_from_is_err_and}
use Rattle.ump.specs.Packet.{sysex8}
use Rattle.message.proofs.Checked.{not_taken, taken_inside, taken-counted}
use Rattle.carries.specs.Carries.{other_bytes}
use Rattle.carries.proofs.Carrying.{told, not_valid, bad_field, other_group, other_id, other_packet, other_size, all_same, ids_differ, found_first, found_below, found_not}
use Rattle.carries.proofs.carries.Goals as goal

pub returns-in_err-message : goal.returns-in_err-message
returns-in_err-message c =
    let p = err_from_is_err_and c.from_residual.result c.from_residual.ensures.1 in
    rw (p.1, p.2) (not_valid _ _ _ _ _ _ (not_taken sysex8 _ _ (sym c.in_err-message.ensures)))

pub returns-then-group-gt15 : goal.returns-then-group-gt15
returns-then-group-gt15 c =
    let m = told _ _ (sym c.in_ok-message.ensures) in
    rw c.into.ensures (bad_field _ _ _ _ _ _ m.taken.passes c.if-group-gt15.true)

pub returns-then-message-group : goal.returns-then-message-group
returns-then-message-group c =
    let m = told _ _ (sym c.in_ok-message.ensures) in
    rw c.into-then-message-group.ensures
    (other_group _ _ _ _ _ _ m.taken.passes c.if-group-gt15.false (λ q. c.if-message-group.true (sym m.group_is ∙ q)))

pub returns-then-message-id : goal.returns-then-message-id
returns-then-message-id c =
    let m = told _ _ (sym c.in_ok-message.ensures) in
    rw c.into-then-message-id.ensures
    (other_id _ _ _ _ _ _ m.taken.passes c.if-group-gt15.false (m.group_is ∙ c.if-message-group.false) (ids_differ m.id_is c.if-message-id.true))

pub first_differing-requires : goal.first_differing-requires
first_differing-requires c =
    let m = told _ _ (sym c.in_ok-message.ensures) in
    record { inside = taken_inside sysex8 _ _ m.taken.valid; counted = taken-counted sysex8 _ _ m.taken.valid }

pub returns-in-Some : goal.returns-in-Some
returns-in-Some c =
    let m = told _ _ (sym c.in_ok-message.ensures) in
    other_packet _ _ _ _ _ _ m.taken.passes c.if-group-gt15.false (m.group_is ∙ c.if-message-group.false)
    (m.id_is ∙ ap (λ (i : ℕ). i ∷ []) (omega arith)) (found_first (other_bytes sysex8 c.args.words.now c.args.payload.now) (c.args.length / 4) c.in-Some.ensures) (found_below (other_bytes sysex8 c.args.words.now c.args.payload.now) (c.args.length / 4) c.in-Some.ensures)

pub returns-then-message-payload : goal.returns-then-message-payload
returns-then-message-payload c =
    let m = told _ _ (sym c.in_ok-message.ensures) in
    rw c.into-then-message-payload.ensures
    (other_size _ _ _ _ _ _ m.taken.passes c.if-group-gt15.false (m.group_is ∙ c.if-message-group.false)
    (m.id_is ∙ ap (λ (i : ℕ). i ∷ []) (omega arith)) (found_not (other_bytes sysex8 c.args.words.now c.args.payload.now) (c.args.length / 4) c.in_default.ensures) (omega arith)
    (λ q. c.if-message-payload.true (m.taken.sized ∙ q)))

pub returns : goal.returns
returns c =
    let m = told _ _ (sym c.in_ok-message.ensures) in
    all_same _ _ _ _ _ _ m.taken.passes c.if-group-gt15.false (m.group_is ∙ c.if-message-group.false)
    (m.id_is ∙ ap (λ (i : ℕ). i ∷ []) (omega arith)) (found_not (other_bytes sysex8 c.args.words.now c.args.payload.now) (c.args.length / 4) c.in_default.ensures) (omega arith)
    (sym m.taken.sized ∙ c.if-message-payload.false)
