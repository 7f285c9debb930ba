-- `message::sysex8::set_group`: the check, then Field, then the first word of each packet. Assumes nothing.
use Rattle.std.proofs.Common.{◌≡◌, ap, ◌∙◌, ℕ, ◌/◌, ◌%◌, rules, arith}
use Rattle.std.proofs.lemmas.Result.{err_from_is_err_and}
use borrow.Author.Tests.{lt-ltb, le-ltb}
use Rattle.refusal.specs.Answer.{pass}
use Rattle.ump.specs.Single.{with_group}
use Rattle.ump.specs.Packet.{sysex8}
use Rattle.ump.specs.Setters.{on_heads, set_group}
use Rattle.message.proofs.Checked.{found_taken, found_refused, taken_inside}
use Rattle.message.proofs.sysex8.set_group.Goals as goal

pub returns-in_err-size_found : goal.returns-in_err-size_found
unfolding set_group
returns-in_err-size_found c =
    let p = err_from_is_err_and c.from_residual.result c.from_residual.ensures.1 in
    rw (p.1, p.2) (rw (found_refused sysex8 _ _ c.in_err-size_found.ensures))

pub returns-then-group-gt15 : goal.returns-then-group-gt15
unfolding set_group
returns-then-group-gt15 c =
    let m = found_taken sysex8 _ _ c.in_ok-size_found.ensures in
    rw c.into.ensures (rw (m.passes, lt-ltb _ _ c.if-group-gt15.true))

pub set_heads-requires-clause-inside : goal.set_heads-requires-clause-inside
set_heads-requires-clause-inside c = taken_inside sysex8 _ _ (found_taken sysex8 _ _ c.in_ok-size_found.ensures).valid

pub returns : goal.returns
unfolding set_group
returns c =
    let a = c.args in
    let whole : a.group % 16 ≡ a.group = omega (arith, c.if-group-gt15.false) in
    let set = c.set_heads.ensures (λ x. with_group x (a.group % 16)) (λ word changed h. search rules) in
    rw ((found_taken sysex8 _ _ c.in_ok-size_found.ensures).passes, le-ltb _ _ c.if-group-gt15.false)
    (ap (λ l. (pass, l)) (set ∙ ap (λ (g : ℕ). on_heads sysex8 (λ x. with_group x g) a.words.now (a.length / 4)) whole))
