-- `message::sysex8::set_stream_id`: the check, then the first word of each packet. Assumes nothing.
use Rattle.std.proofs.Common.{ap, rules}
use Rattle.std.proofs.lemmas.Result.{err_from_is_err_and}
use Rattle.refusal.specs.Answer.{pass}
use Rattle.ump.specs.Packet.{sysex8}
use Rattle.ump.specs.Setters.{set_id, with_id}
use Rattle.message.proofs.Checked.{found_taken, found_refused, taken_inside}
use Rattle.message.proofs.sysex8.set_stream_id.Goals as goal

pub returns-in_err-size_found : goal.returns-in_err-size_found
unfolding set_id
returns-in_err-size_found c =
    let p = err_from_is_err_and c.from_residual.result c.from_residual.ensures.1 in
    rw (p.1, p.2) (rw (found_refused sysex8 _ _ c.in_err-size_found.ensures))

pub set_heads-requires-clause-inside : goal.set_heads-requires-clause-inside
set_heads-requires-clause-inside c = taken_inside sysex8 _ _ (found_taken sysex8 _ _ c.in_ok-size_found.ensures).valid

pub returns : goal.returns
unfolding set_id
returns c =
    rw (found_taken sysex8 _ _ c.in_ok-size_found.ensures).passes
    (ap (λ l. (pass, l)) (c.set_heads.ensures (λ x. with_id x c.args.id) (λ word changed h. search rules)))
