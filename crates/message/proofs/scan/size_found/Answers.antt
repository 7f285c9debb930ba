-- `message::scan::size_found`: the first four tests, then the packets. Assumes nothing.
use Rattle.std.proofs.Common.{sym, ap, ◌∙◌}
use Rattle.std.proofs.lemmas.Result.{err_from_is_err_and}
use Rattle.refusal.specs.Meaning.{answer_of}
use Rattle.message.proofs.Bounds.{Framed, framed_given, framed_refused}
use Rattle.message.proofs.Checked.{size_given, size_refused}
use Rattle.message.proofs.scan.size_found.Goals.{In_ok-packets}
use Rattle.message.proofs.scan.size_found.Goals as goal

pub returns-in_err-packets : goal.returns-in_err-packets
returns-in_err-packets g c =
    let p = err_from_is_err_and c.from_residual.result c.from_residual.ensures.1 in
    rw (p.1, p.2) (rw (framed_refused g.F.Format.shape c.args.words.now c.args.length (sym c.in_err-packets.ensures)))

pub returns-in-Some : goal.returns-in-Some
returns-in-Some g c =
    let f : Framed g.F.Format.shape c.args.words.now c.args.length c.in_ok-packets.packets = framed_given _ _ _ (sym c.in_ok-packets.ensures) in
    size_given _ _ _ f c.in-Some.ensures

pub returns-in-None : goal.returns-in-None
returns-in-None g c =
    let f : Framed g.F.Format.shape c.args.words.now c.args.length c.in_ok-packets.packets = framed_given _ _ _ (sym c.in_ok-packets.ensures) in
    size_refused _ _ _ f (sym (ap answer_of c.unwrap_err.ensures) ∙ c.check_packets.ensures)
