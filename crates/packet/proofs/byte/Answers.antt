-- `packet::byte`: a byte of the packet that was read, or the reader's refusal, or Range. Assumes nothing.
use Rattle.std.proofs.Common.{◌≡◌, ◌+◌, ◌∙◌, arith}
use Rattle.std.proofs.lemmas.Result.{err_from_is_err_and}
use Rattle.ump.specs.Packet.{header}
use Rattle.packet.proofs.Laws.{byte_refused, byte_past, byte_given}
use Rattle.packet.proofs.byte.Goals as goal

pub returns-in_err-size : goal.returns-in_err-size
returns-in_err-size g c =
    let p = err_from_is_err_and c.from_residual.result c.from_residual.ensures.1 in
    rw (p.1, p.2) (byte_refused _ _ g.F.Format.shape _ c.in_err-size.ensures.packet)

pub returns-then-index-size : goal.returns-then-index-size
returns-then-index-size g c =
    rw c.into.ensures (byte_past _ _ g.F.Format.shape _ c.in_ok-size.ensures.packet c.if-index-size.true)

pub returns : goal.returns
returns g c =
    let limit : c.LIMIT.result ≡ g.F.Format.shape.limit = c.LIMIT.ensures ∙ g.met.F.Single.limit_is in
    let place : c.args.index + 2 + c.IDS.result ≡ c.args.index + header g.F.Format.shape = omega (arith, c.IDS.ensures, g.F.Format.numbers.ids_are) in
    rw (c.octet_of.ensures, limit, place) (byte_given _ _ g.F.Format.shape _ c.in_ok-size.ensures.packet c.if-index-size.false)
