-- `look::list::byte_of_checked`: the byte where it stands, in the message or in the replacement bytes. Assumes nothing.
use Rattle.std.proofs.Common.{◌≡◌, List, ℕ, length, sym, ap, ◌∙◌}
use Rattle.refusal.specs.Answer.{Answer, gives}
use Rattle.ump.specs.Packet.{sysex8}
use Rattle.ump.specs.Check.{payload_of}
use Rattle.message.specs.Accepted.{Accepted}
use Rattle.edit.specs.Placed.{Place, placed}
use Rattle.std.proofs.lemmas.Result.{err_from_is_err_and}
use Rattle.look.proofs.Bytes.{in-dump, in_bytes_lem, not_placed, message_is}
use Rattle.look.proofs.list.byte_of_checked.Goals as goal

-- where it stands, of the message's payload
stands : {words : List ℕ} {len size : ℕ} (bytes : ℕ) (numbers : List ℕ) (i : ℕ) {answer : Answer Place} → Accepted words len size
    → answer ≡ placed size bytes numbers i → placed (length (payload_of sysex8 words len)) bytes numbers i ≡ answer
stands bytes numbers i ok e = rw ok.sized at (sym e)

pub byte_of-requires : goal.byte_of-requires
byte_of-requires c = (c.requires, rw c.requires.sized (in-dump _ _ _ _ (stands _ _ _ c.requires (rw c.in-Dump.is at c.in_ok-placed.ensures))).there)

pub bounds-bytes-at : goal.bounds-bytes-at
bounds-bytes-at c = (in_bytes_lem _ _ _ _ (stands _ _ _ c.requires (rw c.in-Bytes.is at c.in_ok-placed.ensures))).there

pub returns-in-Dump : goal.returns-in-Dump
returns-in-Dump c =
    ap gives c.byte_of.ensures ∙ (in-dump _ _ _ _ (stands _ _ _ c.requires (rw c.in-Dump.is at c.in_ok-placed.ensures))).is ∙ message_is _ _ _ _ _ c.requires

pub returns-in-Bytes : goal.returns-in-Bytes
returns-in-Bytes c = (in_bytes_lem _ _ _ _ (stands _ _ _ c.requires (rw c.in-Bytes.is at c.in_ok-placed.ensures))).is ∙ message_is _ _ _ _ _ c.requires

pub returns-in_err-placed : goal.returns-in_err-placed
returns-in_err-placed c =
    let p = err_from_is_err_and c.from_residual.result c.from_residual.ensures.1 in
    rw (p.1, p.2) (not_placed _ _ _ _ (stands _ _ _ c.requires c.in_err-placed.ensures) ∙ message_is _ _ _ _ _ c.requires)
