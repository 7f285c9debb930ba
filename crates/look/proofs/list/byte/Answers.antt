-- `look::list::byte`: the byte where it stands. Assumes nothing.
use Rattle.std.proofs.Common.{sym}
use Rattle.std.proofs.lemmas.Result.{err_from_is_err_and}
use Rattle.look.proofs.Bytes.{in-dump, in_bytes_lem, not_placed}
use Rattle.look.proofs.list.byte.Goals as goal

pub bounds-payload-at : goal.bounds-payload-at
bounds-payload-at c = (in-dump _ _ _ _ (sym (rw c.in-Dump.is at c.in_ok-placed.ensures))).there

pub bounds-bytes-at : goal.bounds-bytes-at
bounds-bytes-at c = (in_bytes_lem _ _ _ _ (sym (rw c.in-Bytes.is at c.in_ok-placed.ensures))).there

pub returns-in-Dump : goal.returns-in-Dump
returns-in-Dump c = (in-dump _ _ _ _ (sym (rw c.in-Dump.is at c.in_ok-placed.ensures))).is

pub returns-in-Bytes : goal.returns-in-Bytes
returns-in-Bytes c = (in_bytes_lem _ _ _ _ (sym (rw c.in-Bytes.is at c.in_ok-placed.ensures))).is

pub returns-in_err-placed : goal.returns-in_err-placed
returns-in_err-placed c =
    let p = err_from_is_err_and c.from_residual.result c.from_residual.ensures.1 in
    rw (p.1, p.2) (not_placed _ _ _ _ (sym c.in_err-placed.ensures))
