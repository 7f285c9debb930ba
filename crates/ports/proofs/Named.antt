-- Each refusal of a received packet is one of the names, and so its answer is the meaning of one. Assumes nothing.
use Rattle.refusal.specs.declared.Fault.{Fault}
use Rattle.std.specs.Prelude.{Option, None, Some, Result, Ok, Err}
use mathlib.Core.Path.{◌≡◌, refl, ap}
use mathlib.Core.Bool.{Bool, true, false, not, ◌&&◌}
use mathlib.Core.List.{List}
use Prim.Native.Nat.{ℕ, ◌+◌}
use lib.Dec.{ltb, leb}
use lib.ListN.{length}
use Rattle.refusal.specs.Answer.{Answer, gives, refused, verdict}
use Rattle.refusal.specs.Number.{Named, accepted, named}
use Rattle.refusal.specs.declared.Refusal.TheVariants.{Long, Short, «Type», Count, Room, Status, Full, Port, Closed, Share}
use Rattle.refusal.proofs.Laws.{name_of_number, fault_back, fault-back, by_guard, by_both, writes_named}
use Rattle.ump.specs.Packet.{sysex8, status_at, count_at}
use Rattle.ump.specs.Check.{bad_type, bad_count}
use Rattle.ump.specs.Single.{Kind, complete, start, continue, end, unexpected_end, Packet, blank, unexpected, read_packet8}
use Rattle.ports.specs.Streams.{refusals, Reply, kept, dropped, handed_out, arrived, admit, key_at}
use Rattle.ports.specs.Table.{Lent, accept, receive}
use Rattle.ports.specs.Meaning.{received_meaning}
use Rattle.ports.specs.declared.Received.{Received}
use Rattle.ports.specs.declared.Received.TheVariants as received

read_named : (packet : List ℕ) → Named (read_packet8 packet)
unfolding read_packet8
read_named packet =
    by_both _ _ (by_guard (ltb (length packet) 4) Short 0)
    (by_both _ _ (by_guard (bad_type sysex8 packet 0) «Type» 0)
    (by_both _ _ (by_guard (ltb 3 (status_at sysex8 packet 0)) Status 0)
    (by_both _ _ (by_guard (bad_count sysex8 packet 0 && not (unexpected (status_at sysex8 packet 0) (count_at sysex8 packet 0) (blank packet))) Count 0) accepted)))

verdict_named : {A : Type 0} (answer : Answer A) → Named answer → Named (verdict answer)
verdict_named (gives value) h = accepted
verdict_named (refused number place) (named r) = named r

arrived_named : (lent room port : ℕ) (packet : List ℕ) → Named (arrived lent room port packet)
unfolding arrived
arrived_named lent room port packet =
    by_both _ _ (by_guard (ltb 16384 lent) Long 0)
    (by_both _ _ (by_guard (ltb 16384 room) Long 0)
    (by_both _ _ (verdict_named (read_packet8 packet) (read_named packet))
    (by_both _ _ (by_guard (ltb 1 port) Port 0) (read_named packet))))

refusals_named : (kind : Kind) (stream : Option (List ℕ)) (holds : ℕ) (full : Bool) (part room : ℕ) → Named (refusals kind stream holds full part room)
refusals_named start None holds full part room =
    by_both _ _ (by_guard (leb 12 holds) Share 0) (by_both _ _ (by_guard full Full 0) (by_guard (ltb part 4) Room 0))
refusals_named start (Some words) holds full part room = by_guard (ltb part 4) Room 0
refusals_named continue None holds full part room = named Closed
refusals_named continue (Some words) holds full part room = by_guard (ltb part (length words + 4)) Room 0
refusals_named end None holds full part room = named Closed
refusals_named end (Some words) holds full part room = by_guard (ltb room (length words + 4)) Room 0
refusals_named (unexpected_end valid) None holds full part room = named Closed
refusals_named (unexpected_end true) (Some words) holds full part room = by_guard (ltb room (length words + 4)) Room 0
refusals_named (unexpected_end false) (Some words) holds full part room = accepted
refusals_named complete stream holds full part room = by_guard (ltb room 4) Room 0

pub receive_named : (table words : List ℕ) (port : ℕ) (packet output : List ℕ) → Named (receive table words port packet output).0
unfolding receive accept
receive_named table words port packet output = go (arrived (length words) (length output) port packet) (arrived_named (length words) (length output) port packet)
  where
    go : (x : Answer Packet) → Named x → Named (admit {Lent = Lent} x (table, words, output) (λ p. accept p.kind port (key_at port p) table words packet output)).0
    go (refused n q) (named r) = named r
    go (gives p) h = writes_named _ _ _ _ (refusals_named p.kind _ _ _ _ _)

abbrev pub received_back : Answer Reply → Result Received Fault
received_back (gives kept) = Ok received.Kept
received_back (gives dropped) = Ok received.Dropped
received_back (gives (handed_out words)) = Ok (received.HandedOut words)
received_back (refused number place) = Err (fault_back number place)

pub received-back : (x : Result Received Fault) → received_back (received_meaning x) ≡ x
received-back (Ok received.Kept) = refl
received-back (Ok received.Dropped) = refl
received-back (Ok (received.HandedOut words)) = refl
received-back (Err fault) = ap Err (fault-back fault)

pub received_meant : (answer : Answer Reply) → Named answer → received_meaning (received_back answer) ≡ answer
received_meant (gives kept) h = refl
received_meant (gives dropped) h = refl
received_meant (gives (handed_out words)) h = refl
received_meant (refused number place) (named r) = rw (name_of_number r)
