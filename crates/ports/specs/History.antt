-- Runs of calls on one table, what one port sees of them, and the packets of a stream since its last start.
-- Assumes nothing.
use Rattle.std.specs.Prelude.{Option, Bool, false, cond, List, [], ◌∷◌, map, ℕ, eqb, take}
use Rattle.refusal.specs.Answer.{Answer, gives, refused}
use Rattle.ump.specs.Single.{Packet, read_packet8}
use Rattle.ports.specs.Streams.{Streams, packets_of, stream_after, Reply, key_at, step}
use Rattle.ports.specs.Table.{Lent}

-- the calls, by the outcomes that they allow: the table, the words, the port, the packet and the output; the table
abbrev pub Receiver : Type 1
Receiver = List ℕ → List ℕ → ℕ → List ℕ → List ℕ → Answer Reply × Lent → Type 0

abbrev pub Clearer : Type 1
Clearer = List ℕ → List ℕ → Type 0

-- what one call is given beside the table and the words
pub record Call : Type 0 where
  pub port : ℕ
  pub packet : List ℕ
  pub output : List ℕ

-- what a call is told: its answer, and the output after it
abbrev pub Told : Type 0
Told = Answer Reply × List ℕ

pub record Event : Type 0 where
  pub call : Call
  pub told : Told

-- the table and the words
pub record State : Type 0 where
  pub table : List ℕ
  pub words : List ℕ

-- a call on a state, with this outcome
abbrev pub CallOn : Receiver → State → Call → Answer Reply × Lent → Type 0
CallOn Receives s c outcome = Receives s.table s.words c.port c.packet c.output outcome

-- from one state to another by these calls, with what each was told
pub data History (Receives : Receiver) : State → List Event → State → Type 0 where
  begun : {s : State} → History Receives s [] s
  then : {s t : State} {c : Call} {answer : Answer Reply} {table words output : List ℕ} {events : List Event}
      → CallOn Receives s c (answer, (table, words, output)) → History Receives (record { table = table; words = words }) events t
      → History Receives s (record { call = c; told = (answer, output) } ∷ events) t

-- ---- the same calls, step by step on open streams

unfoldable pub steps : ℕ → Streams → List Call → List Event
steps lent streams [] = []
steps lent streams (c ∷ calls) =
    let after = step lent streams c.port c.packet c.output in
    record { call = c; told = (after.0, after.1.1) } ∷ steps lent after.1.0 calls

-- ---- what is seen of a run

abbrev pub calls : List Event → List Call
calls = map (λ e. e.call)

abbrev pub tolds : List Event → List Told
tolds = map (λ e. e.told)

-- is an answer the refusal Full; which calls get it
abbrev pub is_full : {A : Type 0} → Answer A → Bool
is_full (gives value) = false
is_full (refused number place) = eqb number 23

abbrev pub fulls : List Event → List Bool
fulls = map (λ e. is_full e.told.0)

-- the calls of one port
abbrev pub of_port : ℕ → List Event → List Event
of_port port [] = []
of_port port (e ∷ events) = cond (eqb e.call.port port) (e ∷ of_port port events) (of_port port events)

-- ---- the packets of a stream since its last start, told from the calls and their answers alone

-- what an accepted packet of the stream with this key makes of it
abbrev pub heard : ℕ → ℕ → Answer Reply → Answer Packet → List ℕ → Option (List ℕ) → Option (List ℕ)
heard key port (refused number place) read packet before = before
heard key port (gives reply) (refused number place) packet before = before
heard key port (gives reply) (gives p) packet before = cond (eqb (key_at port p) key) (stream_after p.kind (packets_of before) packet) before

unfoldable pub since : ℕ → Option (List ℕ) → List Event → Option (List ℕ)
since key before [] = before
since key before (e ∷ events) =
    let c = e.call in
    since key (heard key c.port e.told.0 (read_packet8 c.packet) (take 4 c.packet) before) events
