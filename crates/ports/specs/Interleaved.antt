-- What is said of interleaved streams (02, T-07), of any two calls.
-- Assumes nothing.
use Rattle.std.specs.Prelude.{None, Some, ◌≡◌, List, [], ◌∷◌, ℕ, suc, ◌+◌, ◌≤◌, ◌<◌, length, get_or, take}
use Rattle.refusal.specs.Answer.{Answer, gives, refused, pass}
use Rattle.ump.specs.Packet.{sysex8}
use Rattle.ump.specs.Check.{check, Valid}
use Rattle.ump.specs.Single.{start, continue, Packet}
use Rattle.ports.specs.Streams.{Streams, stream_of, packets_of, share_of, stream_after, hands_out, Reply, kept, handed_out, replied, onto, arrived, key_at, step}
use Rattle.ports.specs.Table.{Lent, streams_in, part_of, empty_table, receive}
use Rattle.ports.specs.History.{Receiver, Clearer, Call, Event, State, CallOn, History, steps, calls, tolds, fulls, of_port, since}

-- ---- what is said of

-- an empty table: no slot has a key
pub record Empty (table : List ℕ) : Type 0 where
  pub whole : length table ≡ 32
  pub free : (k : ℕ) → k < 16 → get_or table k 0 ≡ 0

-- no two streams have one key
abbrev pub Distinct : Streams → Type 0
Distinct [] = Unit {0}
Distinct (s ∷ streams) = (stream_of streams s.key ≡ None) × Distinct streams

-- never more than 16 are open and 12 of a port, each is of port 0 or 1, and the keys are distinct
pub record InBounds (streams : Streams) : Type 0 where
  pub open_streams : length streams ≤ 16
  pub share : (port : ℕ) → share_of streams port ≤ 12
  pub two_ports : length streams ≡ share_of streams 0 + share_of streams 1
  pub distinct : Distinct streams

-- the streams that a state means
abbrev pub streams_of : State → Streams
streams_of s = streams_in s.table s.words

-- a call that has an outcome, so that nothing is said of none
pub record HasOutcome (Outcomes : Answer Reply × Lent → Type 0) : Type 0 where
  pub outcome : Answer Reply × Lent
  pub call : Outcomes outcome

-- a call on a state that a run reached on a table that was empty
pub record Reached (Receives : Receiver) (events : List Event) (t : State) (c : Call) (outcome : Answer Reply × Lent) : Type 0 where
  pub first : State
  pub empty : Empty first.table
  pub run : History Receives first events t
  pub last : CallOn Receives t c outcome

-- a packet that is neither Long, nor refused by the packet reader, nor of another port
abbrev pub Arrives : State → Call → Packet → Type 0
Arrives t c p = arrived (length t.words) (length c.output) c.port c.packet ≡ gives p

-- ---- what is said

pub record Interleaved (Receives : Receiver) (Clears : Clearer) : Type 0 where
  -- Both calls answer, whatever the table, the words, the port, the packet and the output hold; clearing leaves an empty table.
  pub answers : (table words : List ℕ) (port : ℕ) (packet output : List ℕ) → length table ≡ 32 → HasOutcome (Receives table words port packet output)
  pub clears : {table after : List ℕ} → Clears table after → Empty after
  pub can_clear : (table : List ℕ) → length table ≡ 32 → Clears table empty_table
  -- Whatever they hold, the table and the words mean open streams, and the answer and the output are those of a step on these.
  pub meant : {table words packet output table' words' output' : List ℕ} {port : ℕ} {answer : Answer Reply}
      → Receives table words port packet output (answer, (table', words', output'))
      → let after = step (length words) (streams_in table words) port packet output in (answer ≡ after.0) × (output' ≡ after.1.1)
  -- A refusal leaves the table, the words and the output.
  pub leaves : {table words packet output : List ℕ} {port number place : ℕ} {lent : Lent} → Receives table words port packet output (refused number place, lent)
      → lent ≡ (table, words, output)
  -- A run on a table that was empty goes step by step on no open streams,
  pub follows : {s t : State} {events : List Event} → History Receives s events t → Empty s.table → events ≡ steps (length s.words) [] (calls events)
  -- stays within the bounds,
  pub bounds : {s t : State} {events : List Event} → History Receives s events t → Empty s.table → InBounds (streams_of t)
  -- and holds of each stream the packets since its last start.
  pub holds : {s t : State} {events : List Event} → History Receives s events t → Empty s.table → (key : ℕ) → 0 < key → stream_of (streams_of t) key ≡ since key None events
  -- A port with fewer than four open streams is never refused a slot: neither Share nor Full.
  pub slot_for_four : {events : List Event} {t : State} {c : Call} {number place : ℕ} {lent : Lent} → Reached Receives events t c (refused number place, lent)
      → c.port ≤ 1 → share_of (streams_of t) c.port < 4 → (number ≡ 31 → ⊥) × (number ≡ 23 → ⊥)
  -- Two runs in any interleaving, both on tables that were empty and on words of one length: if a port makes the same calls and the same ones
  -- of them get Full, all that it is told is the same.
  pub apart : (port : ℕ) {s t s' t' : State} {events events' : List Event} → History Receives s events t → History Receives s' events' t'
      → Empty s.table → Empty s'.table → length s.words ≡ length s'.words
      → calls (of_port port events) ≡ calls (of_port port events') → fulls (of_port port events) ≡ fulls (of_port port events')
      → tolds (of_port port events) ≡ tolds (of_port port events')
  -- What is handed out is the packets from the last start to the end, as they came; behind it the output stays.
  pub hands : {events : List Event} {t : State} {c : Call} {p : Packet} {reply : Reply} {table words output : List ℕ}
      → Reached Receives events t c (gives reply, (table, words, output)) → Arrives t c p
      → let before = packets_of (since (key_at c.port p) None events) in
      (reply ≡ replied p.kind before (take 4 c.packet)) × (output ≡ onto (hands_out p.kind before (take 4 c.packet)) c.output)
  -- It passes the check of document 01, and so all that is said there of a valid message is said of it.
  pub passes : {events : List Event} {t : State} {c : Call} {n : ℕ} {table words output : List ℕ}
      → Reached Receives events t c (gives (handed_out n), (table, words, output)) → Valid sysex8 output n × (check sysex8 output n ≡ pass)
  -- A packet that closes an open stream frees its slot,
  pub frees : {events : List Event} {t : State} {c : Call} {p : Packet} {reply : Reply} {table words output packets : List ℕ}
      → Reached Receives events t c (gives reply, (table, words, output)) → Arrives t c p → stream_of (streams_of t) (key_at c.port p) ≡ Some packets
      → stream_after p.kind packets (take 4 c.packet) ≡ None
      → (suc (length (streams_in table words)) ≡ length (streams_of t)) × (suc (share_of (streams_in table words) c.port) ≡ share_of (streams_of t) c.port)
  -- a new stream is kept wherever fewer than 16 are open and fewer than 12 of its port, whatever stood in the slot and the words that it gets,
  pub opens : {events : List Event} {t : State} {c : Call} {p : Packet} {answer : Answer Reply} {lent : Lent} → Reached Receives events t c (answer, lent)
      → Arrives t c p → p.kind ≡ start → length (streams_of t) < 16 → share_of (streams_of t) c.port < 12 → 4 ≤ part_of t.words → answer ≡ gives kept
  -- and a stream has its whole part.
  pub grows : {events : List Event} {t : State} {c : Call} {p : Packet} {answer : Answer Reply} {lent : Lent} {packets : List ℕ}
      → Reached Receives events t c (answer, lent) → Arrives t c p → p.kind ≡ continue → stream_of (streams_of t) (key_at c.port p) ≡ Some packets
      → length packets + 4 ≤ part_of t.words → answer ≡ gives kept

-- what the calls must promise for it: their outcomes are the definitions', and they can be made
pub record PromisedPorts (Receives : Receiver) (Clears : Clearer) : Type 0 where
  pub receives : {table words packet output : List ℕ} {port : ℕ} {outcome : Answer Reply × Lent} → Receives table words port packet output outcome
      → outcome ≡ receive table words port packet output
  pub can_receive : (table words : List ℕ) (port : ℕ) (packet output : List ℕ) → length table ≡ 32
      → Receives table words port packet output (receive table words port packet output)
  pub clears : {table after : List ℕ} → Clears table after → after ≡ empty_table
  pub can_clear : (table : List ℕ) → length table ≡ 32 → Clears table empty_table
