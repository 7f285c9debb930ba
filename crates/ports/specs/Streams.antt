-- The open streams of two ports, and one step for each packet: document 02's T-07, without slots and without places in memory.
-- Assumes nothing.
use Rattle.std.specs.Prelude.{Option, None, Some, Bool, true, false, cond, List, [], ◌∷◌, ◌++◌, ℕ, ◌+◌, ◌*◌, ◌/◌, eqb, ltb, leb, length, get_or, take, drop}
use Rattle.refusal.specs.Answer.{Answer, gives, refused, Verdict, pass, ◌▷◌, guard, verdict, writes}
use Rattle.ump.specs.Limits.{most_words}
use Rattle.ump.specs.Single.{Kind, complete, start, continue, end, unexpected_end, Packet, read_packet8}

-- ---- open streams

-- the key of a stream: its port, group and stream id in one number, from which each can be told (proofs/Machine.key_once)
abbrev pub key_of : ℕ → ℕ → ℕ → ℕ
key_of port group id = (port + 1) * 65536 + group * 256 + id

-- is it a key of this port
abbrev pub is_of : ℕ → ℕ → Bool
is_of port key = eqb (key / 65536) (port + 1)

-- an open stream: its key, and the words of its packets as they came since its last start
pub record Stream : Type 0 where
  pub key : ℕ
  pub packets : List ℕ

abbrev pub Streams : Type 0
Streams = List Stream

-- the words of the stream with this key, if it is open
abbrev pub stream_of : Streams → ℕ → Option (List ℕ)
stream_of [] key = None
stream_of (s ∷ streams) key = cond (eqb s.key key) (Some s.packets) (stream_of streams key)

abbrev pub is_open : Option (List ℕ) → Bool
is_open None = false
is_open (Some words) = true

abbrev pub packets_of : Option (List ℕ) → List ℕ
packets_of None = []
packets_of (Some words) = words

-- the streams of one port, and how many it holds
abbrev pub own : ℕ → Streams → Streams
own port [] = []
own port (s ∷ streams) = cond (is_of port s.key) (s ∷ own port streams) (own port streams)

abbrev pub share_of : Streams → ℕ → ℕ
share_of streams port = length (own port streams)

-- the streams with that of this key closed; with these words as its packets, or closed
abbrev pub without : Streams → ℕ → Streams
without [] key = []
without (s ∷ streams) key = cond (eqb s.key key) (without streams key) (s ∷ without streams key)

abbrev pub put : Streams → ℕ → Option (List ℕ) → Streams
put streams key None = without streams key
put streams key (Some words) = record { key = key; packets = words } ∷ without streams key

-- ---- a packet: what it is refused for, and what an accepted one does

-- Of the packet's stream: its words, if it is open; how many streams the port holds; are 16 open; the words of a part; of the output.
-- Closed 30, Share 31, Full 23, Room 14.
abbrev pub refusals : Kind → Option (List ℕ) → ℕ → Bool → ℕ → ℕ → Verdict
refusals start None holds full part room = guard (leb 12 holds) 31 0 ▷ guard full 23 0 ▷ guard (ltb part 4) 14 0
refusals start (Some words) holds full part room = guard (ltb part 4) 14 0
refusals continue None holds full part room = refused 30 0
refusals continue (Some words) holds full part room = guard (ltb part (length words + 4)) 14 0
refusals end None holds full part room = refused 30 0
refusals end (Some words) holds full part room = guard (ltb room (length words + 4)) 14 0
refusals (unexpected_end valid) None holds full part room = refused 30 0
refusals (unexpected_end true) (Some words) holds full part room = guard (ltb room (length words + 4)) 14 0
refusals (unexpected_end false) (Some words) holds full part room = pass
refusals complete stream holds full part room = guard (ltb room 4) 14 0

-- the stream after a packet: a start begins it anew, a continue adds to it, the others close it
abbrev pub stream_after : Kind → List ℕ → List ℕ → Option (List ℕ)
stream_after start words packet = Some packet
stream_after continue words packet = Some (words ++ packet)
stream_after end words packet = None
stream_after (unexpected_end valid) words packet = None
stream_after complete words packet = None

-- what is handed out: the stream's packets and its end, as they came; a complete packet; else nothing
abbrev pub hands_out : Kind → List ℕ → List ℕ → List ℕ
hands_out start words packet = []
hands_out continue words packet = []
hands_out end words packet = words ++ packet
hands_out (unexpected_end true) words packet = words ++ packet
hands_out (unexpected_end false) words packet = []
hands_out complete words packet = packet

-- the answer: the packet is kept in its stream; its stream is dropped; a message of so many words is handed out
pub data Reply : Type 0 where
  kept : Reply
  dropped : Reply
  handed_out : ℕ → Reply

abbrev pub replied : Kind → List ℕ → List ℕ → Reply
replied start words packet = kept
replied continue words packet = kept
replied end words packet = handed_out (length (words ++ packet))
replied (unexpected_end true) words packet = handed_out (length (words ++ packet))
replied (unexpected_end false) words packet = dropped
replied complete words packet = handed_out (length packet)

-- words at the front of the output; what stands behind them stays
abbrev pub onto : List ℕ → List ℕ → List ℕ
onto words output = words ++ drop (length words) output

-- ---- a call

-- Long, of the words lent and of the output; the packet reader's; Port
unfoldable pub arrived : ℕ → ℕ → ℕ → List ℕ → Answer Packet
arrived lent room port packet =
    guard (ltb most_words lent) 1 0
    ▷ guard (ltb most_words room) 1 0
    ▷ verdict (read_packet8 packet)
    ▷ guard (ltb 1 port) 29 0
    ▷ read_packet8 packet

-- a refusal leaves what there was before; else the rest of the call decides
abbrev pub admit : {Lent : Type 0} → Answer Packet → Lent → (Packet → Answer Reply × Lent) → Answer Reply × Lent
admit (refused number place) before rest = (refused number place, before)
admit (gives p) before rest = rest p

-- the key of a packet at a port
abbrev pub key_at : ℕ → Packet → ℕ
key_at port p = key_of port p.group (get_or p.id 0 0)

-- a packet that was read, where 16 streams are open or not
abbrev pub admitted : ℕ → Bool → Streams → ℕ → List ℕ → List ℕ → Packet → Answer Reply × (Streams × List ℕ)
admitted part full streams port packet output p =
    let stream = stream_of streams (key_at port p) in
    let words = packets_of stream in
    let four = take 4 packet in
    writes (refusals p.kind stream (share_of streams port) full part (length output)) (streams, output)
    (replied p.kind words four)
    (put streams (key_at port p) (stream_after p.kind words four), onto (hands_out p.kind words four) output)

-- one step: the answer, and the streams and the output after it; a part is a sixteenth of the words lent, rounded down
unfoldable pub step : ℕ → Streams → ℕ → List ℕ → List ℕ → Answer Reply × (Streams × List ℕ)
step lent streams port packet output =
    admit (arrived lent (length output) port packet) (streams, output) (admitted (lent / 16) (leb 16 (length streams)) streams port packet output)
