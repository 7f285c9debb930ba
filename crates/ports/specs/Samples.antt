-- Worked examples, computed: steps on open streams, and calls on a table.
-- Assumes nothing.
use Rattle.std.specs.Prelude.{None, Some, ◌≡◌, refl, true, false, List, [], ◌∷◌, ◌++◌, map, ℕ, zero, suc, ◌+◌, ◌*◌, replicate}
use Rattle.refusal.specs.Answer.{Answer, gives, refused}
use Rattle.ump.specs.Word.{octets}
use Rattle.ump.specs.Packet.{size_of}
use Rattle.ump.specs.Check.{first_where, bad_type, bad_count}
use Rattle.ump.specs.Single.{blank, read_packet8}
use Rattle.ports.specs.Streams.{key_of, Reply, kept, dropped, handed_out, arrived, step}
use Rattle.ports.specs.Table.{slot_of, count, held_by, stored_at, streams_below, streams_in, stream_at, empty_table, accept, receive}
use Rattle.ports.specs.History.{Call, Told, steps, tolds, fulls, of_port, since}

-- a packet of a first word and three zero words, at a port, with an output of eight words
abbrev pub call : ℕ → ℕ → Call
call port x = record { port = port; packet = x ∷ 0 ∷ 0 ∷ 0 ∷ []; output = replicate 8 9 }

-- what the calls of a port are told, and the answers alone, in steps on no open streams with so many words lent
abbrev pub told_of : ℕ → ℕ → List Call → List Told
told_of port lent cs = tolds (of_port port (steps lent [] cs))

abbrev pub answers_of : ℕ → ℕ → List Call → List (Answer Reply)
answers_of port lent cs = map (λ (t : Told). t.0) (told_of port lent cs)

-- ---- steps

-- two ports use one group and stream id at the same time; each is handed its own packets
both : List Call
both = call 0 0x50120941 ∷ call 1 0x50120942 ∷ call 1 0x50320943 ∷ call 0 0x50320944 ∷ call 0 0x50220945 ∷ []

both_0 : told_of 0 64 both
    ≡ (gives kept, replicate 8 9)
    ∷ (gives (handed_out 8), 0x50120941 ∷ 0 ∷ 0 ∷ 0 ∷ 0x50320944 ∷ 0 ∷ 0 ∷ 0 ∷ [])
    ∷ (refused 30 0, replicate 8 9)
    ∷ []
unfolding both steps step arrived read_packet8 bad_type bad_count blank octets size_of
both_0 = refl

both_1 : told_of 1 64 both ≡ (gives kept, replicate 8 9) ∷ (gives (handed_out 8), 0x50120942 ∷ 0 ∷ 0 ∷ 0 ∷ 0x50320943 ∷ 0 ∷ 0 ∷ 0 ∷ []) ∷ []
unfolding both steps step arrived read_packet8 bad_type bad_count blank octets size_of
both_1 = refl

-- n starts of a port, each with a stream id of its own
abbrev pub start_at : ℕ → ℕ → Call
start_at port id = call port (0x50110000 + id * 256)

starts : ℕ → ℕ → List Call
starts port zero = []
starts port (suc n) = start_at port n ∷ starts port n

-- The 13th new stream of a port is Share. The other port then has four slots, and its fifth new stream is Full. A start of an open stream is
-- neither. A slot that was dropped is free for the other port.
thirteen : List Call
thirteen = starts 0 13 ++ starts 1 5 ++ (start_at 0 12 ∷ call 0 0x503F0C00 ∷ start_at 1 0 ∷ [])

thirteen_0 : answers_of 0 64 thirteen ≡ replicate 12 (gives kept) ++ (refused 31 0 ∷ gives kept ∷ gives dropped ∷ [])
unfolding thirteen starts steps step arrived read_packet8 bad_type bad_count blank octets size_of
thirteen_0 = refl

thirteen_1 : answers_of 1 64 thirteen ≡ replicate 4 (gives kept) ++ (refused 23 0 ∷ gives kept ∷ [])
unfolding thirteen starts steps step arrived read_packet8 bad_type bad_count blank octets size_of
thirteen_1 = refl

-- alone, port 1 keeps all five
alone_1 : answers_of 1 64 (starts 1 5) ≡ replicate 5 (gives kept)
unfolding starts steps step arrived read_packet8 bad_type bad_count blank octets size_of
alone_1 = refl

-- A part of four words: a start fits, a continue does not, and an end need not. A complete packet with too little output leaves its stream
-- open. An end without a stream is Closed, also the one that drops.
rooms : List Call
rooms =
    start_at 0 1
    ∷ call 0 0x50210100
    ∷ record { port = 0; packet = 0x50020141 ∷ 0 ∷ 0 ∷ 0 ∷ []; output = 1 ∷ 2 ∷ 3 ∷ [] }
    ∷ call 0 0x50310100
    ∷ call 0 0x50310100
    ∷ call 0 0x503F0100
    ∷ []

rooms_0 : answers_of 0 64 rooms ≡ gives kept ∷ refused 14 0 ∷ refused 14 0 ∷ gives (handed_out 8) ∷ refused 30 0 ∷ refused 30 0 ∷ []
unfolding rooms steps step arrived read_packet8 bad_type bad_count blank octets size_of
rooms_0 = refl

-- a part of three words holds no start; too many words lent are Long; no port 2, and the packet reader is before that
refused_first : answers_of 0 63 (start_at 0 1 ∷ []) ++ answers_of 2 16385 (start_at 2 1 ∷ []) ++ answers_of 2 64 (start_at 2 1 ∷ call 2 0x51F10000 ∷ [])
    ≡ refused 14 0 ∷ refused 1 0 ∷ refused 29 0 ∷ refused 15 0 ∷ []
unfolding steps step arrived read_packet8 bad_type bad_count blank octets size_of
refused_first = refl

-- a start of an open stream begins it afresh, an unexpected end with valid earlier data is an end, and a complete packet closes its stream
afresh : told_of 0 64 (call 0 0x50120141 ∷ call 0 0x50120142 ∷ call 0 0x50310100 ∷ call 0 0x50120143 ∷ call 0 0x50020144 ∷ call 0 0x50310100 ∷ [])
    ≡ (gives kept, replicate 8 9)
    ∷ (gives kept, replicate 8 9)
    ∷ (gives (handed_out 8), 0x50120142 ∷ 0 ∷ 0 ∷ 0 ∷ 0x50310100 ∷ 0 ∷ 0 ∷ 0 ∷ [])
    ∷ (gives kept, replicate 8 9)
    ∷ (gives (handed_out 4), 0x50020144 ∷ 0 ∷ 0 ∷ 0 ∷ 9 ∷ 9 ∷ 9 ∷ 9 ∷ [])
    ∷ (refused 30 0, replicate 8 9)
    ∷ []
unfolding steps step arrived read_packet8 bad_type bad_count blank octets size_of
afresh = refl

-- the packets since the last start, and none after the end
kept_since : since (key_of 0 0 1) None (steps 128 [] (call 0 0x50120141 ∷ call 0 0x50120142 ∷ call 1 0x50120143 ∷ call 0 0x50210100 ∷ []))
    ≡ Some (0x50120142 ∷ 0 ∷ 0 ∷ 0 ∷ 0x50210100 ∷ 0 ∷ 0 ∷ 0 ∷ [])
unfolding since steps step arrived read_packet8 bad_type bad_count blank octets size_of
kept_since = refl

ended_since : since (key_of 0 0 9) None (steps 64 [] both) ≡ None
unfolding both since steps step arrived read_packet8 bad_type bad_count blank octets size_of
ended_since = refl

-- which calls of port 1 get Full
full_calls : fulls (of_port 1 (steps 64 [] thirteen)) ≡ replicate 4 false ++ (true ∷ false ∷ [])
unfolding thirteen starts steps step arrived read_packet8 bad_type bad_count blank octets size_of
full_calls = refl

-- ---- a table

-- one stream of port 0, group 0, stream id 9, of one packet, in slot 0
abbrev pub one_stream : List ℕ
one_stream = 0x10009 ∷ (replicate 15 0 ++ (4 ∷ replicate 15 0))

abbrev pub words64 : List ℕ
words64 = 0x50120941 ∷ 1 ∷ 2 ∷ 3 ∷ replicate 60 7

means_one : streams_in one_stream words64 ≡ record { key = key_of 0 0 9; packets = 0x50120941 ∷ 1 ∷ 2 ∷ 3 ∷ [] } ∷ []
unfolding streams_below stored_at
means_one = refl

-- a start opens it in slot 0; an end hands it out and frees the slot, and the words stay
opens_one : receive empty_table (replicate 64 7) 0 (0x50120941 ∷ 1 ∷ 2 ∷ 3 ∷ 4 ∷ []) [] ≡ (gives kept, (one_stream, words64, []))
unfolding receive accept arrived stream_at slot_of first_where held_by count stored_at read_packet8 bad_type bad_count blank octets size_of
opens_one = refl

ends_one : receive one_stream words64 0 (0x50320944 ∷ 0 ∷ 0 ∷ 0 ∷ []) (replicate 9 9)
    ≡ (gives (handed_out 8), (0 ∷ (replicate 15 0 ++ (4 ∷ replicate 15 0)), words64, 0x50120941 ∷ 1 ∷ 2 ∷ 3 ∷ 0x50320944 ∷ 0 ∷ 0 ∷ 0 ∷ 9 ∷ []))
unfolding receive accept arrived stream_at slot_of first_where held_by count stored_at read_packet8 bad_type bad_count blank octets size_of
ends_one = refl

-- whatever the table holds: of equal keys the first counts, a length above the part is the part, a key of no port is a slot in use
abbrev pub odd : List ℕ
odd = 5 ∷ 0x10009 ∷ 0x10009 ∷ (replicate 13 0xFFFFFFFF ++ (1 ∷ 99 ∷ 4 ∷ replicate 13 0))

ends_odd : (receive odd (replicate 80 7) 0 (0x50320944 ∷ 0 ∷ 0 ∷ 0 ∷ []) (replicate 9 9)).0 ≡ gives (handed_out 9)
unfolding receive accept arrived stream_at slot_of first_where held_by count stored_at read_packet8 bad_type bad_count blank octets size_of
ends_odd = refl

full-odd : receive odd (replicate 80 7) 1 (0x50120944 ∷ 0 ∷ 0 ∷ 0 ∷ []) [] ≡ (refused 23 0, (odd, replicate 80 7, []))
unfolding receive accept arrived stream_at slot_of first_where held_by count stored_at read_packet8 bad_type bad_count blank octets size_of
full-odd = refl
