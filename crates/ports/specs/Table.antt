-- The table of open streams as it is lent: 16 slots, the key of slot k in word k and the words that it holds in word 16 + k; and the 16
-- equal parts of the lent words. Every content means some streams: a key of 0 is a free slot, of equal keys the first counts, and a length
-- above the part is the part.
-- Assumes nothing.
use Rattle.std.specs.Prelude.{Option, None, Some, Bool, cond, List, [], ◌∷◌, ◌++◌, ℕ, zero, suc, ◌+◌, ◌*◌, ◌/◌, min, eqb, ltb, leb, length, get_or, take, drop, set, replicate}
use Rattle.std.proofs.Math.Seq.{paste}
use Rattle.refusal.specs.Answer.{Answer, writes}
use Rattle.ump.specs.Check.{first_where}
use Rattle.ump.specs.Single.{Kind, complete, start, continue, end, unexpected_end}
use Rattle.ports.specs.Streams.{is_of, Streams, packets_of, refusals, hands_out, Reply, replied, onto, arrived, admit, key_at}

-- ---- slots and parts

-- slot k of the table has this key
abbrev pub has_key : List ℕ → ℕ → ℕ → Bool
has_key table key k = eqb (get_or table k 0) key

-- the first slot with this key, 16 if there is none; so `slot_of table 0` is the first free slot
unfoldable pub slot_of : List ℕ → ℕ → ℕ
slot_of table key = first_where (has_key table key) 16

-- how often a test holds below n
unfoldable pub count : (ℕ → Bool) → ℕ → ℕ
count test zero = zero
count test (suc n) = cond (test n) (suc (count test n)) (count test n)

-- the slots that a port holds
unfoldable pub held_by : List ℕ → ℕ → ℕ
held_by table port = count (λ k. is_of port (get_or table k 0)) 16

-- the words of each part
abbrev pub part_of : List ℕ → ℕ
part_of words = length words / 16

-- the words in use of slot k's part, and what stands in them
abbrev pub used_at : List ℕ → ℕ → ℕ → ℕ
used_at table part k = min (get_or table (16 + k) 0) part

unfoldable pub stored_at : List ℕ → List ℕ → ℕ → List ℕ
stored_at table words k = take (used_at table (part_of words) k) (drop (part_of words * k) words)

-- ---- what a table and its words mean

-- the streams of the first n slots, in the order of the slots
unfoldable pub streams_below : List ℕ → List ℕ → ℕ → Streams
streams_below table words zero = []
streams_below table words (suc k) =
    streams_below table words k ++ cond (has_key table 0 k) [] (record { key = get_or table k 0; packets = stored_at table words k } ∷ [])

abbrev pub streams_in : List ℕ → List ℕ → Streams
streams_in table words = streams_below table words 16

-- the stream of a key, read off its slot
unfoldable pub stream_at : List ℕ → List ℕ → ℕ → Option (List ℕ)
stream_at table words key = cond (ltb (slot_of table key) 16) (Some (stored_at table words (slot_of table key))) None

abbrev pub empty_table : List ℕ
empty_table = replicate 32 0

-- ---- receiving

-- the table with slot k free; k is 16 where there is no such slot
abbrev pub freed : List ℕ → ℕ → List ℕ
freed table k = cond (ltb k 16) (set table k 0) table

-- the slot of a new stream: its own, if it is open, else the first free one
abbrev pub new_slot : List ℕ → ℕ → ℕ
new_slot table k = cond (ltb k 16) k (slot_of table 0)

-- the table and the words after an accepted packet, by its kind; k is the slot of its key
abbrev pub stored_by : Kind → ℕ → ℕ → List ℕ → List ℕ → List ℕ → List ℕ × List ℕ
stored_by start key k table words packet =
    (set (set table (new_slot table k) key) (16 + new_slot table k) 4, paste words (part_of words * new_slot table k) packet 4)
stored_by continue key k table words packet =
    let used = used_at table (part_of words) k in
    (set table (16 + k) (used + 4), paste words (part_of words * k + used) packet 4)
stored_by end key k table words packet = (freed table k, words)
stored_by (unexpected_end valid) key k table words packet = (freed table k, words)
stored_by complete key k table words packet = (freed table k, words)

-- what is lent to a call: the table, the words, the output
abbrev pub Lent : Type 0
Lent = List ℕ × List ℕ × List ℕ

-- a packet that was read, of this kind and key
unfoldable pub accept : Kind → ℕ → ℕ → List ℕ → List ℕ → List ℕ → List ℕ → Answer Reply × Lent
accept kind port key table words packet output =
    let stream = stream_at table words key in
    let four = take 4 packet in
    let after = stored_by kind key (slot_of table key) table words four in
    writes (refusals kind stream (held_by table port) (leb 16 (slot_of table 0)) (part_of words) (length output)) (table, words, output)
    (replied kind (packets_of stream) four)
    (after.0, after.1, onto (hands_out kind (packets_of stream) four) output)

-- a call: the answer, and all that is lent as it is after the call
unfoldable pub receive : List ℕ → List ℕ → ℕ → List ℕ → List ℕ → Answer Reply × Lent
receive table words port packet output =
    admit (arrived (length words) (length output) port packet) (table, words, output)
    (λ p. accept p.kind port (key_at port p) table words packet output)
