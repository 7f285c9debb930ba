-- Wrong outcomes that the promises shut out. Assumes nothing.
use Rattle.refusal.specs.declared.Fault.{Fault}
use Rattle.std.specs.Prelude.{Result, Ok, Err}
use mathlib.Core.Path.{◌≡◌, sym, ap, ◌∙◌}
use mathlib.Core.Bool.{not}
use mathlib.Core.List.{List, [], ◌∷◌, ◌++◌}
use Prim.Native.Nat.{ℕ, ◌+◌}
use lib.Dec.{T, eqb}
use lib.ListN.{get_or, replicate}
use Rattle.refusal.specs.Answer.{Answer}
use Rattle.refusal.specs.declared.Refusal.{Refusal}
use Rattle.refusal.specs.declared.Refusal.TheVariants.{Room, Full, Share}
use Rattle.refusal.specs.Tight as tight
use Rattle.refusal.proofs.Tight.{differ, told}
use Rattle.ump.specs.Word.{octets}
use Rattle.ump.specs.Packet.{size_of}
use Rattle.ump.specs.Check.{first_where, bad_type, bad_count}
use Rattle.ump.specs.Single.{blank, read_packet8}
use Rattle.ports.specs.Streams.{Reply, kept, dropped, handed_out, arrived}
use Rattle.ports.specs.Table as definition
use Rattle.ports.specs.Meaning.{received_meaning}
use Rattle.ports.specs.Samples.{one_stream, words64}
use Rattle.ports.specs.declared.Received.{Received}
use Rattle.ports.specs.declared.Received.TheVariants.{Kept, HandedOut}
use Rattle.ports.proofs.Calls.{clear_given, receive_given}
use Rattle.ports.proofs.clear.Kinds as clear-kinds
use Rattle.ports.proofs.clear.Reads as clear
use Rattle.ports.proofs.receive.Kinds as receive-kinds
use Rattle.ports.proofs.receive.Reads as receive

-- ---- a received packet: its answer, and a word that it leaves in the table, the words or the output

abbrev Outcome : Type 0
Outcome = Answer Reply × definition.Lent

abbrev number : Reply → ℕ
number kept = 0
number dropped = 1
number (handed_out n) = n + 2

abbrev Says : List ℕ → List ℕ → ℕ → List ℕ → List ℕ → Result Received Fault → Type 0
Says table words port packet output wrong =
    tight.ShutOut 4 receive-kinds.ps receive-kinds.r receive.Post (λ κs a x s. receive_given table words port packet output κs a × (x ≡ wrong))

says : (table words : List ℕ) (port : ℕ) (packet output : List ℕ) (wrong : Result Received Fault)
    → T (not (eqb (told number (received_meaning wrong)) (told number (definition.receive table words port packet output).0))) → Says table words port packet output wrong
says table words port packet output wrong t κs a x s w p =
    let g = w.0 in
    differ (told number) t (ap (λ (o : Outcome). o.0) (rw (g.0, g.1, g.2, g.3, g.4, w.1) at p))

-- a word of the table, and of the output
abbrev Leaves : List ℕ → List ℕ → ℕ → List ℕ → List ℕ → ℕ → ℕ → Type 0
Leaves table words port packet output k word =
    tight.ShutOut 4 receive-kinds.ps receive-kinds.r receive.Post (λ κs a x s. receive_given table words port packet output κs a × (get_or s.0.now k 0 ≡ word))

leaves : (table words : List ℕ) (port : ℕ) (packet output : List ℕ) (k word : ℕ) → T (not (eqb word (get_or (definition.receive table words port packet output).1.0 k 0)))
    → Leaves table words port packet output k word
leaves table words port packet output k word t κs a x s w p =
    let g = w.0 in
    differ (λ (n : ℕ). n) t (sym w.1 ∙ ap (λ (o : Outcome). get_or o.1.0 k 0) (rw (g.0, g.1, g.2, g.3, g.4) at p))

abbrev Puts : List ℕ → List ℕ → ℕ → List ℕ → List ℕ → ℕ → ℕ → Type 0
Puts table words port packet output k word =
    tight.ShutOut 4 receive-kinds.ps receive-kinds.r receive.Post (λ κs a x s. receive_given table words port packet output κs a × (get_or s.1.1.1.1.0.now k 0 ≡ word))

puts : (table words : List ℕ) (port : ℕ) (packet output : List ℕ) (k word : ℕ) → T (not (eqb word (get_or (definition.receive table words port packet output).1.2 k 0)))
    → Puts table words port packet output k word
puts table words port packet output k word t κs a x s w p =
    let g = w.0 in
    differ (λ (n : ℕ). n) t (sym w.1 ∙ ap (λ (o : Outcome). get_or o.1.2 k 0) (rw (g.0, g.1, g.2, g.3, g.4) at p))

abbrev fault : Refusal → Result Received Fault
fault refusal = Err (record { refusal = refusal; place = 0 })

-- a packet of a first word and zeros
abbrev packet : ℕ → List ℕ
packet x = x ∷ 0 ∷ 0 ∷ 0 ∷ []

-- 12 streams of port 0 and four of port 1, of stream ids 0 to 11 and 0 to 3
abbrev all : List ℕ
all =
    0x10000 ∷ 0x10001 ∷ 0x10002 ∷ 0x10003 ∷ 0x10004 ∷ 0x10005 ∷ 0x10006 ∷ 0x10007 ∷ 0x10008 ∷ 0x10009 ∷ 0x1000A ∷ 0x1000B ∷ 0x20000 ∷ 0x20001 ∷ 0x20002 ∷ 0x20003
    ∷ replicate 16 4

-- the end that must fit the part (end_in_part), of a part that it goes past; the stream that a complete packet closes without room for it
-- (closes); the restart that is Full (restart), or Share (restart_share); the 13th stream of a port (thirteenth); the dropping end that asks
-- for output (drop_room), or hands out (drop_hands); an end without a stream that is Room (room_first); port 1 that goes on with the stream
-- of port 0 (one_port); a slot that is not freed (not_freed); the packets before the last start, handed out (old_words); a table that a
-- refusal changes (refusal_writes); a key of no port that is taken for free (nobody)
record Shuts : Type 0 where
  end_in_part : Says one_stream words64 0 (packet 0x50320944) (replicate 8 9) (fault Room)
  closes : Leaves one_stream words64 0 (packet 0x50020944) (replicate 3 9) 0 0
  restart : Says all words64 1 (packet 0x50120344) [] (fault Full)
  restart_share : Says all words64 0 (packet 0x50120B44) [] (fault Share)
  thirteenth : Says (replicate 3 0 ++ (0x10000 ∷ 0x10001 ∷ 0x10002 ∷ 0x10003 ∷ 0x10004 ∷ 0x10005 ∷ 0x10006 ∷ 0x10007 ∷ 0x10008 ∷ 0x10009 ∷ 0x1000A ∷ 0x1000B ∷ 0 ∷ replicate 16 4)) words64 0 (packet 0x50120C44) [] (Ok Kept)
  drop_room : Says one_stream words64 0 (packet 0x503F0900) [] (fault Room)
  drop_hands : Says one_stream words64 0 (packet 0x503F0900) (replicate 8 9) (Ok (HandedOut 8))
  room_first : Says one_stream words64 1 (packet 0x50320944) [] (fault Room)
  one_port : Says one_stream (replicate 128 7) 1 (packet 0x50220944) [] (Ok Kept)
  not_freed : Leaves one_stream words64 0 (packet 0x50320944) (replicate 8 9) 0 0x10009
  old_words : Puts one_stream words64 0 (packet 0x50320944) (replicate 8 9) 0 9
  refusal_writes : Leaves one_stream words64 0 (packet 0x50220944) [] 16 8
  nobody : Says (5 ∷ (replicate 15 0x20000 ++ replicate 16 0)) words64 0 (packet 0x50120944) [] (Ok Kept)

shuts : Shuts
unfolding definition.receive definition.accept arrived definition.stream_at definition.slot_of first_where definition.held_by definition.count definition.stored_at read_packet8 bad_type bad_count blank octets size_of
shuts =
    record {
      end_in_part = says _ _ _ _ _ _ tt;
      closes = leaves _ _ _ _ _ _ _ tt;
      restart = says _ _ _ _ _ _ tt;
      restart_share = says _ _ _ _ _ _ tt;
      thirteenth = says _ _ _ _ _ _ tt;
      drop_room = says _ _ _ _ _ _ tt;
      drop_hands = says _ _ _ _ _ _ tt;
      room_first = says _ _ _ _ _ _ tt;
      one_port = says _ _ _ _ _ _ tt;
      not_freed = leaves _ _ _ _ _ _ _ tt;
      old_words = puts _ _ _ _ _ _ _ tt;
      refusal_writes = leaves _ _ _ _ _ _ _ tt;
      nobody = says _ _ _ _ _ _ tt;
    }

-- ---- a cleared table: no key stays, and no length

abbrev Clears : ℕ → ℕ → Type 0
Clears k word = tight.ShutOut 1 clear-kinds.ps clear-kinds.r clear.Post (λ κs a x s. clear_given one_stream κs a × (get_or s.0.now k 0 ≡ word))

key_stays : Clears 0 0x10009
key_stays κs a x s w p = differ (λ (n : ℕ). n) tt (sym w.1 ∙ ap (λ (table : List ℕ). get_or table 0 0) p)

length-stays : Clears 16 4
length-stays κs a x s w p = differ (λ (n : ℕ). n) tt (sym w.1 ∙ ap (λ (table : List ℕ). get_or table 16 0) p)
