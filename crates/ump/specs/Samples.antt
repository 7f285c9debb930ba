-- The worked examples of document 01, P1 to P12, computed.
-- Assumes nothing.
use Rattle.std.specs.Prelude.{◌≡◌, refl, Bool, true, false, List, [], ◌∷◌, ◌++◌, ℕ, ℤ, pos, negsuc, length, replicate}
use Rattle.refusal.specs.Answer.{Answer, gives, refused}
use Rattle.ump.specs.Word.{octets, words_of}
use Rattle.ump.specs.Packet.{sysex8, sysex7, size_of, payload_at, joined, payload}
use Rattle.ump.specs.Packing.{status_for, frame, packs_at, packs, packets_for, pack}
use Rattle.ump.specs.Check.{first_where, bad_type, bad_status, bad_count, bad_group, bad_id, status_number, check_packets, check, payload_of, Summary, summary, checked}
use Rattle.ump.specs.Single.{Packet, single_packet, Kind, complete, end, unexpected_end, blank, read_packet8, read_packet7}
use Rattle.ump.specs.Splice.{Spliced, stored, rewritten, repack, splice}
use Rattle.ump.specs.Edits.{Edit, Range, Patch, patch_at, move_edit}
use Rattle.ump.specs.Stream.{to_sysex7}

-- Where the buffer is longer than 01's words, the words behind are 9, so that what must stay is seen to stay.

-- a first word and three zero words
abbrev pub alone : ℕ → List ℕ
alone x = x ∷ 0 ∷ 0 ∷ 0 ∷ []

abbrev pub message2 : List ℕ
message2 = 0x52030741 ∷ 0x42000000 ∷ 0 ∷ 0 ∷ []

abbrev message3 : List ℕ
message3 = alone 0x50110900 ++ alone 0x50310900

abbrev pub message4 : List ℕ
message4 = 0x501E0001 ∷ 0x02030405 ∷ 0x06070809 ∷ 0x0A0B0C0D ∷ alone 0x50310000

abbrev pub message5 : List ℕ
message5 = 0x511305A0 ∷ 0xA1000000 ∷ 0 ∷ 0 ∷ (alone 0x51210500 ++ alone 0x513205A2)

abbrev pub bytes6 : List ℕ
bytes6 = 0x10 ∷ 0x11 ∷ 0x12 ∷ 0x13 ∷ 0x14 ∷ 0x15 ∷ 0x16 ∷ 0x17 ∷ 0x18 ∷ 0x19 ∷ 0x1A ∷ 0x1B ∷ 0x1C ∷ []

abbrev pub patches8 : List Patch
patches8 = record { from = 0; to = 1; bytes = 0xB0 ∷ 0xB1 ∷ [] } ∷ record { from = 2; to = 3; bytes = [] } ∷ []

abbrev pub patches9 : List Patch
patches9 = record { from = 1; to = 1; bytes = 0xC0 ∷ [] } ∷ record { from = 1; to = 1; bytes = 0xC1 ∷ [] } ∷ []

abbrev edit : Patch → Edit
edit patch = record { from = patch.from; to = patch.to; length = length patch.bytes }

-- the bytes of a pending edit spliced at its moved range, into what a splice left
abbrev go_on : Answer Spliced × List ℕ → Answer Range → List ℕ → Answer Spliced × List ℕ
go_on (gives change, words) (gives range) bytes = splice sysex8 words change.length range.from range.to bytes
go_on (gives change, words) (refused number place) bytes = (refused number place, words)
go_on (refused number place, words) range bytes = (refused number place, words)

-- two edits of a message one after the other: this one, and that one moved past it; whether this one is first in the list
abbrev pub in_turn : List ℕ → ℕ → Patch → Patch → Bool → Answer Spliced × List ℕ
in_turn words len this that this-first =
    go_on (splice sysex8 words len this.from this.to this.bytes) (move_edit (edit this) (edit that) this-first) that.bytes

-- P5's message with both edits of a list, the first one first, and the second one first
abbrev up5 : List Patch → Answer Spliced × List ℕ
up5 patches = in_turn message5 12 (patch_at patches 0) (patch_at patches 1) true

abbrev down5 : List Patch → Answer Spliced × List ℕ
down5 patches = in_turn message5 12 (patch_at patches 1) (patch_at patches 0) false

abbrev message : ℕ → List ℕ → ℕ → ℕ → Answer Summary
message group id size words = gives (summary group id size words)

abbrev single : Kind → ℕ → List ℕ → ℕ → Answer Packet
single kind group id size = gives (single_packet kind group id size)

abbrev done : ℕ → ℤ → Answer Spliced
done length growth = gives (record { length = length; growth = growth })

pub record Samples : Type 0 where
  pub P1 : checked sysex8 (alone 0x50010000) 4 ≡ message 0 (0 ∷ []) 0 4
  pub P2 : (checked sysex8 message2 4 ≡ message 2 (7 ∷ []) 2 4) × (payload_of sysex8 message2 4 ≡ 0x41 ∷ 0x42 ∷ [])
  pub P3 : repack sysex8 (message3 ++ 9 ∷ []) 8 ≡ (gives 4, alone 0x50010900 ++ (replicate 4 0 ++ 9 ∷ []))
  pub P4 : repack sysex8 message4 8 ≡ (gives 4, 0x500E0001 ∷ 0x02030405 ∷ 0x06070809 ∷ 0x0A0B0C0D ∷ replicate 4 0)
  pub P5 : repack sysex8 message5 12 ≡ (gives 4, 0x510405A0 ∷ 0xA1A20000 ∷ replicate 10 0)
  pub P6 : splice sysex8 (message2 ++ replicate 4 9) 4 1 1 bytes6
      ≡ (done 8 (pos 13), 0x521E0741 ∷ 0x10111213 ∷ 0x14151617 ∷ 0x18191A1B ∷ 0x5233071C ∷ 0x42000000 ∷ 0 ∷ 0 ∷ [])
  pub P7 : splice sysex8 (message2 ++ replicate 3 9) 4 1 1 bytes6 ≡ (refused 14 0, message2 ++ replicate 3 9)
  pub P8 : (up5 patches8 ≡ (done 4 (negsuc 0), 0x510405B0 ∷ 0xB1A10000 ∷ replicate 10 0))
      × (down5 patches8 ≡ (done 4 (pos 1), 0x510405B0 ∷ 0xB1A10000 ∷ replicate 10 0))
  pub P9 : (up5 patches9 ≡ (done 4 (pos 1), 0x510605A0 ∷ 0xC0C1A1A2 ∷ replicate 10 0))
      × (down5 patches9 ≡ (done 4 (pos 1), 0x510605A0 ∷ 0xC0C1A1A2 ∷ replicate 10 0))
  pub P10 : (read_packet8 (alone 0x503F0900) ≡ single (unexpected_end false) 0 (9 ∷ []) 0)
      × (read_packet8 (alone 0x503F0901) ≡ refused 10 0)
      × (read_packet8 (alone 0x50320900) ≡ single end 0 (9 ∷ []) 1)
      × (payload_at sysex8 (alone 0x50320900) 0 ≡ 0 ∷ [])
  pub P11 : (read_packet7 (0x30F90000 ∷ 0 ∷ []) ≡ refused 10 0)
      × (read_packet7 (0x30F60000 ∷ 0 ∷ []) ≡ refused 15 0)
      × (read_packet7 (0x3002C142 ∷ 0 ∷ []) ≡ single complete 0 [] 2)
      × (payload_at sysex7 (0x3002C142 ∷ 0 ∷ []) 0 ≡ 0x41 ∷ 0x42 ∷ [])
  pub P12 : to_sysex7 (0xF0 ∷ 1 ∷ 2 ∷ 3 ∷ 4 ∷ 5 ∷ 6 ∷ 7 ∷ 0xF7 ∷ []) 0 (replicate 5 9)
      ≡ (gives 4, 0x30160102 ∷ 0x03040506 ∷ 0x30310700 ∷ 0 ∷ 9 ∷ [])

pub samples : Samples
unfolding to_sysex7 read_packet8 read_packet7 blank move_edit splice repack rewritten stored checked check check_packets bad_type bad_status bad_count bad_group bad_id status_number first_where payload payload_at size_of octets pack packs packs_at packets_for status_for frame joined words_of
samples = record {
  P1 = refl;
  P2 = (refl, refl);
  P3 = refl;
  P4 = refl;
  P5 = refl;
  P6 = refl;
  P7 = refl;
  P8 = (refl, refl);
  P9 = (refl, refl);
  P10 = (refl, refl, refl, refl);
  P11 = (refl, refl, refl, refl);
  P12 = refl;
}
