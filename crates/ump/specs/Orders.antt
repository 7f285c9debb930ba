-- Two orders of the same edits come to the same message, and to other words behind it: 01 says that those may differ.
-- Assumes nothing.
use Rattle.std.specs.Prelude.{List, [], ◌∷◌, ◌++◌, ℕ, replicate}
use Rattle.ump.specs.Packet.{sysex8}
use Rattle.ump.specs.Edits.{Edit, Patch}
use Rattle.ump.specs.Worker.{Calls, finished, Works, Fits, bytes_of, start}

-- 13 bytes in one packet, and four words behind it
abbrev pub words : List ℕ
words = 0x500E0001 ∷ 0x02030405 ∷ 0x06070809 ∷ 0x0A0B0C0D ∷ replicate 4 9

-- a byte put in before the first, and the last byte taken out
abbrev pub patches : List Patch
patches = record { from = 0; to = 0; bytes = 0xEE ∷ [] } ∷ record { from = 12; to = 13; bytes = [] } ∷ []

abbrev pub message : List ℕ
message = 0x500E00EE ∷ 0x01020304 ∷ 0x05060708 ∷ 0x090A0B0C ∷ []

-- By such calls: demand 3 allows the edits; grown first, the message has two packets on the way, and zeros are left of the second; shrunk
-- first, the words behind stay.
pub record BehindDiffers (calls : Calls (List ℕ) Edit) : Type 0 where
  pub fits : Fits sysex8 words 4 patches
  pub grown_first : Works calls (bytes_of patches) (start words 4 patches) (0 ∷ 1 ∷ []) (finished (message ++ replicate 4 0) 4)
  pub shrunk_first : Works calls (bytes_of patches) (start words 4 patches) (1 ∷ 0 ∷ []) (finished (message ++ replicate 4 9) 4)
