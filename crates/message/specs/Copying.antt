-- The payload copied out, packet after packet.
-- Assumes nothing.
use Rattle.std.specs.Prelude.{◌≡◌, List, ◌++◌, ℕ, ◌+◌, ◌*◌, ◌≤◌, ◌<◌, length, drop, set}
use Rattle.std.proofs.Math.Seq.{paste}
use Rattle.ump.specs.Word.{octet}
use Rattle.ump.specs.Packet.{sysex8, size_at, payload_at, payload}
use Rattle.message.specs.Scan.{Inside}

-- packet p of a SysEx8 message stands in the words, and its payload fits into the bytes from `at` on
pub record Fitting (words bytes : List ℕ) (p at : ℕ) : Type 0 where
  pub there : 4 * p + 4 ≤ length words
  pub few : p < 4096
  pub room : at + size_at sysex8 words p ≤ length bytes

-- the bytes with its payload there
abbrev pub copied : List ℕ → List ℕ → ℕ → ℕ → List ℕ
copied words bytes p at = paste bytes at (payload_at sysex8 words p) (size_at sysex8 words p)

-- how far the copy comes, and what it leaves
abbrev pub CopiedTo : List ℕ → List ℕ → List ℕ → ℕ → ℕ → ℕ → Type 0
CopiedTo words before after p at end = (end ≡ at + size_at sysex8 words p) × (after ≡ copied words before p at)

-- all packets stand in the words, which are no more than a message may have, and their payload fits into the bytes
pub record AllFitting (words bytes : List ℕ) (n : ℕ) : Type 0 where
  pub inside : Inside 4 n words
  pub room : length (payload sysex8 words n) ≤ length bytes

-- the bytes with that payload in front
abbrev pub all_copied : List ℕ → List ℕ → ℕ → List ℕ
all_copied words bytes n = payload sysex8 words n ++ drop (length (payload sysex8 words n)) bytes

-- the bytes with the four octets of a word there
abbrev pub put_four : List ℕ → ℕ → ℕ → List ℕ
put_four bytes at word = set (set (set (set bytes at (octet word 0)) (at + 1) (octet word 1)) (at + 2) (octet word 2)) (at + 3) (octet word 3)
