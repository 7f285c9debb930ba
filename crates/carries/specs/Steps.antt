-- What the steps of the call are given.
-- Assumes nothing.
use Rattle.std.specs.Prelude.{◌≡◌, Bool, cond, ltb, Option, Some, None, List, ℕ, ◌+◌, ◌*◌, ◌≤◌, ◌<◌, length}
use Rattle.ump.specs.Packet.{sysex8, size_at}
use Rattle.ump.specs.Check.{first_where}
use Rattle.message.specs.Scan.{Inside, Counted}

-- packet p of a SysEx8 message stands in the words, of this payload size, and no more bytes than a message may have stand before it
pub record Before (words : List ℕ) (p size at : ℕ) : Type 0 where
  pub there : 4 * p + 4 ≤ length words
  pub few : p < 4096
  pub size_is : size ≡ size_at sysex8 words p
  pub not_far : at ≤ 53248

-- all packets stand in the words and have counts of SysEx8
pub record AllCounted (words : List ℕ) (n : ℕ) : Type 0 where
  pub inside : Inside 4 n words
  pub counted : Counted 4 n 1 14 words

-- the least index below n at which a test holds
abbrev pub first_found : (ℕ → Bool) → ℕ → Option ℕ
first_found test n = cond (ltb (first_where test n) n) (Some (first_where test n)) None
