-- What the check has shown of a message.
-- Assumes nothing.
use Rattle.std.specs.Prelude.{◌≡◌, List, ℕ, length}
use Rattle.refusal.specs.Answer.{pass}
use Rattle.ump.specs.Packet.{sysex8}
use Rattle.ump.specs.Check.{check, payload_of}

-- the message in the first len words passes, and its payload is of this size
pub record Accepted (words : List ℕ) (len size : ℕ) : Type 0 where
  pub passes : check sysex8 words len ≡ pass
  pub sized : size ≡ length (payload_of sysex8 words len)
