-- One byte of a dump of a store, without restoring it (02, T-08).
-- Assumes nothing.
use Rattle.std.specs.Prelude.{List, ℕ, suc, length}
use Rattle.refusal.specs.Answer.{Answer, gives, refused, ◌▷◌}
use Rattle.ump.specs.Setters.{nth_byte}
use Rattle.store.specs.Store.{dumps_of, sound}
use Rattle.chain.specs.Restore.{Payload, restored, unlimited}

-- byte i of a restored dump: its refusal, then Range
abbrev pub byte_found : Answer Payload → ℕ → Answer ℕ
byte_found (gives payload) i = nth_byte payload.bytes i
byte_found (refused number place) i = refused number place

-- Format, Twice, Full, Missing, Ring, Range of an edit along the walk, then Range of the position
unfoldable pub byte_of_dump : List ℕ → ℕ → ℕ → Answer ℕ
byte_of_dump store number i = sound store ▷ byte_found (restored unlimited (dumps_of store) (suc (length (dumps_of store))) number) i
