-- `message::heads::set_heads`: the first words of the packets passed are changed. Assumes nothing.
use Rattle.std.proofs.Common.{◌≡◌, ℕ}
use Rattle.ump.specs.Packet.{sysex8}
use Rattle.ump.specs.Setters.{on_heads}
use Rattle.message.proofs.heads.set_heads.Given as goal

abbrev pub invariant-loop-packet : goal.invariant-loop-packet
invariant-loop-packet g l =
    (head : ℕ → ℕ) → ((word changed : ℕ) → goal.C-post g l.change word changed → changed ≡ head word)
    → l.words ≡ on_heads sysex8 head l.fn.words l.packet
