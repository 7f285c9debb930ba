-- The exported call that writes a byte stream, with any outcome that its promise allows. Definitions alone. Assumes nothing.
use mathlib.Core.Path.{◌≡◌}
use Rattle.refusal.specs.Tight.{Called}
use Rattle.ump.specs.RealTime.{Writer}
use Rattle.stream.proofs.Writer.{stream_given}
use Rattle.answers.specs.Read.{number_read}
use Rattle.latchbeacon.proofs.streams.latchbeacon_bytes_to_sysex7.Kinds as kinds
use Rattle.latchbeacon.proofs.streams.latchbeacon_bytes_to_sysex7.Reads as exported

-- `latchbeacon_bytes_to_sysex7` is called on these bytes, this group and these words; its struct is read so, and it leaves these words
abbrev pub Writes : Writer
Writes bytes group words answer left =
    Called 2 kinds.ps kinds.r exported.Post (stream_given bytes group words)
    (λ κs said. number_read said) (λ κs exit. exit.1.1.0.now ≡ left) answer
