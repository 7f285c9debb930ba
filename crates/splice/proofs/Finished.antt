-- Both heads made anew, and zeros: bytes that are poured become the message. Assumes nothing.
use mathlib.Core.Path.{◌≡◌, ap, ◌∙◌}
use mathlib.Core.List.{List, ◌++◌}
use Prim.Native.Nat.{ℕ, ◌-◌, ◌*◌, ◌/◌, ◌≤◌}
use native.Mathlib.Omega.{arith}
use lib.ListN.{length, drop}
use Rattle.ump.specs.Word.{Below}
use Rattle.ump.specs.Packet.{sysex8}
use Rattle.ump.specs.Packing.{packets_for, words_for, pack}
use Rattle.ump.specs.Splice.{stored}
use Rattle.ump.proofs.Packing.{length_pack}
use Rattle.flow.specs.Flowing.{Poured}
use Rattle.flow.specs.Heads.{base_for, head_for, inner_head}
use Rattle.flow.proofs.Ends.{ends_are}
use Rattle.splice.specs.Header.{with_head, finished}
use Rattle.splice.proofs.Zeros.{zeroed_is_stored}

module _ (w bytes : List ℕ) (g : ℕ) (id : List ℕ) (base n end : ℕ) (sized : n ≡ length bytes) (below : Below 256 bytes) (named : length id ≡ 1)
    (shared : base ≡ base_for sysex8 g id) (ends : end ≡ words_for sysex8 n) (fits : end ≤ length w)
    (us : List ℕ) (poured : Poured sysex8 w bytes (inner_head sysex8 base) (end / 4) us) where
  pub finished_is : (len : ℕ) → finished base n us end len ≡ stored w len (pack sysex8 g id bytes)
  finished_is len =
      let packets : end / 4 ≡ packets_for sysex8 (length bytes) = omega (arith, ends, ap (packets_for sysex8) sized) in
      let whole : 4 * (end / 4) ≡ end = omega (arith, ends) in
      let at : end - 4 ≡ 4 * (end / 4 - 1) = omega (arith, whole) in
      let made : with_head (head_for sysex8 base n (end / 4 - 1)) (with_head (head_for sysex8 base n 0) us 0) (end - 4) ≡ pack sysex8 g id bytes ++ drop end w =
      rw (at, sized)
      (ends_are sysex8 w bytes g id base (end / 4) below named shared packets (omega (arith, whole)) us poured ∙ rw whole) in
      rw made (zeroed_is_stored (pack sysex8 g id bytes) w len end (length_pack sysex8 g id bytes named ∙ rw (ends, sized)))
