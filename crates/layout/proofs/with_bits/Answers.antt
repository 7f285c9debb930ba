-- `layout::with_bits`: the bits are cleared, and the value put in. Assumes nothing.
use Rattle.std.proofs.Common.{arith}
use Rattle.std.proofs.lemmas.Nat.{one_shl, pow_pos}
use Rattle.ump.proofs.Masks.{set_code}
use Rattle.layout.proofs.with_bits.Goals as goal

pub returns : goal.returns
returns c =
    let a = c.args in let p = c.requires in
    set_code a.width a.low a.word a.value p.3 _ (omega (arith, one_shl a.width 32 p.2, pow_pos a.width)) p.0 c.ranges.word.fits
