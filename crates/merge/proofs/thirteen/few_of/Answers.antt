-- `few_of` meets its contract. Assumes nothing.
use Rattle.std.proofs.Common.{◌≡◌, length, sym, ◌∙◌, arith}
use lib.Seq.{take-length}
use Rattle.merge.proofs.Parts.{byte_more, few_zeros}
use Rattle.merge.proofs.thirteen.few_of.Goals as goal

pub loop-index-init : goal.loop-index-init
loop-index-init c = c.requires.1.1

pub with_byte-t-requires : goal.with_byte-t-requires
with_byte-t-requires c =
    let l = c.loop-index in
    (omega arith, rw l.invariant (few_zeros c.args.bytes.now l.index (omega arith)))

pub loop-index-preserved : goal.loop-index-preserved
loop-index-preserved c =
    let l = c.loop-index in
    c.with_byte-t.ensures ∙ rw l.invariant (sym (byte_more c.args.bytes.now l.index (omega arith) (omega arith)))

pub returns : goal.returns
returns c =
    let l = c.loop-index in
    let e : l.index ≡ length c.args.bytes.now = omega arith in
    l.invariant ∙ rw (e, take-length c.args.bytes.now)
