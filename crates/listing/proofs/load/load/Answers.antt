-- `listing::load::load`: the three refusals, and then the words, stored and checked. Assumes nothing.
use Rattle.std.proofs.Common.{◌≡◌, sym, ap, ap₂, ◌∙◌, List, ℕ, ◌/◌, length, take, arith}
use lib.Seq.{take_at}
use Rattle.ump.specs.Word.{words_of}
use Rattle.ump.specs.Packet.{sysex8}
use Rattle.ump.specs.Check.{checked}
use Rattle.ump.proofs.Words.{length-words_of}
use Rattle.listing.proofs.Loading.{load_long, load_short, load_ragged, load_whole}
use Rattle.listing.proofs.load.load.Goals as goal

pub returns-then-size-gt-BYTES : goal.returns-then-size-gt-BYTES
returns-then-size-gt-BYTES c = rw c.into.ensures (sym (load_long _ _ c.if-size-gt-BYTES.true))

pub returns-then-size-lt16 : goal.returns-then-size-lt16
returns-then-size-lt16 c = rw c.into-then-size-lt16.ensures (sym (load_short _ _ c.if-size-gt-BYTES.false c.if-size-lt16.true))

pub returns-then-size-ne0 : goal.returns-then-size-ne0
returns-then-size-ne0 c =
    rw c.into-then-size-ne0.ensures (sym (load_ragged _ _ c.if-size-gt-BYTES.false c.if-size-lt16.false c.if-size-ne0.true))

pub returns : goal.returns
returns c =
    let b = c.args.bytes.now in
    let n : length (words_of b) ≡ length b / 4 = length-words_of _ _ (omega (arith, c.if-size-ne0.false)) in
    let e : take (length b / 4) c.store_words.new.words ≡ words_of b = rw c.store_words.ensures (take_at (words_of b) _ (length b / 4) n) in
    ap₂ (λ x y. (x, y))
    (c.check.ensures ∙ ap (λ (w : List ℕ). checked sysex8 w (length b / 4)) e ∙ ap (λ (m : ℕ). checked sysex8 (words_of b) m) (sym n))
    c.store_words.ensures
    ∙ sym (load_whole b c.args.words.now c.if-size-gt-BYTES.false c.if-size-lt16.false c.if-size-ne0.false)
