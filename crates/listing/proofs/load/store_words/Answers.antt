-- `listing::load::store_words`: word after word. Assumes nothing.
use Rattle.std.proofs.Common.{◌≡◌, sym, ◌∙◌, ◌<◌, length, get_or, arith}
use lib.Seq.{take-length}
use Rattle.ump.specs.Word.{words_of}
use Rattle.ump.proofs.Words.{length-words_of, get_d_words_of}
use Rattle.listing.proofs.Texts.{front_more}
use Rattle.listing.proofs.load.store_words.Goals as goal

pub loop-index-preserved : goal.loop-index-preserved
loop-index-preserved c =
    let l = c.loop-index in
    let b = c.args.bytes.now in
    let n = length-words_of b c.args.count c.requires.0 in
    let h : l.index < length (words_of b) = omega arith in
    let w : c.word_of.result ≡ get_or (words_of b) l.index 0 = c.word_of.ensures ∙ sym (get_d_words_of b l.index (omega arith)) in
    rw (w, l.invariant) (front_more (words_of b) c.args.words.now l.index h (omega arith))

pub returns : goal.returns
returns c =
    let b = c.args.bytes.now in
    let e : c.loop-index.index ≡ length (words_of b) = omega (arith, length-words_of b c.args.count c.requires.0) in
    c.loop-index.invariant ∙ rw (e, take-length)
