-- `listing::load::store_words`: word after word. Assumes nothing.
use Rattle.std.proofs.Common.{◌≡◌, ◌++◌, take, drop}
use Rattle.ump.specs.Word.{words_of}
use Rattle.listing.proofs.load.store_words.Given as goal

abbrev pub invariant-loop-index : goal.invariant-loop-index
invariant-loop-index l = l.words ≡ take l.index (words_of l.bytes) ++ drop l.index l.fn.words
