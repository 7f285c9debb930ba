-- `store::finding::find`. Assumes nothing.
use Rattle.std.proofs.Common.{rules}
use borrow.Author.Tests.{tests}
use Rattle.std.proofs.lemmas.Iterator.{YieldsList-from_slice}
use Rattle.std.proofs.lemmas.Iterator.Consumers.{YieldsList-from_copied}
use Rattle.std.proofs.lemmas.Iterator.Search.{find_from_yields_List}
use Rattle.store.proofs.Standing.{numbered, finds_from}
use Rattle.store.proofs.finding.find.Goals as goal

pub returns : goal.returns
returns c =
    let x = c.args in
    finds_from x.store.now x.number
    (find_from_yields_List (numbered x.store.now x.number) _ _ c.find.result c.find.ensures.ran (YieldsList-from_copied (YieldsList-from_slice x.places.now cc))
    (λ x b q k. search (rules, tests)))
