-- `ports::find`: the first of the 16 keys that is this one. Assumes nothing.
use Rattle.std.proofs.Common.{◌≡◌, ◌∙◌, length, take, rules, tests, arith, eqb}
use Rattle.std.specs.List.{position}
use Rattle.std.proofs.lemmas.Iterator.{YieldsList-from_slice}
use Rattle.std.proofs.lemmas.Iterator.Search.{position_from_yields_List}
use Rattle.ports.proofs.Looks.{found_position}
use Rattle.ports.proofs.find.Goals as goal

pub returns : goal.returns
returns c =
    let table = c.args.table.now in
    let w : length table ≡ 32 = omega arith in
    let e : c.position.result ≡ position (λ x. eqb x c.args.key) (take 16 table) =
    position_from_yields_List (λ x. eqb x c.args.key) _ _ c.position.result c.position.ensures.ran (YieldsList-from_slice _ c.iter.ensures.rest) (λ x b q k. search (rules, tests)) in
    e ∙ found_position table w c.args.key
