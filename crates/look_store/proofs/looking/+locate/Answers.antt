-- The recursion of `look_store::looking::locate`: a dump, then its base. Assumes nothing.
use Rattle.std.proofs.Common.{◌∙◌, sym, ap, arith}
use Rattle.store.specs.Store.{is_whole, patches_in}
use Rattle.store.specs.Places.{next_at, records_from}
use Rattle.store.specs.Meaning.{found_meaning}
use Rattle.store.proofs.Parts.{test_is}
use Rattle.chain.specs.Restore.{unlimited}
use Rattle.chain.proofs.Steps.{found_at, restored-none, step_missing}
use Rattle.look_store.specs.Looking.{ComesFrom}
use Rattle.look_store.proofs.Steps.{DeltaHere, located_refused, looks_inside, located_whole, delta_ordered, located_edit, looks_below, located_below}
use Rattle.look_store.proofs.looking.+locate.Goals as goal

pub returns-then-left-eq0 : goal.returns-then-left-eq0
returns-then-left-eq0 t c = located_refused (restored-none unlimited _ c.args.left c.args.number c.if-left-eq0.true)

pub returns-then-is_whole : goal.returns-then-is_whole
returns-then-is_whole t c =
    let store = c.args.store.now in
    let stands = found_at store (c.find.ensures.stands c.requires.noted) c.in-Some.is in
    let there = ap (found_meaning store) (sym c.in-Some.is) ∙ c.find.ensures.is c.requires.noted in
    located_whole store c.args.number c.args.left c.if-left-eq0.false c.in-Some.at stands.1 there
    (test_is is_whole c.is_whole.ensures c.byte.ensures c.if-is_whole.true) (c.next-place.ensures.is stands.0) c.data_byte.ensures

pub source_of-requires : goal.source_of-requires
source_of-requires t c =
    let store = c.args.store.now in
    let delta : DeltaHere store c.args.number c.args.left c.in-Some.at =
    record {
      some_left = c.if-left-eq0.false;
      begins = found_at store (c.find.ensures.stands c.requires.noted) c.in-Some.is;
      is = ap (found_meaning store) (sym c.in-Some.is) ∙ c.find.ensures.is c.requires.noted;
      other = test_is is_whole c.is_whole.ensures c.byte.ensures c.if-is_whole.false;
    } in
    (looks_inside c.requires, rw (c.next-place.ensures.is delta.begins.0) (delta_ordered delta c.requires))

pub locate-requires : goal.locate-requires
locate-requires t c =
    let store = c.args.store.now in
    let delta : DeltaHere store c.args.number c.args.left c.in-Some.at =
    record {
      some_left = c.if-left-eq0.false;
      begins = found_at store (c.find.ensures.stands c.requires.noted) c.in-Some.is;
      is = ap (found_meaning store) (sym c.in-Some.is) ∙ c.find.ensures.is c.requires.noted;
      other = test_is is_whole c.is_whole.ensures c.byte.ensures c.if-is_whole.false;
    } in
    let source : ComesFrom (patches_in (records_from store (next_at store c.in-Some.at))) c.args.position c.source_of.result =
    rw (c.next-place.ensures.is delta.begins.0) at c.source_of.ensures in
    (omega (arith, delta.some_left), looks_below delta (source.base _ c.in-Base.is) c.number_at.ensures.0 c.requires)

pub returns-in_default : goal.returns-in_default
returns-in_default t c =
    located_refused
    (step_missing unlimited c.args.store.now c.args.left c.args.number c.if-left-eq0.false
    (ap (found_meaning c.args.store.now) (sym c.in_default.is) ∙ c.find.ensures.is c.requires.noted))

pub returns-in-Edit : goal.returns-in-Edit
returns-in-Edit t c =
    let store = c.args.store.now in
    let delta : DeltaHere store c.args.number c.args.left c.in-Some.at =
    record {
      some_left = c.if-left-eq0.false;
      begins = found_at store (c.find.ensures.stands c.requires.noted) c.in-Some.is;
      is = ap (found_meaning store) (sym c.in-Some.is) ∙ c.find.ensures.is c.requires.noted;
      other = test_is is_whole c.is_whole.ensures c.byte.ensures c.if-is_whole.false;
    } in
    let source : ComesFrom (patches_in (records_from store (next_at store c.in-Some.at))) c.args.position c.source_of.result =
    rw (c.next-place.ensures.is delta.begins.0) at c.source_of.ensures in
    located_edit delta (source.edit _ c.in-Edit.is)

pub returns-in-Base : goal.returns-in-Base
returns-in-Base t c =
    let store = c.args.store.now in
    let delta : DeltaHere store c.args.number c.args.left c.in-Some.at =
    record {
      some_left = c.if-left-eq0.false;
      begins = found_at store (c.find.ensures.stands c.requires.noted) c.in-Some.is;
      is = ap (found_meaning store) (sym c.in-Some.is) ∙ c.find.ensures.is c.requires.noted;
      other = test_is is_whole c.is_whole.ensures c.byte.ensures c.if-is_whole.false;
    } in
    let source : ComesFrom (patches_in (records_from store (next_at store c.in-Some.at))) c.args.position c.source_of.result =
    rw (c.next-place.ensures.is delta.begins.0) at c.source_of.ensures in
    located_below delta (source.base _ c.in-Base.is) c.number_at.ensures.0 c.locate.ensures
