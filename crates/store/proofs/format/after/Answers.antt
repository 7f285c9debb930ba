-- `store::format::after`: by the kind. Assumes nothing.
use Rattle.store.proofs.Grammar.{after_by}
use Rattle.store.proofs.format.after.Goals as goal

pub returns-in-Whole : goal.returns-in-Whole
returns-in-Whole c = after_by c.args.follow c.args.kind c.args.to c.in-Whole.ensures

pub returns-in-Delta : goal.returns-in-Delta
returns-in-Delta c = after_by c.args.follow c.args.kind c.args.to c.in-Delta.ensures

pub returns-in-Edit : goal.returns-in-Edit
returns-in-Edit c = after_by c.args.follow c.args.kind c.args.to c.in-Edit.ensures

pub returns-in-Data : goal.returns-in-Data
returns-in-Data c = after_by c.args.follow c.args.kind c.args.to c.in-Data.ensures

pub returns-in-Other : goal.returns-in-Other
returns-in-Other c = after_by c.args.follow c.args.kind c.args.to c.in-Other.ensures
