-- `store::format::is_allowed`: by the kind. Assumes nothing.
use Rattle.std.proofs.Common.{sym, ap, ◌∙◌}
use mathlib.Core.Bool.{◌&&◌}
use lib.Dec.{leb}
use Rattle.store.proofs.Grammar.{allow_by}
use Rattle.store.proofs.format.is_allowed.Goals as goal

pub returns-in-Whole : goal.returns-in-Whole
returns-in-Whole c = allow_by c.args.follow c.args.kind c.args.group c.args.from c.in-Whole.ensures

pub returns-in-Delta : goal.returns-in-Delta
returns-in-Delta c = allow_by c.args.follow c.args.kind c.args.group c.args.from c.in-Delta.ensures

pub returns-then-follow : goal.returns-then-follow
returns-then-follow c =
    sym (ap (λ b. b && leb c.args.follow.end c.args.from) c.if-follow.true) ∙ allow_by c.args.follow c.args.kind c.args.group c.args.from c.in-Edit.ensures

pub returns-else-follow : goal.returns-else-follow
returns-else-follow c =
    c.if-follow.false ∙ sym (ap (λ b. b && leb c.args.follow.end c.args.from) c.if-follow.false)
    ∙ allow_by c.args.follow c.args.kind c.args.group c.args.from c.in-Edit.ensures

pub returns-in-Data : goal.returns-in-Data
returns-in-Data c = allow_by c.args.follow c.args.kind c.args.group c.args.from c.in-Data.ensures

pub returns-in-Other : goal.returns-in-Other
returns-in-Other c = allow_by c.args.follow c.args.kind c.args.group c.args.from c.in-Other.ensures
