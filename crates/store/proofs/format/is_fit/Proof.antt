-- `store::format::is_fit`. Assumes nothing.
use borrow.Author.Rules.{rules}
use mathlib.Core.Path.{sym, ap, ◌∙◌}
use Prim.Native.Nat.{ℕ, ◌+◌}
use lib.ListN.{get_or}
use Rattle.store.specs.Store.{allowed_by}
use Rattle.store.proofs.Grammar.{allowed_here, fit_short, fit_whole}
use Rattle.store.proofs.format.is_fit.Statement.{statement}
use Rattle.store.proofs.format.is_fit.Tie as tie

returns : tie.Need-returns-then-body_here-body_size
returns c =
    let x = c.args in
    fit_short x.store.now x.at x.follow c.body_here.ensures.body (c.body_here.ensures.inside c.requires) c.body_size.ensures.0 c.if-body_here-body_size.true

returns_2 : tie.Need-returns
returns_2 c =
    let x = c.args in
    c.is_allowed.ensures
    ∙ ap (λ (g : ℕ). allowed_by x.follow (get_or x.store.now x.at 0) g c.number_at.result) c.byte.ensures
    ∙ ap (allowed_by x.follow (get_or x.store.now x.at 0) (get_or x.store.now (x.at + 3) 0)) c.number_at.ensures.0
    ∙ allowed_here x.store.now x.at x.follow
    ∙ sym (fit_whole x.store.now x.at x.follow c.body_here.ensures.body (c.body_here.ensures.inside c.requires) c.body_size.ensures.0 c.if-body_here-body_size.false)

pub is_fit_spec : {M : Type 1} → statement M
is_fit_spec =
    tie.close
    (tie.spec
    (λ c. search rules)
    (λ c κs. search rules)
    (λ c κs. search rules)
    returns
    (λ c. search rules)
    (λ c κs. search rules)
    (λ c. search rules)
    (λ c κs. search rules)
    (λ c κs. search rules)
    returns_2)
