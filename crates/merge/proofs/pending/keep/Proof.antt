-- `keep` meets its contract: what is left of a packet, whole packets, and the first bytes of the last. Assumes nothing.
use mathlib.Core.Path.{◌≡◌, refl, ◌∙◌}
use Prim.Native.Nat.{◌+◌, ◌-◌, ◌*◌, ◌/◌, ◌%◌, max}
use native.Mathlib.Omega.{arith}
use borrow.Author.Rules.{rules}
use Rattle.merge.proofs.Goings.{appends_goes, goes_none}
use Rattle.merge.proofs.Keeping.{Parted, parted}
use Rattle.merge.proofs.Keeps.{keep_first, keep_short, keep_run, keep_last, keep_goes}
use Rattle.merge.proofs.pending.keep.Statement.{statement}
use Rattle.merge.proofs.pending.keep.Tie as tie

abbrev start : tie.After-min-some → tie.Start
start l = l.before.before.before

abbrev least-of : tie.After-max-last → tie.After-min-some
least-of m = m.before.before.before.before.before.before.before

-- the numbers, as far as they are known
at_first : (l : tie.After-min-some) → let x = (start l).args in
    Parted x.at x.to (x.at % 13) l.min-some.result ((x.at + 12) / 13) (max ((x.at + 12) / 13) (x.to / 13)) (x.to - 13 * max ((x.at + 12) / 13) (x.to / 13))
at_first l = parted (start l).args.at (start l).args.to _ _ _ _ _ (start l).requires.0 refl l.min-some.ensures refl refl refl

at_most : (m : tie.After-max-last) → let l = least-of m in let x = (start l).args in
    Parted x.at x.to (x.at % 13) l.min-some.result ((x.at + 12) / 13) m.max-last.result (x.to - 13 * m.max-last.result)
at_most m = let l = least-of m in parted (start l).args.at (start l).args.to _ _ _ _ _ (start l).requires.0 refl l.min-some.ensures refl m.max-last.ensures refl

abbrev most-of : tie.After-saturating_sub-rest → tie.After-max-last
most-of o = o.before.before.before.before.before

at-over : (o : tie.After-saturating_sub-rest) → let m = most-of o in let l = least-of m in let x = (start l).args in
    Parted x.at x.to (x.at % 13) l.min-some.result ((x.at + 12) / 13) m.max-last.result o.saturating_sub-rest.result
at-over o = let m = most-of o in let l = least-of m in parted (start l).args.at (start l).args.to _ _ _ _ _ (start l).requires.0 refl l.min-some.ensures refl m.max-last.ensures o.saturating_sub-rest.ensures

append-requires : tie.Need-append-flow-requires
append-requires c κs =
    let n = at_first c.before.before in
    (omega (arith, n.few.1.0), keep_first n (start c.before.before).requires.1.1)

run-requires : tie.Need-run-flow-requires
run-requires c κs =
    let l = least-of c.before in
    let n = at_most c.before in
    let a = c.append-flow.ensures in
    (n.whole, (omega (arith, (appends_goes a (omega (arith, n.few.1.0))).long, n.top, (start l).requires.1.0), keep_run n (start l).requires.1.1 _ c.middle-piece.ensures (start l).requires.0 a))

front-of-requires : tie.Need-front_of-tail-requires
front-of-requires c κs =
    let m = most-of c in
    let l = least-of m in
    let n = at-over c in
    let long = c.run-flow.ensures.long ∙ (appends_goes m.append-flow.ensures (omega (arith, n.few.1.0))).long in
    (n.tail, (omega (arith, n.top, (start l).requires.1.0, (start l).requires.1.1.small), λ h. omega (arith, long, (n.reach h).1, (start l).requires.1.0)))

append-requires-2 : tie.Need-append-requires
append-requires-2 c κs =
    let m = most-of c.before.before in
    let l = least-of m in
    let n = at-over c.before.before in
    (omega (arith, n.tail), keep_last n (start l).requires.1.1 _ m.middle-piece.ensures (start l).requires.0 m.append-flow.ensures c.run-flow.ensures)

returns-3 : tie.Need-returns
returns-3 c =
    let m = most-of c.before.before.before.before.before in
    let l = least-of m in
    keep_goes (at-over c.before.before.before.before.before) (start l).requires.0 _ m.middle-piece.ensures m.append-flow.ensures c.run-flow.ensures
    _ c.front_of-tail.ensures c.append.ensures

-- nothing is kept
returns : tie.Need-returns-then-at-to
returns c =
    let z : c.args.to - c.args.at ≡ 0 = omega (arith, c.if-at-to.true) in
    rw z goes_none

-- all of it stands in one packet
returns_2 : tie.Need-returns-then-to-first
returns_2 c =
    keep_short (at_first c.before.before.before.before.before.before) (start c.before.before.before.before.before.before).requires.0 c.if-to-first.true _ c.middle-piece.ensures c.append-flow.ensures

pub keep_spec : {M : Type 1} → statement M
keep_spec =
    tie.close
    (tie.spec
    returns
    (λ c. search rules)
    (λ c. search rules)
    (λ c κs. search rules)
    (λ c κs. (at_first c).few)
    append-requires
    (λ c. omega (arith, c.requires.0, c.requires.1.0, c.requires.1.1.small))
    (λ c. omega (arith, c.requires.0, c.requires.1.0, c.requires.1.1.small))
    (λ c. (returns_2 c).long)
    returns_2
    (λ c κs. search rules)
    run-requires
    (λ c. let st = start (least-of c.before.before.before.before) in omega (arith, (at_most c.before.before.before.before).top, st.requires.1.0, st.requires.1.1.small))
    (λ c κs. search rules)
    (λ c. let st = start (least-of (most-of c)) in omega (arith, (at-over c).top, st.requires.1.0, st.requires.1.1.small))
    front-of-requires
    append-requires-2
    (λ c. (returns-3 c).long)
    returns-3)
