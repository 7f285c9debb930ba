-- `replace_all` meets its contract: one head in all packets, all edits, both heads anew, and zeros. Assumes nothing.
use mathlib.Core.Path.{◌∙◌}
use mathlib.Core.List.{List}
use Prim.Native.Nat.{ℕ, ◌^◌, ◌<◌}
use native.Mathlib.Omega.{arith}
use lib.ListN.{get_or}
use borrow.Author.Rules.{rules}
use Rattle.ump.specs.Packet.{sysex8}
use Rattle.ump.proofs.Words.{below_at}
use Rattle.flow.specs.Heads.{inner_head}
use Rattle.splice.specs.Header.{leveled}
use Rattle.splice.specs.Merging.{EndsAll}
use Rattle.splice.proofs.Messages.{inside}
use Rattle.splice.proofs.Replaces.{replace_begins, replace_ends}
use Rattle.splice.proofs.replacing.replace_all.Statement.{statement}
use Rattle.splice.proofs.replacing.replace_all.Tie as tie

abbrev fill-of : tie.After-base_of-base → tie.After-fill-filled
fill-of b = b.before.before.before.before

abbrev end_of : tie.After-base_of-base → tie.After-words_needed-end
end_of b = (fill-of b).before.before

abbrev start : tie.After-base_of-base → tie.Start
start b = (end_of b).before.before.before.before

abbrev base-of : tie.After-level → tie.After-base_of-base
base-of l = l.before.before.before

-- the words once they are filled
abbrev filled-words : tie.After-base_of-base → List ℕ
filled-words b = (fill-of b).fill-filled.new.words

few : (b : tie.After-base_of-base) (k : ℕ) → get_or (filled-words b) k 0 < 2 ^ 32
few b k = omega (arith, b.slice_known-3-1.given k)

merge-all-requires : tie.Need-merge_all-requires
merge-all-requires c κs =
    let b = base-of c.before.before.before in
    rw (c.level.ensures, c.inner_head-head.ensures)
    (replace_begins (start b).requires (fill-of b).fill-filled.ensures (few b) b.base_of-base.result b.base_of-base.ensures)

merged-is : (m : tie.After-merge_all) → let b = base-of m.before.before.before.before in let x = (start b).args in let head = inner_head sysex8 b.base_of-base.result in
    EndsAll (leveled head (filled-words b) (fill-of b).fill-filled.result) head x.size x.total x.numbers.now x.bytes.now m.merge_all.new.words
merged-is m =
    rw (m.level.ensures, m.inner_head-head.ensures) at m.merge_all.ensures

finish-requires : tie.Need-finish-requires
finish-requires c κs =
    let b = base-of c.before.before.before.before.before.before.before in
    let i = inside (fill-of b).fill-filled.ensures.passed in
    (omega (arith, b.base_of-base.ensures), ((end_of b).words_needed-end.ensures, (omega (arith, (end_of b).words_needed-end.ensures, (start b).requires.room), omega (arith, i))))

returns : tie.Need-returns
returns c =
    let b = base-of c.before.before.before.before.before.before.before.before.before.before in
    c.finish.ensures
    ∙ replace_ends (start b).requires (fill-of b).fill-filled.ensures (few b) b.base_of-base.result b.base_of-base.ensures
    (below_at 256 (start b).args.bytes.now (λ k l. omega (arith, (end_of b).shared_slice_known-2-1.given k))) (end_of b).words_needed-end.ensures (merged-is c.before.before.before.before.before.before)

pub replace_all_spec : {M : Type 1} → statement M
replace_all_spec =
    tie.close
    (tie.spec
    (λ c κs. search rules)
    (λ c κs. search rules)
    (λ c. omega (arith, inside c.fill-filled.ensures.passed))
    (λ c κs. search rules)
    (λ c κs. omega (arith, c.base_of-base.ensures))
    (λ c κs. let i = inside (fill-of c.before.before).fill-filled.ensures.passed in (omega (arith, c.inner_head-head.ensures, c.base_of-base.ensures), (omega (arith, i), omega (arith, i))))
    merge-all-requires
    finish-requires
    (λ c. search rules)
    returns)
