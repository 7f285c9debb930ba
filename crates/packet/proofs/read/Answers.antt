-- `packet::read`: too few words, another type, or what is decided. Assumes nothing.
use Rattle.std.proofs.Common.{sym, ◌∙◌, arith}
use Rattle.std.proofs.lemmas.Result.{err_from_is_err_and}
use Rattle.packet.proofs.Laws.{short, foreign, ours}
use Rattle.packet.proofs.read.Goals as goal

pub returns-then-words-WORDS-clause-packet : goal.returns-then-words-WORDS-clause-packet
returns-then-words-WORDS-clause-packet g c =
    rw c.into.ensures
    (short g.F.Format.shape _ _ (omega (arith, g.F.Format.numbers.words_are)) ∙ g.met.F.Single.reads_framed _)

pub returns-then-type_of-TYPE-clause-packet : goal.returns-then-type_of-TYPE-clause-packet
returns-then-type_of-TYPE-clause-packet g c =
    let n = g.F.Format.numbers in
    rw c.into-then-type_of-TYPE.ensures
    (foreign g.F.Format.shape _ _ (omega (arith, n.words_are))
    (λ e. c.if-type_of-TYPE.true (c.type_of.ensures ∙ e ∙ sym n.type_is ∙ sym c.TYPE.ensures))
    ∙ g.met.F.Single.reads_framed _)

pub returns-in_err-decide-clause-packet : goal.returns-in_err-decide-clause-packet
returns-in_err-decide-clause-packet g c =
    let n = g.F.Format.numbers in
    let p = err_from_is_err_and c.from_residual.result c.from_residual.ensures.1 in
    let ours_here =
    ours g.F.Format.shape c.args.words.now (g.F.Single.decided c.args.words.now) (omega (arith, n.words_are))
    (sym c.type_of.ensures ∙ c.if-type_of-TYPE.false ∙ c.TYPE.ensures ∙ n.type_is)
    ∙ g.met.F.Single.reads_framed c.args.words.now in
    rw (p.1, p.2) (rw (← c.in_err-decide.ensures.decision) at ours_here)

pub returns-clause-packet : goal.returns-clause-packet
returns-clause-packet g c =
    let n = g.F.Format.numbers in
    let ours_here =
    ours g.F.Format.shape c.args.words.now (g.F.Single.decided c.args.words.now) (omega (arith, n.words_are))
    (sym c.type_of.ensures ∙ c.if-type_of-TYPE.false ∙ c.TYPE.ensures ∙ n.type_is)
    ∙ g.met.F.Single.reads_framed c.args.words.now in
    rw (← c.in_ok-decide.ensures.decision) at ours_here
