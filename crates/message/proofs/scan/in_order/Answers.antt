-- `message::scan::in_order`: each packet passed is at fault exactly if its first word is, and the sums are those of all. Assumes nothing.
use Rattle.std.specs.Prelude.{Some}
use Rattle.std.proofs.Common.{◌≡◌, sym, ap, ◌∙◌, ℕ, ◌+◌, ◌-◌, ◌*◌, ◌%◌, arith, get_or, bit_and}
use Rattle.ump.specs.Word.{nibble}
use Rattle.ump.proofs.Sizes.{status_small}
use Rattle.message.proofs.Laws.{Here, here}
use Rattle.message.proofs.Masks.{one_id_at_most, base_for}
use Rattle.message.proofs.InOrder.{fault_at, fault_first, fault_inner, fault_last, count_first, gathered_start, gathered_more, gathered_all, gathered_small, counts_reach, some_fault, no_fault, alone}
use Rattle.message.proofs.scan.in_order.Given.{Over}
use Rattle.message.proofs.scan.in_order.Goals.{After-at_fault, In-loop-packet}
use Rattle.message.proofs.scan.in_order.Goals as goal

-- what the code reads: the numbers of the shape
stride : (g : Over) {words : ℕ} → words ≡ g.F.Format.WORDS → words ≡ g.F.Format.shape.words
stride g e = e ∙ g.F.Format.numbers.words_are

base : (g : Over) (c : After-at_fault g)
    → c.TYPE.result * 268435456 + c.group_of.result * 16777216 + bit_and (get_or c.args.words.now 0 0) c.mask_of.result % 65536
    ≡ base_for g.F.Format.shape (get_or c.args.words.now 0 0)
base g c = rw (c.TYPE.ensures, g.F.Format.numbers.type_is, c.group_of.ensures, c.mask_of.ensures)

first : (g : Over) (c : After-at_fault g)
    → c.at_fault.result ≡ fault_at g.F.Format.shape c.args.words.now c.args.packets 0
first g c =
    rw (base g c) at c.at_fault.ensures ∙ fault_first g.F.Format.shape c.args.words.now c.args.packets c.status_for-status.ensures

pub overflow_add-base-3 : goal.overflow_add-base-3
overflow_add-base-3 g c =
    let n = g.F.Format.numbers in
    record { fits = omega (arith, c.TYPE.ensures, n.type_is, g.F.Format.shape.type_fits, c.group_of.ensures, c.status_for-status.ensures, status_small c.args.packets 0) }

pub returns-then-at_fault : goal.returns-then-at_fault
returns-then-at_fault g c =
    some_fault _ _ _ (one_id_at_most g.F.Format.numbers) (λ i. (c.type_inv.words i).fits)
    (0, c.requires.1, sym (first g (goal.at.returns-then-at_fault g c).After-at_fault) ∙ c.if-at_fault.true)

pub returns-then-last-eq0 : goal.returns-then-last-eq0
returns-then-last-eq0 g c =
    let clear = sym (first g (goal.at.returns-then-last-eq0 g c).After-at_fault) ∙ c.if-at_fault.false in
    let s = g.F.Format.shape in
    let less : c.count_of-counts.result - c.BIAS.result ≡ nibble (get_or c.args.words.now 0 0) 3 - s.bias =
    omega (arith, c.count_of-counts.ensures, c.BIAS.ensures, g.F.Format.numbers.bias_is)
    in
    ap Some less ∙ alone s _ _ (one_id_at_most g.F.Format.numbers) (λ i. (c.type_inv.words i).fits) c.requires.0 (omega arith) clear

pub loop-packet-init : goal.loop-packet-init
loop-packet-init g c =
    let w = stride g c.WORDS.ensures in
    let b = base g (goal.at.loop-packet-init g c).After-at_fault in
    let s = g.F.Format.shape in
    gathered_start _ _ _ (omega arith) (sym (first g (goal.at.loop-packet-init g c).After-at_fault) ∙ c.if-at_fault.false)
    (rw (b, w) at c.at_fault-bad.ensures ∙ fault_last s c.args.words.now c.args.packets (c.args.packets - 1) (omega arith) (omega arith))
    (omega (arith, rw w at c.count_of.ensures, c.count_of-counts.ensures, count_first s c.args.words.now c.args.packets))

-- the first word of a packet in the loop
inside : (g : Over) (c : In-loop-packet g) → Here g.F.Format.shape.words c.loop-packet.packet c.args.words.now
inside g c = here c.loop-packet.packet c.requires.0 (omega arith)

pub overflow_mul-word : goal.overflow_mul-word
overflow_mul-word g c = rw (stride g c.WORDS-in-loop-packet.ensures) (inside g (goal.at.overflow_mul-word g c).In-loop-packet).fits

pub offset_bounds-words-WORDS-in-loop-packet : goal.offset_bounds-words-WORDS-in-loop-packet
offset_bounds-words-WORDS-in-loop-packet g c =
    rw (stride g c.WORDS-in-loop-packet.ensures) (inside g (goal.at.offset_bounds-words-WORDS-in-loop-packet g c).In-loop-packet).bytes_fit

pub bounds-words-WORDS-in-loop-packet : goal.bounds-words-WORDS-in-loop-packet
bounds-words-WORDS-in-loop-packet g c =
    rw (stride g c.WORDS-in-loop-packet.ensures) (inside g (goal.at.bounds-words-WORDS-in-loop-packet g c).In-loop-packet).index

pub overflow_add-counts-in-loop-packet : goal.overflow_add-counts-in-loop-packet
overflow_add-counts-in-loop-packet g c =
    let s = gathered_small _ _ _ c.loop-packet.invariant in
    let h = inside g (goal.at.overflow_add-counts-in-loop-packet g c).In-loop-packet in
    record { fits = omega (arith, c.count_of-in-loop-packet.ensures) }

pub loop-packet-preserved : goal.loop-packet-preserved
loop-packet-preserved g c =
    let w = stride g c.WORDS-in-loop-packet.ensures in
    let b = base g (goal.at.loop-packet-preserved g c).After-at_fault in
    gathered_more _ _ _ c.loop-packet.invariant (omega arith)
    (rw (b, w) at c.at_fault-bad-in-loop-packet.ensures ∙ fault_inner g.F.Format.shape c.args.words.now c.args.packets c.loop-packet.packet (omega arith) (omega arith))
    (rw w at c.count_of-in-loop-packet.ensures)

pub returns-then-bad : goal.returns-then-bad
returns-then-bad g c =
    some_fault _ _ _ (one_id_at_most g.F.Format.numbers) (λ i. (c.type_inv.words i).fits) (c.loop-packet.invariant.fault c.if-bad.true)

pub overflow_mul-result : goal.overflow_mul-result
overflow_mul-result g c =
    let a = gathered_all _ _ _ c.loop-packet.invariant (omega arith) (omega arith) c.if-bad.false in
    let bias : c.BIAS-2.result ≡ g.F.Format.shape.bias = c.BIAS-2.ensures ∙ g.F.Format.numbers.bias_is in
    record { fits = rw bias (omega (arith, counts_reach g.F.Format.shape c.args.words.now c.args.packets a.0, a.1, gathered_small _ _ _ c.loop-packet.invariant, c.loop-packet.auto.counts-fits)) }

pub overflow_sub-result-2 : goal.overflow_sub-result-2
overflow_sub-result-2 g c =
    let a = gathered_all _ _ _ c.loop-packet.invariant (omega arith) (omega arith) c.if-bad.false in
    let bias : c.BIAS-2.result ≡ g.F.Format.shape.bias = c.BIAS-2.ensures ∙ g.F.Format.numbers.bias_is in
    rw bias (omega (arith, counts_reach g.F.Format.shape c.args.words.now c.args.packets a.0, a.1))

pub returns : goal.returns
returns g c =
    let a = gathered_all _ _ _ c.loop-packet.invariant (omega arith) (omega arith) c.if-bad.false in
    let bias : c.BIAS-2.result ≡ g.F.Format.shape.bias = c.BIAS-2.ensures ∙ g.F.Format.numbers.bias_is in
    rw (bias, a.1) (no_fault _ _ _ (one_id_at_most g.F.Format.numbers) (λ i. (c.type_inv.words i).fits) c.requires.0 a.0)
