-- `message::scan::check_packets`: each walk is one of the definition's. Assumes nothing.
use Rattle.std.proofs.Common.{◌≡◌, sym, ap, ◌∙◌, ℕ, ◌*◌, ◌%◌, ◌^◌, rules, get_or, bit_and}
use Rattle.std.proofs.lemmas.Result.{err_from_is_err_and}
use lib.Dec.{eqb}
use mathlib.Core.Bool.{not}
use Rattle.refusal.specs.Answer.{guard}
use Rattle.refusal.specs.Meaning.{answer_of}
use Rattle.message.specs.Scan.{judged, mask_of}
use Rattle.message.proofs.Masks.{one_id_at_most, ids_masked}
use Rattle.message.proofs.InOrder.{id_at}
use Rattle.ump.specs.Check.{sweep, status_number, bad_type, bad_status, bad_count, bad_group, bad_id, check_packets}
use Rattle.message.proofs.scan.check_packets.Given.{Over}
use Rattle.message.proofs.scan.check_packets.Goals.{After-sweep, After-sweep-2, After-sweep-3, After-sweep-4, After-sweep-5}
use Rattle.message.proofs.scan.check_packets.Goals as goal

types : (g : Over) (c : After-sweep g) → answer_of c.sweep.result ≡ sweep g.F.Format.shape (λ p. 5) (bad_type g.F.Format.shape c.args.words.now) c.args.packets
unfolding bad_type
types g c = c.sweep.ensures (λ p. 5) _ (record { agrees = λ p said l h. search rules })

statuses : (g : Over) (c : After-sweep-2 g)
    → answer_of c.sweep-2.result ≡ sweep g.F.Format.shape (status_number c.args.packets) (bad_status g.F.Format.shape c.args.words.now c.args.packets) c.args.packets
unfolding bad_status
statuses g c = c.sweep-2.ensures (status_number c.args.packets) _ (record { agrees = λ p said l h. search rules })

counts : (g : Over) (c : After-sweep-3 g) → answer_of c.sweep-3.result ≡ sweep g.F.Format.shape (λ p. 10) (bad_count g.F.Format.shape c.args.words.now) c.args.packets
unfolding bad_count
counts g c = c.sweep-3.ensures (λ p. 10) _ (record { agrees = λ p said l h. search rules })

groups : (g : Over) (c : After-sweep-4 g) → answer_of c.sweep-4.result ≡ sweep g.F.Format.shape (λ p. 11) (bad_group g.F.Format.shape c.args.words.now) c.args.packets
unfolding bad_group
groups g c = c.sweep-4.ensures (λ p. 11) _ (record { agrees = λ p said l h. search rules })

ids : (g : Over) (c : After-sweep-5 g) → answer_of c.sweep-5.result ≡ sweep g.F.Format.shape (λ p. 12) (bad_id g.F.Format.shape c.args.words.now) c.args.packets
ids g c =
    let s = g.F.Format.shape in
    let w = c.args.words.now in
    let d = one_id_at_most g.F.Format.numbers in
    c.sweep-5.ensures (λ p. 12) _ (record {
      agrees = λ p said l h.
          let x : ℕ = get_or w (s.words * p) 0 in
          let t : judged said ≡ guard (not (eqb (bit_and x (mask_of s) % 2 ^ 16) (bit_and (get_or w 0 0) (mask_of s) % 2 ^ 16))) 12 0 = search rules in
          t ∙ ap (λ b. guard (not b) 12 0) (ids_masked s d x (get_or w 0 0) (c.type_inv.words (s.words * p)).fits (c.type_inv.words 0).fits) ∙ ap (λ b. guard b 12 0) (sym (id_at s w c.args.packets d p));
    })

pub returns-in_err-sweep : goal.returns-in_err-sweep
unfolding check_packets
returns-in_err-sweep g c =
    let p = err_from_is_err_and c.from_residual.result c.from_residual.ensures.1 in
    let a = goal.at.returns-in_err-sweep g c in
    rw (p.1, p.2) (rw (← (types g a.After-sweep), c.in_err-sweep.was))

pub returns-in_err-sweep-2 : goal.returns-in_err-sweep-2
unfolding check_packets
returns-in_err-sweep-2 g c =
    let p = err_from_is_err_and c.from_residual-in_err-sweep-2.result c.from_residual-in_err-sweep-2.ensures.1 in
    let a = goal.at.returns-in_err-sweep-2 g c in
    rw (p.1, p.2) (rw (← (types g a.After-sweep), c.in_ok-sweep.was, ← (statuses g a.After-sweep-2), c.in_err-sweep-2.was))

pub returns-in_err-sweep-3 : goal.returns-in_err-sweep-3
unfolding check_packets
returns-in_err-sweep-3 g c =
    let p = err_from_is_err_and c.from_residual-in_err-sweep-3.result c.from_residual-in_err-sweep-3.ensures.1 in
    let a = goal.at.returns-in_err-sweep-3 g c in
    rw (p.1, p.2)
    (rw (← (types g a.After-sweep), c.in_ok-sweep.was, ← (statuses g a.After-sweep-2), c.in_ok-sweep-2.was, ← (counts g a.After-sweep-3), c.in_err-sweep-3.was))

pub returns-in_err-sweep-4 : goal.returns-in_err-sweep-4
unfolding check_packets
returns-in_err-sweep-4 g c =
    let p = err_from_is_err_and c.from_residual-in_err-sweep-4.result c.from_residual-in_err-sweep-4.ensures.1 in
    let a = goal.at.returns-in_err-sweep-4 g c in
    rw (p.1, p.2)
    (rw (
      ← (types g a.After-sweep),
      c.in_ok-sweep.was,
      ← (statuses g a.After-sweep-2),
      c.in_ok-sweep-2.was,
      ← (counts g a.After-sweep-3),
      c.in_ok-sweep-3.was,
      ← (groups g a.After-sweep-4),
      c.in_err-sweep-4.was,
    ))

pub returns : goal.returns
unfolding check_packets
returns g c =
    let a = goal.at.returns g c in
    rw (
      ← (types g a.After-sweep),
      c.in_ok-sweep.was,
      ← (statuses g a.After-sweep-2),
      c.in_ok-sweep-2.was,
      ← (counts g a.After-sweep-3),
      c.in_ok-sweep-3.was,
      ← (groups g a.After-sweep-4),
      c.in_ok-sweep-4.was,
      ← (ids g a.After-sweep-5),
    )
