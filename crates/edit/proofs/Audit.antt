-- What an auditor asks holds of all calls that promise the definitions, of any shape. Assumes nothing.
use mathlib.Core.Path.{◌≡◌, refl, sym, ap, ◌∙◌}
use mathlib.Core.List.{List}
use Prim.Native.Nat.{ℕ}
use Rattle.refusal.specs.Answer.{Answer, gives}
use Rattle.refusal.proofs.Laws.{never_refused}
use Rattle.ump.specs.Packet.{Shape}
use Rattle.ump.specs.Edits.{Patch}
use Rattle.ump.specs.Worker.{Fits, start}
use Rattle.ump.specs.Demand.{Demand3, Family, Accepts, Audited}
use Rattle.ump.specs.Meets.{PromisedFamily}
use Rattle.ump.specs.Limits.{Dense}
use Rattle.ump.proofs.Checks.{passes_valid}
use Rattle.ump.proofs.Splicing.{repack_done}
use Rattle.ump.proofs.Demand.{same_message}
use Rattle.ump.proofs.Demand3.{two_workers, plain_demand3}
use Rattle.ump.proofs.Origins.{splice_traced, repack_traced}
use Rattle.ump.proofs.Asking.{asked_given}
use Rattle.edit.proofs.AtOnce as all

-- a call whose outcome is the definition's, where that gives one
accepts : {A : Type 0} {Call : Answer A → List ℕ → Type 0} {outcome : Answer A × List ℕ} {value : A} {left : List ℕ}
    → ((answer : Answer A) (after : List ℕ) → Call answer after → ◌≡◌ {A = Answer A × List ℕ} (answer, after) outcome)
    → outcome ≡ (gives value, left) → Call (gives value) left → Accepts Call
accepts {A} {value = value} {left = left} plain e call =
    record { value = value; left = left; call = call; no_refusal = λ c. never_refused (ap (λ (o : Answer A × List ℕ). o.0) (plain _ _ c ∙ e)) }

pub audited : {shape : Shape} → Dense shape → {family : Family} → PromisedFamily shape family → Audited shape family
audited {shape} dense {family} promised =
    record {
      demand3 = demand;
      two_workers = λ fits fits-other g i p order order_other e f w v. two_workers (demand fits) (demand fits-other) g i p e f w v;
      any_order = λ {words = words} {len} {numbers} {bytes} {change} {left} call small fits order each w.
          same_message refl refl refl (all.all_fewest shape words len numbers bytes change left (sym (promised.at_once small call)) small) ((demand fits).result order each w);
      at_once_accepted = λ {words = words} {len} {numbers} {bytes} whole small fits.
          let e = all.all_accepted dense words len numbers bytes fits whole in
          accepts (λ answer after c. promised.at_once small c) e (promised.can_at_once small e);
      repack_accepted = λ {words = words} {len} passes.
          let e =
          repack_done shape _ _ _ _ words len (record { valid = passes_valid shape words len passes; group_is = refl; id_is = refl; carries = refl; buffer = refl })
          in
          accepts (λ answer after c. promised.repacks c) e (promised.can_repack e);
      repack_traced = λ {words = words} {len} {new} {left} call. repack_traced shape words len new left (sym (promised.repacks call));
      splice_traced = λ {words = words} {len} {edit} {bytes} {change} {left} call small.
          splice_traced shape words len edit.from edit.to bytes change left (sym (promised.splices small call)) small;
      at_once_traced = λ {words = words} {len} {numbers} {bytes} {change} {left} call small.
          all.all_traced shape words len numbers bytes change left (sym (promised.at_once small call)) small;
      told = λ {words = words} {len} {numbers} {bytes} {q} {o} ask small. sym (asked_given shape words len numbers bytes q o (sym (promised.asks small ask))).is;
      told_at_once = λ {words = words} {len} {numbers} {bytes} {q} {o} ask small call.
          all.told_at_once shape words len numbers bytes small q o (sym (promised.asks small ask)) (sym (promised.at_once small call));
      told_of_worker = λ {words = words} {len} {numbers} {bytes} {q} {o} ask small fits order each w h.
          all.told_anyhow shape words len numbers bytes small q o (sym (promised.asks small ask)) ((demand fits).result order each w) h;
      asked_accepted = λ {words = words} {len} {numbers} {bytes} {change} {left} call small {q} h.
          let e = all.answered shape words len numbers bytes change left (sym (promised.at_once small call)) q h in
          record { value = _; left = tt; call = promised.can_ask small e; no_refusal = λ c. never_refused (promised.asks small c ∙ e) };
      asked_refused = λ {words = words} {len} {numbers} {bytes} call small {q} ask.
          promised.asks small ask ∙ all.refused_alike shape words len numbers bytes (sym (promised.at_once small call)) q;
    }
  where
    demand : {words : List ℕ} {len : ℕ} {patches : List Patch} → Fits shape words len patches
        → Demand3 shape (λ words. words) (λ edit. edit) family.calls patches (start words len patches)
    demand = plain_demand3 dense (record { splices = λ b e call. promised.splices b call ∙ e; moves = λ e call. promised.moves call ∙ e }) promised.answers
