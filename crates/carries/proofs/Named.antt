-- Each refusal of the call is one of the names, and so its outcome is the meaning of an answer. Assumes nothing.
use Rattle.std.specs.Prelude.{Result, Ok, Err}
use Rattle.refusal.specs.declared.Fault.{Fault}
use mathlib.Core.Path.{◌≡◌, refl}
use mathlib.Core.Bool.{not, ◌||◌}
use mathlib.Core.List.{List}
use Prim.Native.Nat.{ℕ, ◌/◌}
use lib.Dec.{eqb, ltb}
use lib.ListN.{length}
use Rattle.refusal.specs.Answer.{Verdict}
use Rattle.refusal.specs.Number.{Named, accepted, named}
use Rattle.refusal.specs.declared.Refusal.TheVariants.{Field, Other}
use Rattle.refusal.proofs.Laws.{by_guard, by_both}
use Rattle.ump.specs.Packet.{Shape, group_at, id_at}
use Rattle.ump.specs.Check.{first_where, same, payload_of}
use Rattle.ump.proofs.Named.{check_named}
use Rattle.carries.specs.Carries.{other_bytes, carries}
use Rattle.refusal.specs.Meaning.{answer_of}

pub carries_named : (shape : Shape) (words : List ℕ) (len : ℕ) (bytes : List ℕ) (group : ℕ) (id : List ℕ) → Named (carries shape words len bytes group id)
unfolding carries
carries_named shape words len bytes group id =
    by_both _ _ (check_named shape words len)
    (by_both _ _ (by_guard (ltb 15 group) Field 0)
    (by_both _ _ (by_guard (not (eqb (group_at shape words 0) group) || not (same (id_at shape words 0) id)) Other 0)
    (by_both _ _ (by_guard (ltb (first_where (other_bytes shape words bytes) (len / shape.words)) (len / shape.words)) Other _)
    (by_guard (not (eqb (length (payload_of shape words len)) (length bytes))) Other 0))))

abbrev pub said_of : {answer : Verdict} → Named answer → (Result (Unit {0}) Fault)
said_of accepted = (Ok tt)
said_of (named r {place}) = Err (record { refusal = r; place = place })

pub said_meant : {answer : Verdict} (h : Named answer) → answer_of (said_of h) ≡ answer
said_meant accepted = refl
said_meant (named r) = refl
