-- How an exported call answers what the call promises that it wraps. Assumes nothing.
use mathlib.Core.Path.{◌≡◌, ap, ◌∙◌}
use Rattle.std.specs.Prelude.{Result, Ok, Err, MatchResult}
use Rattle.refusal.specs.Answer.{Answer}
use Rattle.refusal.specs.declared.Fault.{Fault}
use Rattle.answers.specs.Answers.{leaving}

-- r is the struct of the value or of the fault that a call said
abbrev pub Struct : {T V A : Type 0} → (Result T Fault → Answer V) → (Answer V → A) → Result T Fault → A → Type 0
Struct meaning struct said r = MatchResult said (λ value. r ≡ struct (meaning (Ok value))) (λ fault. r ≡ struct (meaning (Err fault)))

-- the struct of what the wrapped call says is the struct of what it promises
pub told : {T V A : Type 0} (meaning : Result T Fault → Answer V) (struct : Answer V → A) (said : Result T Fault) {outcome : Answer V} {r : A}
    → Struct meaning struct said r → meaning said ≡ outcome → r ≡ struct outcome
told meaning struct (Ok value) p e = p ∙ ap struct e
told meaning struct (Err fault) p e = p ∙ ap struct e

-- and so with what is lent after the call
pub told_leaving : {T V A Lent : Type 0} (meaning : Result T Fault → Answer V) (struct : Answer V → A) (said : Result T Fault) {after : Lent}
    {outcome : Answer V × Lent} {r : A} → Struct meaning struct said r → (meaning said, after) ≡ outcome → (r, after) ≡ leaving struct outcome
told_leaving meaning struct said {after = after} {outcome = (answer, left)} p e =
    let h = told meaning struct said p (ap (λ (o : _). o.0) e) in
    ap (λ x. (x, after)) h ∙ ap (λ (o : _). (struct answer, o.1)) e
