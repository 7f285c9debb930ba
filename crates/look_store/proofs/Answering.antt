-- What looking for a byte answers. Assumes nothing.
use mathlib.Core.Path.{◌≡◌, sym, ap, ◌∙◌}
use mathlib.Core.List.{List}
use Prim.Native.Nat.{ℕ, suc, ◌≤◌, ◌<◌}
use lib.ListN.{length, get_or}
use Rattle.refusal.specs.Answer.{Answer, gives, refused, pass}
use Rattle.store.specs.Store.{dumps_of, sound}
use Rattle.chain.specs.Restore.{Payload, restored, unlimited}
use Rattle.look.proofs.Nth.{nth_past, nth_there}
use Rattle.look_store.specs.Byte.{byte_found, byte_of_dump}

-- ---- byte i of a dump that is restored, or refused

module _ {answer : Answer Payload} (i : ℕ) where
  pub found_refused : {number place : ℕ} → answer ≡ refused number place → refused number place ≡ byte_found answer i
  found_refused e = ap (λ (a : Answer Payload). byte_found a i) (sym e)

  module _ {p : Payload} (e : answer ≡ gives p) where
    pub found_past : length p.bytes ≤ i → refused 13 0 ≡ byte_found answer i
    found_past h = nth_past p.bytes i h ∙ ap (λ (a : Answer Payload). byte_found a i) (sym e)

    pub found_given : i < length p.bytes → {value : ℕ} → value ≡ get_or p.bytes i 0 → gives value ≡ byte_found answer i
    found_given h v = ap (λ (x : ℕ). gives x) v ∙ nth_there p.bytes i h ∙ ap (λ (a : Answer Payload). byte_found a i) (sym e)

-- ---- the whole call

module _ (store : List ℕ) (n i : ℕ) where
  pub byte_unsound : {number place : ℕ} → sound store ≡ refused number place → refused number place ≡ byte_of_dump store n i
  unfolding byte_of_dump
  byte_unsound e = rw e

  pub byte_is : sound store ≡ pass → byte_found (restored unlimited (dumps_of store) (suc (length (dumps_of store))) n) i ≡ byte_of_dump store n i
  unfolding byte_of_dump
  byte_is e = rw e
