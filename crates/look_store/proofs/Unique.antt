-- Any two outcomes that the promise of `byte` allows are equal, and each refusal is one of the names. Assumes nothing.
use mathlib.Core.Path.{sym, ◌∙◌}
use mathlib.Core.List.{List}
use Prim.Native.Nat.{ℕ, suc}
use lib.ListN.{length}
use Rattle.refusal.specs.Answer.{Answer, gives, refused}
use Rattle.refusal.specs.Number.{Named, named}
use Rattle.refusal.specs.Tight.{FixesResult}
use Rattle.refusal.proofs.Laws.{by_both, answer_once}
use Rattle.store.specs.Store.{dumps_of}
use Rattle.store.proofs.Checks.{sound_named}
use Rattle.chain.specs.Restore.{Payload, unlimited}
use Rattle.chain.proofs.Named.{restored_named}
use Rattle.look.proofs.Nth.{nth_named}
use Rattle.look_store.specs.Byte.{byte_found, byte_of_dump}
use Rattle.look_store.proofs.byte.Kinds as byte-kinds
use Rattle.look_store.proofs.byte.Reads as byte

byte_unique : FixesResult 1 byte-kinds.ps byte-kinds.r byte.Post
byte_unique κs a x y s t p q = answer_once x y (p ∙ sym q)

-- ---- each refusal is one of the names

pub byte_named : (store : List ℕ) (n i : ℕ) → Named (byte_of_dump store n i)
unfolding byte_of_dump
byte_named store n i = by_both _ _ (sound_named store) (found _ (restored_named unlimited (dumps_of store) (suc (length (dumps_of store))) n))
  where
    found : (answer : Answer Payload) → Named answer → Named (byte_found answer i)
    found (gives payload) h = nth_named payload.bytes i
    found (refused number place) (named r) = named r
