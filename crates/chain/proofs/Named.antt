-- Each refusal of restoring and describing is one of the names. Assumes nothing.
use Rattle.std.specs.Prelude.{Option, None, Some}
use mathlib.Core.Bool.{Bool}
use mathlib.Core.List.{List}
use Prim.Native.Nat.{ℕ, zero, suc}
use lib.Dec.{ltb}
use lib.ListN.{length}
use Rattle.refusal.specs.Answer.{Answer, gives, refused, map_answer}
use Rattle.refusal.specs.Number.{Named, accepted, named}
use Rattle.refusal.specs.declared.Refusal.TheVariants.{Long, Range, Room, Missing, Ring}
use Rattle.refusal.proofs.Laws.{by_guard, by_both, writes_named}
use Rattle.ump.specs.Limits.{most_words}
use Rattle.ump.specs.Edits.{Patch}
use Rattle.store.specs.Store.{Dump, whole, delta, dumps_of, held}
use Rattle.store.proofs.Checks.{sound_named}
use Rattle.chain.specs.Restore.{Payload, exceeds, roomed, outside, rebuilt, restored_by, restored, restore, unlimited, described, describe}

roomed_named : (too_long : ℕ → Bool) (p : Payload) → Named (roomed too_long p)
unfolding roomed
roomed_named too_long p = by_both _ _ (by_guard (too_long (length p.bytes)) Room 0) accepted

rebuilt_named : (too_long : ℕ → Bool) (patches : List Patch) (base : Answer Payload) → Named base → Named (rebuilt too_long patches base)
unfolding rebuilt
rebuilt_named too_long patches (gives p) h = by_both _ _ (by_guard (outside (length p.bytes) patches) Range 0) (roomed_named too_long _)
rebuilt_named too_long patches (refused number place) (named r) = named r

pub restored_named : (too_long : ℕ → Bool) (ds : List Dump) (left n : ℕ) → Named (restored too_long ds left n)
unfolding restored
restored_named too_long ds zero n = named Ring
restored_named too_long ds (suc left) n = go (λ b. restored_named too_long ds left b) (held ds n)
  where
    go : ((b : ℕ) → Named (restored too_long ds left b)) → (o : Option Dump) → Named (restored_by too_long (λ b. restored too_long ds left b) o)
    go more None = named Missing
    go more (Some (whole number group id bytes)) = roomed_named too_long _
    go more (Some (delta number base patches)) = rebuilt_named too_long patches _ (more base)

mapped_named : {A B : Type 0} (f : A → B) (answer : Answer A) → Named answer → Named (map_answer f answer)
mapped_named f (gives a) h = accepted
mapped_named f (refused number place) (named r) = named r

module _ (store : List ℕ) (n : ℕ) where
  pub restore_named : (words : List ℕ) → Named (restore store n words).0
  unfolding restore
  restore_named words =
      writes_named _ words _ _
      (by_both _ _ (by_guard (ltb most_words (length words)) Long 0)
      (by_both _ _ (sound_named store) (restored_named (exceeds (length words)) (dumps_of store) (suc (length (dumps_of store))) n)))

  pub describe_named : Named (describe store n)
  unfolding describe described
  describe_named = by_both _ _ (sound_named store) (mapped_named _ _ (restored_named unlimited (dumps_of store) (suc (length (dumps_of store))) n))
