-- Byte i of a payload, and of a message that carries it. Assumes nothing.
use mathlib.Core.Path.{◌≡◌, ◌∙◌}
use mathlib.Core.List.{List}
use Prim.Native.Nat.{ℕ, ◌≤◌, ◌<◌}
use lib.Dec.{leb}
use lib.ListN.{length, get_or}
use borrow.Author.Tests.{lt-leb, le-leb}
use Rattle.refusal.specs.Answer.{gives, refused}
use Rattle.refusal.specs.Number.{Named, accepted}
use Rattle.refusal.specs.declared.Refusal.TheVariants.{Range}
use Rattle.refusal.proofs.Laws.{never_refused, by_guard, by_both}
use Rattle.ump.specs.Packet.{Shape}
use Rattle.ump.specs.Setters.{nth_byte, get_byte}
use Rattle.ump.specs.Holds.{Holds}
use Rattle.ump.proofs.Checks.{valid_passes}
use Rattle.ump.proofs.First.{Side, under, over, side}

module _ (bytes : List ℕ) (i : ℕ) where
  pub nth_past : length bytes ≤ i → refused 13 0 ≡ nth_byte bytes i
  nth_past h = rw (le-leb (length bytes) i h)

  pub nth_there : i < length bytes → gives (get_or bytes i 0) ≡ nth_byte bytes i
  nth_there h = rw (lt-leb (length bytes) i h)

  pub nth_given : {b : ℕ} → nth_byte bytes i ≡ gives b → (i < length bytes) × (b ≡ get_or bytes i 0)
  nth_given {b} e = go (side i (length bytes))
    where
      go : Side i (length bytes) → (i < length bytes) × (b ≡ get_or bytes i 0)
      go (under h f) = let q = nth_there h ∙ e in (h, cc)
      go (over h f) = never_refused (nth_past h ∙ e)

  pub nth_named : Named (nth_byte bytes i)
  nth_named = by_both _ _ (by_guard (leb (length bytes) i) Range 0) accepted

-- read from a message that carries the bytes
pub read_held : (shape : Shape) {group : ℕ} {id bytes : List ℕ} {lent : ℕ} {words : List ℕ} {len : ℕ} → Holds shape group id bytes lent words len
    → (i : ℕ) → get_byte shape words len i ≡ nth_byte bytes i
unfolding get_byte
read_held shape {words = words} {len} h i = rw (valid_passes shape words len h.valid, h.carries)
