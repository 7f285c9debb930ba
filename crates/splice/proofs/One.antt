-- A splice is a list of one edit. Assumes nothing.
use mathlib.Core.Path.{◌≡◌, sym}
use mathlib.Core.List.{List, [], ◌∷◌, append_assoc}
use Prim.Native.Nat.{ℕ, zero, suc, ◌≤◌, ◌<◌}
use native.Mathlib.Omega.{arith}
use lib.ListN.{length, take, drop, length-append, length-take, length-drop}
use lib.Seq.{take_all}
use Rattle.ump.specs.Packet.{sysex8, joined}
use Rattle.ump.specs.Check.{payload_of}
use Rattle.ump.specs.Splice.{spliced}
use Rattle.ump.specs.Edits.{Patch, patch_at, end_before, Apart, edits_from, edits_of, lengths, patches_of, replaced}
use Rattle.splice.specs.Splices.{Possible, new_size}
use Rattle.splice.specs.Merging.{Listed}

-- its numbers
abbrev pub one_edit : ℕ → ℕ → List ℕ → List ℕ
one_edit from to r = from ∷ to ∷ length r ∷ []

alone : (patch : Patch) (n : ℕ) → patch.from ≤ patch.to → patch.to ≤ n → Apart (patch ∷ []) n
alone patch n forward within = record { after = after; forward = ahead; inside = within }
  where
    after : (i : ℕ) → i < 1 → end_before (patch ∷ []) i ≤ (patch_at (patch ∷ []) i).from
    after zero h = omega arith
    after (suc i) h = absurd (omega arith)

    ahead : (i : ℕ) → i < 1 → (patch_at (patch ∷ []) i).from ≤ (patch_at (patch ∷ []) i).to
    ahead zero h = forward
    ahead (suc i) h = absurd (omega arith)

module _ (from to : ℕ) (r : List ℕ) where
  pub one-replaced : (p : List ℕ) → replaced p (patches_of (edits_of (one_edit from to r)) r) ≡ spliced p from to r
  unfolding replaced joined edits_from
  one-replaced p = rw (take_all (length r) r (omega arith)) (append_assoc (take from p) r (drop to p))

  one_given : lengths (edits_of (one_edit from to r)) ≡ length r
  unfolding edits_from
  one_given = omega arith

  one_apart : (n : ℕ) → from ≤ to → to ≤ n → Apart (patches_of (edits_of (one_edit from to r)) r) n
  unfolding edits_from
  one_apart n forward within = alone (record { from = from; to = to; bytes = take (length r) r }) n forward within

  pub one-listed : {w : List ℕ} {len size : ℕ} → Possible w r len size from to → Listed w len size (new_size size from to r) (one_edit from to r) r
  one-listed {w} {len} {size} ok = record {
    passed = ok.passed;
    apart = one_apart size ok.forward ok.inside;
    given = one_given;
    sized = rw (one-replaced (payload_of sysex8 w len)) (sym (simp (length-append, length-take, length-drop) (omega (arith, ok.passed.sized, ok.forward, ok.inside))));
    room = ok.room;
  }
