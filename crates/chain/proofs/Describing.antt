-- What describing answers. Assumes nothing.
use Rattle.std.specs.Prelude.{Option}
use mathlib.Core.Path.{◌≡◌}
use mathlib.Core.List.{List}
use Prim.Native.Nat.{ℕ, suc, ◌-◌}
use native.Mathlib.Omega.{arith}
use lib.ListN.{length}
use Rattle.refusal.specs.Answer.{gives, refused, pass}
use Rattle.ump.specs.Packet.{sysex8}
use Rattle.ump.specs.Packing.{words_for}
use Rattle.store.specs.Store.{Dump, dumps_of, sound, held}
use Rattle.chain.specs.Walk.{base_of}
use Rattle.chain.specs.Restore.{restored, unlimited, sizes, described, describe}
use Rattle.chain.specs.Laying.{MeasureOf}
use Rattle.chain.specs.declared.measuring.Extent.{Extent}

pub described_refused : (ds : List Dump) (left n : ℕ) {number place : ℕ} → restored unlimited ds left n ≡ refused number place
    → refused number place ≡ described ds left n
unfolding described
described_refused ds left n e = rw e

pub described_given : (ds : List Dump) (left n : ℕ) (m : Extent) → MeasureOf ds left n m → {base : Option ℕ} {words : ℕ}
    → base ≡ base_of (held ds n) → words ≡ words_for sysex8 m.largest
    → gives (record { base = base; group = m.group; id = m.id; size = m.size; words = words; steps = m.steps }) ≡ described ds left n
unfolding described
described_given ds left n m e b w =
    let steps : m.steps ≡ length (sizes ds left n) - 1 = omega (arith, e.steps) in
    rw (e.is, b, w, e.group, e.id, e.size, e.largest_is, steps)

module _ (store : List ℕ) (n : ℕ) where
  pub describe_unsound : {number place : ℕ} → sound store ≡ refused number place → refused number place ≡ describe store n
  unfolding describe
  describe_unsound e = rw e

  pub describe_is : sound store ≡ pass → described (dumps_of store) (suc (length (dumps_of store))) n ≡ describe store n
  unfolding describe
  describe_is e = rw e
