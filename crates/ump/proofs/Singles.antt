-- A message that passes the check has no packet that the single reader refuses. Assumes nothing.
use mathlib.Core.Path.{◌≡◌, ap, ◌∙◌}
use mathlib.Core.List.{List}
use Prim.Native.Nat.{ℕ, ◌*◌, ◌/◌, ◌<◌}
use native.Mathlib.Nat.{add-zero}
use native.Mathlib.Omega.{arith}
use borrow.Author.Tests.{le-ltb, eq-eqb}
use lib.ListN.{length, get_or, drop, length-drop}
use lib.Seq.{get_or-drop}
use Rattle.refusal.specs.Answer.{gives, pass}
use Rattle.ump.specs.Packet.{sysex8, status_at, count_at}
use Rattle.ump.specs.Check.{bad_type, bad_count, check}
use Rattle.ump.specs.Single.{packet_at, read_packet8}
use Rattle.ump.proofs.Sizes.{status_small}
use Rattle.ump.proofs.Checks.{passes_valid}

module _ (words : List ℕ) (len : ℕ) (passes : check sysex8 words len ≡ pass) (p : ℕ) (in_message : p < len / 4) where
  pub status_four : status_at sysex8 words p < 4
  status_four =
      let v = passes_valid sysex8 words len passes in
      let e : status_at sysex8 words p ≡ _ = v.statuses p (omega (arith, v.whole)) in
      omega (arith, e, status_small v.packets p)

  pub single_read : read_packet8 (drop (4 * p) words) ≡ gives (packet_at words p)
  unfolding read_packet8 bad_type bad_count
  single_read =
      let v = passes_valid sysex8 words len passes in
      let h : p < v.packets = omega (arith, v.whole) in
      let w : get_or (drop (4 * p) words) 0 0 ≡ get_or words (4 * p) 0 = get_or-drop (4 * p) words 0 0 ∙ ap (λ (i : ℕ). get_or words i 0) (add-zero (4 * p)) in
      let k = v.counts p h in
      rw (
        w,
        le-ltb (length (drop (4 * p) words)) 4 (rw length-drop (omega (arith, v.whole, v.inside))),
        eq-eqb _ _ (v.types p h),
        le-ltb 3 (status_at sysex8 words p) (omega (arith, status_four)),
        le-ltb (count_at sysex8 words p) 1 k.0,
        le-ltb 14 (count_at sysex8 words p) k.1,
      )
