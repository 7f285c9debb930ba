-- A payload that stands in the words, all packets with one head: as it was poured, and where the packets of a message get that head. Assumes nothing.
use mathlib.Core.Path.{◌≡◌, refl, sym, ◌∙◌}
use mathlib.Core.List.{List}
use Prim.Native.Nat.{ℕ, ◌+◌, ◌-◌, ◌*◌, ◌/◌, ◌%◌, ◌^◌, ◌≤◌, ◌<◌}
use native.Mathlib.Nat.{add-zero}
use native.Mathlib.Omega.{arith}
use lib.ListN.{length, take, drop, length-drop}
use lib.Seq.{length-take-le}
use Rattle.ump.specs.Word.{Below}
use Rattle.ump.specs.Packet.{sysex8}
use Rattle.ump.specs.Packing.{packets_for}
use Rattle.ump.proofs.Sizes.{packets_enough}
use Rattle.ump.proofs.Words.{below_take, below_drop}
use Rattle.ump.proofs.First.{Side, under, over, side}
use Rattle.flow.specs.Digits.{val}
use Rattle.flow.specs.Flowing.{Poured}
use Rattle.flow.proofs.Digits.{val-take, val_high, val-fits}
use Rattle.flow.proofs.Puts.{put_is}
use Rattle.merge.specs.Thirteens.{body}
use Rattle.merge.specs.Pieces.{Stands}
use Rattle.merge.proofs.Bodies.{below_body, length-body, body_of_number, val_injective}

-- ---- as it was poured

-- lists of the same number begin alike
begin_alike : (s : ℕ) (xs ys : List ℕ) → s ≤ 13 → s ≤ length xs → s ≤ length ys → Below 256 xs → Below 256 ys → val 13 xs ≡ val 13 ys → take s xs ≡ take s ys
begin_alike s xs ys few long-xs long-ys below-xs below-ys same =
    let e : s + (13 - s) ≡ 13 = omega arith in
    let first : (zs : List ℕ) → Below 256 zs → val s (take s zs) ≡ val 13 zs / 2 ^ (8 * (13 - s)) =
    λ zs below. val-take s s zs (omega arith) ∙ sym (rw e at (val_high s (13 - s) zs below)) in
    val_injective s (take s xs) (take s ys) (length-take-le s xs long-xs) (length-take-le s ys long-ys) (below_take 256 s xs below-xs) (below_take 256 s ys below-ys)
    (first xs below-xs ∙ rw same (sym (first ys below-ys)))

pub poured_stands : {w bytes us : List ℕ} {head : ℕ} → Poured sysex8 w bytes head (packets_for sysex8 (length bytes)) us → head % 256 ≡ 0 → Below 256 bytes → Stands us bytes head 0 0
poured_stands {bytes = bytes} {us = us} {head = head} p plain below = record {
  whole = λ q r a b c. rw (add-zero q) (p.done (4 * q + r) (omega (arith, packets_enough sysex8 (length bytes))));
  part = λ q s a b c. rw (add-zero q) (part q s b c (side 0 s));
}
  where
    number : (q : ℕ) → q < packets_for sysex8 (length bytes) → val 13 (body us q) ≡ val 13 (drop (13 * q) bytes)
    number q h =
        body_of_number us q head (val 13 (drop (13 * q) bytes)) (λ r l. p.done (4 * q + r) (omega arith) ∙ sym (put_is sysex8 head q _ bytes refl r l))
        (val-fits 13 (drop (13 * q) bytes) (below_drop 256 (13 * q) bytes below)) plain

    part : (q s : ℕ) → s ≤ 13 → 13 * q + s ≤ length bytes → Side 0 s → take s (body us q) ≡ take s (drop (13 * q) bytes)
    part q s few inside (over l _) =
        let z : s ≡ 0 = omega arith in
        rw z
    part q s few inside (under l _) =
        begin_alike s (body us q) (drop (13 * q) bytes) few (omega (arith, length-body us q)) (simp length-drop (omega arith)) (below_body us q) (below_drop 256 (13 * q) bytes below)
        (number q (omega (arith, packets_enough sysex8 (length bytes))))
